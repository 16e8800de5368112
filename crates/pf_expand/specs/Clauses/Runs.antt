-- The pieces of a text in turn: those of a text that is not chosen are passed over. Words of the code's contracts.
use Rattle.std.specs.Prelude.{ℕ, ◌+◌, ◌-◌, ◌==◌, Bool, true, false, List, [], ◌∷◌, Ok, Err, if◌then◌else◌}
use Rattle.pf_expand.specs.Expansion.{Answer, joined}
use Rattle.pf_expand.specs.declared.run.Mode.{Mode}
use Rattle.pf_expand.specs.declared.run.Mode.TheVariants.{Counts, ToOtherwise, ToEnd}
use Rattle.pf_expand.specs.declared.token.Token.{Token}
use Rattle.pf_expand.specs.declared.token.Token.TheVariants.{Literal, Name, Choose, Otherwise, End}

-- nothing, or a flaw
abbrev pub flaw_alone : Answer → Answer
flaw_alone (Ok bytes) = Ok []
flaw_alone (Err flaw) = Err flaw

-- what a piece that counts adds
abbrev pub counted : (List ℕ → Answer) → Token → Answer
counted values (Literal bytes) = Ok bytes
counted values (Name name) = values name
counted values (Choose name) = flaw_alone (values name)
counted values Otherwise = Ok []
counted values End = Ok []

-- and any piece
abbrev pub added : (List ℕ → Answer) → Mode → Token → Answer
added values Counts token = counted values token
added values (ToOtherwise n) token = Ok []
added values (ToEnd n) token = Ok []

-- which pieces count after the name of a choice: those of its second text, of its first text, or of none
abbrev pub behind_choice : Answer → Mode
behind_choice (Ok []) = ToOtherwise 0
behind_choice (Ok (b ∷ bytes)) = Counts
behind_choice (Err flaw) = ToEnd 0

-- after a piece of a first text that is passed over, with so many choices open in it
abbrev pub behind_first : ℕ → Token → Mode
behind_first n (Literal bytes) = ToOtherwise n
behind_first n (Name name) = ToOtherwise n
behind_first n (Choose name) = ToOtherwise (n + 1)
behind_first n Otherwise = if n == 0 then Counts else ToOtherwise n
behind_first n End = ToOtherwise (n - 1)

-- after a piece that is passed over up to the end of the choice
abbrev pub behind_second : ℕ → Token → Mode
behind_second n (Literal bytes) = ToEnd n
behind_second n (Name name) = ToEnd n
behind_second n (Choose name) = ToEnd (n + 1)
behind_second n Otherwise = ToEnd n
behind_second n End = if n == 0 then Counts else ToEnd (n - 1)

-- after any piece, where this is after the name of a choice
abbrev pub behind : Mode → Mode → Token → Mode
behind choice Counts (Literal bytes) = Counts
behind choice Counts (Name name) = Counts
behind choice Counts (Choose name) = choice
behind choice Counts Otherwise = ToEnd 0
behind choice Counts End = Counts
behind choice (ToOtherwise n) token = behind_first n token
behind choice (ToEnd n) token = behind_second n token

-- the name of a choice, and of no other piece
abbrev pub choice_name : Token → List ℕ
choice_name (Literal bytes) = []
choice_name (Name name) = []
choice_name (Choose name) = name
choice_name Otherwise = []
choice_name End = []

-- the value of pieces in turn
abbrev pub run : (List ℕ → Answer) → Mode → List Token → Answer
run values mode [] = Ok []
run values mode (token ∷ tokens) =
    joined (added values mode token) (run values (behind (behind_choice (values (choice_name token))) mode token) tokens)

-- pieces count
abbrev pub counts : Mode → Bool
counts Counts = true
counts (ToOtherwise n) = false
counts (ToEnd n) = false

-- What is known of values before they are written: their lengths, or why there are none. Words of the code's contracts.
use Rattle.std.specs.Prelude.{ℕ, ◌+◌, ◌==◌, nat_lt, List, [], ◌∷◌, Ok, Err, length, if◌then◌else◌}
use Rattle.pf_expand.specs.Expansion.{Answer, first_flaw, length_limit}
use Rattle.pf_expand.specs.Clauses.Runs.{behind, choice_name}
use Rattle.pf_expand.specs.declared.flaw.Flaw.TheVariants.{TooLong}
use Rattle.pf_expand.specs.declared.run.Mode.{Mode}
use Rattle.pf_expand.specs.declared.run.Mode.TheVariants.{Counts, ToOtherwise, ToEnd}
use Rattle.pf_expand.specs.declared.size.Size.{Size}
use Rattle.pf_expand.specs.declared.size.Size.TheVariants.{Long, Flawed}
use Rattle.pf_expand.specs.declared.token.Token.{Token}
use Rattle.pf_expand.specs.declared.token.Token.TheVariants.{Literal, Name, Choose, Otherwise, End}

-- so many bytes, if that is not above the limit
abbrev pub long : ℕ → Size
long n = if nat_lt length_limit n then Flawed TooLong else Long n

-- the size of a value
abbrev pub size_of : Answer → Size
size_of (Ok bytes) = long (length bytes)
size_of (Err flaw) = Flawed flaw

-- of one value and then the other
abbrev pub joined : Size → Size → Size
joined (Long a) (Long b) = long (a + b)
joined (Long a) (Flawed flaw) = Flawed flaw
joined (Flawed flaw) (Long b) = Flawed flaw
joined (Flawed flaw) (Flawed other) = Flawed (first_flaw flaw other)

-- nothing, or a flaw
abbrev pub flaw_alone : Size → Size
flaw_alone (Long n) = Long 0
flaw_alone (Flawed flaw) = Flawed flaw

-- what a piece that counts adds
abbrev pub counted : (List ℕ → Size) → Token → Size
counted sizes (Literal bytes) = long (length bytes)
counted sizes (Name name) = sizes name
counted sizes (Choose name) = flaw_alone (sizes name)
counted sizes Otherwise = Long 0
counted sizes End = Long 0

-- and any piece
abbrev pub added : (List ℕ → Size) → Mode → Token → Size
added sizes Counts token = counted sizes token
added sizes (ToOtherwise n) token = Long 0
added sizes (ToEnd n) token = Long 0

-- which pieces count after the name of a choice
abbrev pub behind_choice : Size → Mode
behind_choice (Long n) = if n == 0 then ToOtherwise 0 else Counts
behind_choice (Flawed flaw) = ToEnd 0

-- the size of pieces in turn
abbrev pub run : (List ℕ → Size) → Mode → List Token → Size
run sizes mode [] = Long 0
run sizes mode (token ∷ tokens) =
    joined (added sizes mode token) (run sizes (behind (behind_choice (sizes (choice_name token))) mode token) tokens)

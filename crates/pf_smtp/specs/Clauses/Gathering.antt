-- What a line and a piece of the input add to the texts that a session has to write. Words of the code's contracts, between its loop over
-- a piece and the session.
use Rattle.std.specs.Prelude.{◌≡◌, ℕ, ◌++◌, false, List, []}
use Rattle.pf_base.specs.Outside.Objects.{joined}
use Rattle.pf_base.specs.declared.outside.texts.Texts.{Texts}
use Rattle.pf_smtp.specs.Clauses.Feeding.{given, partial_after, texts_given}
use Rattle.pf_smtp.specs.Session.{texts_of}
use Rattle.pf_smtp.specs.Step.{Step, step}
use Rattle.pf_smtp.specs.declared.state.Setup.{Setup}
use Rattle.pf_smtp.specs.declared.state.State.{State}
use Rattle.pf_smtp.specs.declared.progress.Progress.{Progress}

-- a step was made: its texts were gathered, and its state comes next
pub record AddsStep (before now : Texts) (setup : Setup) (next : State) (given : Step) : Type 0 where
  pub texts : now ≡ joined before (texts_of setup given)
  pub state : next ≡ given.next

-- the step of the line of which a session has a prefix and that ends with these bytes
abbrev pub line_given : Progress → List ℕ → Step
line_given s line = step s.setup s.state (s.partial ++ line)

-- a line was answered
pub record AnswersLine (before now : Texts) (old new : Progress) (line : List ℕ) : Type 0 where
  pub texts : now ≡ joined before (texts_of old.setup (line_given old line))
  pub progress : new ≡ record { setup = old.setup; state = (line_given old line).next; partial = [] }

-- the lines that end in a piece were answered
pub record AnswersPiece (before now : Texts) (old new : Progress) (piece : List ℕ) : Type 0 where
  pub texts : now ≡ joined before (texts_given old piece)
  pub setup : new.setup ≡ old.setup
  pub state : new.state ≡ (given old piece).next
  pub partial : new.state.ended ≡ false → new.partial ≡ partial_after old piece

-- what a piece gives is what was gathered, and what the rest of the piece gives from here on
pub record ComesDownTo (before now : Texts) (old new : Progress) (piece left : List ℕ) : Type 0 where
  pub texts : joined before (texts_given old piece) ≡ joined now (texts_given new left)
  pub setup : new.setup ≡ old.setup
  pub state : (given old piece).next ≡ (given new left).next
  pub partial : partial_after old piece ≡ partial_after new left

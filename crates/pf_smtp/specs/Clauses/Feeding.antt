-- What contracts say of a session that is fed piece by piece: its progress between two pieces, and what it wrote. Words of contracts; the
-- session itself is the definition over its whole input.
use Rattle.std.specs.Prelude.{◌≡◌, ℕ, ◌+◌, ◌++◌, Bool, false, List, [], take, if◌then◌else◌}
use Rattle.pf_base.specs.Text.Lines.{lines, rest}
use Rattle.pf_base.specs.Outside.Objects.{Sinks, appended}
use Rattle.pf_base.specs.Clauses.Pieces.{onto_line, unless_line}
use Rattle.pf_base.specs.declared.outside.texts.Texts.{Texts}
use Rattle.pf_smtp.specs.Session.{start, steps, texts_of}
use Rattle.pf_smtp.specs.Step.{Step, line_limit}
use Rattle.pf_smtp.specs.declared.state.Setup.{Setup}
use Rattle.pf_smtp.specs.declared.state.State.{State}
use Rattle.pf_smtp.specs.declared.progress.Progress.{Progress}
use Rattle.pf_smtp.specs.declared.session.Going.{Going}
use Rattle.pf_smtp.specs.declared.session.Going.TheVariants.{More, Ended}

-- a session before its first byte
abbrev pub fresh : Setup → Progress
fresh setup = record { setup = setup; state = start; partial = [] }

-- what a session gives for the bytes that come next
abbrev pub given : Progress → List ℕ → Step
given progress bytes = steps progress.setup progress.state (onto_line progress.partial (lines bytes))

-- what it keeps of a line that has not ended: a carriage return and one byte past the limit tell that a line is too long
abbrev pub partial_after : Progress → List ℕ → List ℕ
partial_after progress bytes = take (line_limit + 2) (unless_line (lines bytes) (progress.partial ++ bytes) (rest bytes))

-- what the bytes that come next have it write
abbrev pub texts_given : Progress → List ℕ → Texts
texts_given progress bytes = texts_of progress.setup (given progress bytes)

-- the session took the bytes: it wrote what they give, and its progress is that after them
pub record Took (before now : Sinks) (old new : Progress) (bytes : List ℕ) : Type 0 where
  pub sinks : now ≡ appended before (texts_given old bytes)
  pub setup : new.setup ≡ old.setup
  pub state : new.state ≡ (given old bytes).next
  -- once it has ended, what it keeps of a line counts for nothing
  pub partial : new.state.ended ≡ false → new.partial ≡ partial_after old bytes

-- the state of a session as contracts see it: whether its greeting was said, or was to be, and its progress
pub record SessionState : Type 0 where
  pub begun : Bool
  pub progress : Progress

-- whether it goes on from a state
abbrev pub going_of : State → Going
going_of state = if state.ended then Ended else More

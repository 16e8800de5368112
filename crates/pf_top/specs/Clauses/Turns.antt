-- The turns of the loop over the input. Words of the code's contracts, between that loop and the session over the whole input.
use Rattle.std.specs.Prelude.{◌≡◌, ℕ, ◌<◌, ◌≤◌, true, false, List, Result, Ok, Err, length}
use Rattle.std.specs.Io.KnownBytes.{IsAtEnd}
use Rattle.pf_base.specs.Outside.Objects.{Streams, StopsBy}
use Rattle.pf_base.specs.Outside.Known.{Takes, failed_input, found_end}
use Rattle.pf_base.specs.declared.outside.texts.SinkFault.{SinkFault}
use Rattle.pf_smtp.specs.Clauses.Feeding.{Took, given, texts_given}
use Rattle.pf_smtp.specs.declared.progress.Progress.{Progress}
use Rattle.pf_top.specs.SessionLoop.{Speech}
use Rattle.pf_top.specs.declared.session_loop.LoopFault.{LoopFault}
use Rattle.pf_top.specs.declared.session_loop.LoopFault.TheVariants as fault
use Rattle.pf_top.specs.declared.session_loop.Turn.{Turn}
use Rattle.pf_top.specs.declared.session_loop.Turn.TheVariants as turn

-- what is said from where a session is
abbrev pub speech_from : Progress → Speech
speech_from progress = record { said = λ taken. texts_given progress taken; over = λ taken. (given progress taken).next.ended }

-- so many bytes passed from the input to the session
pub record Passed (before now : Streams) (old new : Progress) (count : ℕ) : Type 0 where
  pub taken : List ℕ
  pub is : length taken ≡ count
  pub input : Takes before.input now.input taken
  pub took : Took before.sinks now.sinks old new taken

-- a piece of at most so many bytes was taken, and a fault came while what it gives was written
pub record Stops (before now : Streams) (old : Progress) (most : ℕ) (why : SinkFault) : Type 0 where
  pub piece : List ℕ
  pub few : length piece ≤ most
  pub input : Takes before.input now.input piece
  pub stops : StopsBy why before.sinks now.sinks (texts_given old piece)

-- a read of at most so many bytes, and what the session made of it
abbrev pub IsTurn : Streams → Streams → Progress → Progress → ℕ → Result Turn LoopFault → Type 0
IsTurn before now old new most (Ok turn.End) = (now ≡ record before { input = found_end before.input }) × (new ≡ old) × IsAtEnd before.input.left
IsTurn before now old new most (Ok (turn.More count)) = Passed before now old new count × (0 < count) × (count ≤ most) × (new.state.ended ≡ false)
IsTurn before now old new most (Ok (turn.Over count)) = Passed before now old new count × (count ≤ most) × (new.state.ended ≡ true)
IsTurn before now old new most (Err fault.Input) = (now ≡ record before { input = failed_input before.input }) × (new ≡ old)
IsTurn before now old new most (Err (fault.Sink why)) = Stops before now old most why

-- The turns of the loop over the keys of an input. Words of the code's contracts, between that loop and the whole input.
use Rattle.std.specs.Prelude.{◌≡◌, ◌||◌, ◌<◌, ◌≤◌, ◌++◌, ℕ, Bool, List, Result, Ok, Err, length, map}
use Rattle.std.specs.Io.KnownBytes.{IsAtEnd}
use Rattle.pf_base.specs.Clauses.Pieces.{onto_line, unless_line}
use Rattle.pf_base.specs.Outside.Known.{Takes, failed_input, found_end}
use Rattle.pf_base.specs.Outside.Objects.{Sinks, Streams, StopsBy, out_text}
use Rattle.pf_base.specs.Text.Lines.{lines, rest, without_return}
use Rattle.pf_base.specs.declared.outside.texts.SinkFault.{SinkFault}
use Rattle.pf_asks.specs.Looking.{Meaning}
use Rattle.pf_tools.specs.Map.Keys.{answered, last_key, whole_keys}
use Rattle.pf_tools.specs.Map.Lines.{has_value, key_lines}
use Rattle.pf_tools.specs.declared.map.keys.Ended.{Ended}
use Rattle.pf_tools.specs.declared.map.keys.Ended.TheVariants as ended
use Rattle.pf_tools.specs.declared.map.keys.KeysFault.{KeysFault}
use Rattle.pf_tools.specs.declared.map.keys.KeysFault.TheVariants as fault
use Rattle.pf_tools.specs.declared.map.keys.Progress.{Progress}
use Rattle.pf_tools.specs.declared.map.keys.Turn.{Turn}
use Rattle.pf_tools.specs.declared.map.keys.Turn.TheVariants as turn

-- the keys that end in bytes, the first of which has a part before these
abbrev pub keys_ended : List ℕ → List ℕ → List (List ℕ)
keys_ended partial bytes = map without_return (onto_line partial (lines bytes))

-- what there is of a key after them
abbrev pub partial_after : List ℕ → List ℕ → List ℕ
partial_after partial bytes = unless_line (lines bytes) (partial ++ bytes) (rest bytes)

-- the lines of keys were gathered, and this is what there is of the next one
pub record TakesKeys (meaning : Meaning) (before now : List ℕ) (old new : Progress) (keys : List (List ℕ)) (partial : List ℕ) : Type 0 where
  pub text : now ≡ before ++ key_lines meaning keys
  pub found : new.found ≡ (old.found || has_value meaning keys)
  pub partial_is : new.partial ≡ partial

-- what a piece has is what was gathered, and what the rest of the piece has from here on
pub record ComesDownTo (meaning : Meaning) (before now : List ℕ) (old new : Progress) (piece left : List ℕ) : Type 0 where
  pub text : before ++ key_lines meaning (keys_ended old.partial piece) ≡ now ++ key_lines meaning (keys_ended new.partial left)
  pub found : (old.found || has_value meaning (keys_ended old.partial piece)) ≡ (new.found || has_value meaning (keys_ended new.partial left))
  pub partial_is : partial_after old.partial piece ≡ partial_after new.partial left

-- a piece of at most so many bytes was taken, and the lines of the keys that end in it were written
pub record TakesPiece (meaning : Meaning) (before now : Streams) (old new : Progress) (most count : ℕ) : Type 0 where
  pub piece : List ℕ
  pub is : length piece ≡ count
  pub few : count ≤ most
  pub some : 0 < count
  pub input : Takes before.input now.input piece
  pub sinks : now.sinks ≡ answered meaning (keys_ended old.partial piece) before.sinks
  pub found : new.found ≡ (old.found || has_value meaning (keys_ended old.partial piece))
  pub partial_is : new.partial ≡ partial_after old.partial piece

-- a piece was taken, and a fault came while these lines were written
pub record Stops (meaning : Meaning) (before now : Streams) (old : Progress) (most : ℕ) (why : SinkFault) : Type 0 where
  pub piece : List ℕ
  pub few : length piece ≤ most
  pub input : Takes before.input now.input piece
  pub stops : StopsBy why before.sinks now.sinks (out_text (key_lines meaning (keys_ended old.partial piece)))

-- a read of at most so many bytes, and what was made of it
abbrev pub IsTurn : Meaning → Streams → Streams → Progress → Progress → ℕ → Result Turn KeysFault → Type 0
IsTurn meaning before now old new most (Ok turn.End) = (now ≡ record before { input = found_end before.input }) × (new ≡ old) × IsAtEnd before.input.left
IsTurn meaning before now old new most (Ok (turn.More count)) = TakesPiece meaning before now old new most count
IsTurn meaning before now old new most (Err fault.Input) = now ≡ record before { input = failed_input before.input }
IsTurn meaning before now old new most (Err (fault.Sink why)) = Stops meaning before now old most why

-- the last key was answered, of which there is this
pub record Finds (meaning : Meaning) (before now : Sinks) (progress : Progress) (found : Bool) : Type 0 where
  pub sinks : now ≡ answered meaning (last_key progress.partial) before
  pub is : found ≡ (progress.found || has_value meaning (last_key progress.partial))

abbrev pub IsEnd : Meaning → Sinks → Sinks → Progress → Result Ended KeysFault → Type 0
IsEnd meaning before now progress (Ok (ended.AtEnd found)) = Finds meaning before now progress found
IsEnd meaning before now progress (Ok ended.AtBudget) = ⊥
IsEnd meaning before now progress (Err fault.Input) = ⊥
IsEnd meaning before now progress (Err (fault.Sink why)) = StopsBy why before now (out_text (key_lines meaning (last_key progress.partial)))

-- what is kept after bytes from the start
abbrev pub progress_of : Meaning → List ℕ → Progress
progress_of meaning bytes = record { partial = rest bytes; found = has_value meaning (whole_keys bytes) }

-- so many bytes were taken from the start, and the keys that end in them were answered
pub record Passed (meaning : Meaning) (before now : Streams) (progress : Progress) (count : ℕ) : Type 0 where
  pub taken : List ℕ
  pub is : length taken ≡ count
  pub input : Takes before.input now.input taken
  pub sinks : now.sinks ≡ answered meaning (whole_keys taken) before.sinks
  pub progress_is : progress ≡ progress_of meaning taken

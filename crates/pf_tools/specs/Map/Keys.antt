-- The keys of an input (postmap(1), -q -), and what is answered to them. That the input has a budget, and that the bytes come in pieces, is
-- postgate's own.
use Rattle.std.specs.Prelude.{◌≡◌, ◌⊎◌, ℕ, ◌+◌, ◌<◌, ◌≤◌, ◌++◌, Bool, List, [], ◌∷◌, Result, Ok, Err, length, map}
use Rattle.std.specs.Io.KnownBytes.{IsAtEnd}
use Rattle.pf_base.specs.Text.Lines.{lines, rest, without_return}
use Rattle.pf_base.specs.Outside.Objects.{Sinks, Streams, StopsBy, appended, out_text}
use Rattle.pf_base.specs.Outside.Known.{Input, Takes, failed_input, found_end}
use Rattle.pf_base.specs.declared.outside.texts.SinkFault.{SinkFault}
use Rattle.pf_asks.specs.Looking.{Meaning}
use Rattle.pf_tools.specs.Map.Lines.{has_value, key_lines}
use Rattle.pf_tools.specs.declared.map.keys.Ended.{Ended}
use Rattle.pf_tools.specs.declared.map.keys.Ended.TheVariants as ended
use Rattle.pf_tools.specs.declared.map.keys.KeysFault.{KeysFault}
use Rattle.pf_tools.specs.declared.map.keys.KeysFault.TheVariants as fault

-- the keys that line feeds end, without the carriage returns before these; an empty line is a key too
abbrev pub whole_keys : List ℕ → List (List ℕ)
whole_keys bytes = map without_return (lines bytes)

-- the key that no line feed ends: what is after the last one, if there is something
abbrev pub last_key : List ℕ → List (List ℕ)
last_key [] = []
last_key (b ∷ bytes) = (b ∷ bytes) ∷ []

-- the keys of an input that ends after these bytes
abbrev pub keys_of : List ℕ → List (List ℕ)
keys_of bytes = whole_keys bytes ++ last_key (rest bytes)

-- the output took the lines of keys
abbrev pub answered : Meaning → List (List ℕ) → Sinks → Sinks
answered meaning keys before = appended before (out_text (key_lines meaning keys))

-- one read found the end, before the budget was taken: each key of the input was answered
pub record AnswersAll (meaning : Meaning) (budget : ℕ) (before now : Streams) (found : Bool) : Type 0 where
  pub taken : List ℕ
  pub mid : Input
  pub input : Takes before.input mid taken
  pub at_end : IsAtEnd mid.left
  pub end : now.input ≡ found_end mid
  pub within : length taken < budget
  pub sinks : now.sinks ≡ answered meaning (keys_of taken) before.sinks
  pub is : found ≡ has_value meaning (keys_of taken)

-- the budget was taken: each key that a line feed ends was answered
pub record AnswersBudget (meaning : Meaning) (budget : ℕ) (before now : Streams) : Type 0 where
  pub taken : List ℕ
  pub input : Takes before.input now.input taken
  pub all : length taken ≡ budget
  pub sinks : now.sinks ≡ answered meaning (whole_keys taken) before.sinks

-- the input failed just once, before the budget was taken: each key that a line feed ends was answered
pub record AnswersShort (meaning : Meaning) (budget : ℕ) (before now : Streams) : Type 0 where
  pub taken : List ℕ
  pub mid : Input
  pub input : Takes before.input mid taken
  pub broken : now.input ≡ failed_input mid
  pub within : length taken < budget
  pub sinks : now.sinks ≡ answered meaning (whole_keys taken) before.sinks

-- the most bytes of a piece
abbrev pub piece_limit : ℕ
piece_limit = 4096

-- a fault of the output came with a piece, or it was out of memory: the piece was taken, and a prefix of what it adds was written
pub record CutInPiece (meaning : Meaning) (budget : ℕ) (before now : Streams) (why : SinkFault) : Type 0 where
  pub earlier : List ℕ
  pub piece : List ℕ
  pub few : length piece ≤ piece_limit
  pub within : length earlier + length piece ≤ budget
  pub input : Takes before.input now.input (earlier ++ piece)
  pub text : List ℕ
  pub adds : key_lines meaning (whole_keys (earlier ++ piece)) ≡ key_lines meaning (whole_keys earlier) ++ text
  pub stops : StopsBy why (answered meaning (whole_keys earlier) before.sinks) now.sinks (out_text text)

-- it came at the end, with the key that no line feed ends
pub record CutAtEnd (meaning : Meaning) (budget : ℕ) (before now : Streams) (why : SinkFault) : Type 0 where
  pub taken : List ℕ
  pub mid : Input
  pub input : Takes before.input mid taken
  pub at_end : IsAtEnd mid.left
  pub end : now.input ≡ found_end mid
  pub within : length taken < budget
  pub stops : StopsBy why (answered meaning (whole_keys taken) before.sinks) now.sinks (out_text (key_lines meaning (last_key (rest taken))))

-- how the keys of an input are answered by a table
abbrev pub Answers : Meaning → ℕ → Streams → Streams → Result Ended KeysFault → Type 0
Answers meaning budget before now (Ok (ended.AtEnd found)) = AnswersAll meaning budget before now found
Answers meaning budget before now (Ok ended.AtBudget) = AnswersBudget meaning budget before now
Answers meaning budget before now (Err fault.Input) = AnswersShort meaning budget before now
Answers meaning budget before now (Err (fault.Sink why)) = CutInPiece meaning budget before now why ⊎ CutAtEnd meaning budget before now why

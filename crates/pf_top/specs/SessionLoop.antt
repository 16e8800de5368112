-- A session over the input: what is taken, what is written, and how it ends. That the input has a budget, and that the bytes come in pieces, is
-- postgate's own.
use Rattle.std.specs.Prelude.{◌≡◌, ◌⊎◌, ℕ, ◌+◌, ◌<◌, ◌≤◌, ◌++◌, Bool, true, false, List, Result, Ok, Err, length}
use Rattle.std.specs.Io.KnownBytes.{IsAtEnd}
use Rattle.pf_base.specs.Outside.Objects.{Streams, StopsBy, appended, joined, out_text}
use Rattle.pf_base.specs.Outside.Known.{Takes, failed_input, found_end}
use Rattle.pf_base.specs.declared.outside.texts.SinkFault.{SinkFault}
use Rattle.pf_base.specs.declared.outside.texts.Texts.{Texts}
use Rattle.pf_smtp.specs.Session.{session, texts_of}
use Rattle.pf_smtp.specs.Text.{greeting_of}
use Rattle.pf_smtp.specs.declared.state.Setup.{Setup}
use Rattle.pf_top.specs.declared.session_loop.Ended.{Ended}
use Rattle.pf_top.specs.declared.session_loop.Ended.TheVariants as ended
use Rattle.pf_top.specs.declared.session_loop.LoopFault.{LoopFault}
use Rattle.pf_top.specs.declared.session_loop.LoopFault.TheVariants as fault

-- what is said in all for the bytes that were taken, and whether the session is over after them
pub record Speech : Type 0 where
  pub said : List ℕ → Texts
  pub over : List ℕ → Bool

-- a session: its greeting, and then the texts of its steps
abbrev pub speech_of : Setup → Speech
speech_of setup = record {
  said = λ taken. joined (out_text (greeting_of setup.banner)) (texts_of setup (session setup taken));
  over = λ taken. (session setup taken).next.ended;
}

-- the bytes were taken, and all was written that is said for them
pub record Serves (speech : Speech) (before now : Streams) (taken : List ℕ) : Type 0 where
  pub input : Takes before.input now.input taken
  pub sinks : now.sinks ≡ appended before.sinks (speech.said taken)

-- the most bytes of a piece
abbrev pub piece_limit : ℕ
piece_limit = 4096

-- the bytes end in a piece before which the session was not over
pub record HasLastPiece (speech : Speech) (taken : List ℕ) : Type 0 where
  pub earlier : List ℕ
  pub piece : List ℕ
  pub parts : taken ≡ earlier ++ piece
  pub few : length piece ≤ piece_limit
  pub going : speech.over earlier ≡ false

-- after the bytes that were taken, one read found the end, before the budget was taken or the session was over; the session is over with the last
-- piece; or the number of bytes is the budget
abbrev pub EndsAs : Speech → ℕ → Streams → Streams → List ℕ → Ended → Type 0
EndsAs speech budget mid now taken ended.AtEnd =
    (now ≡ record mid { input = found_end mid.input }) × IsAtEnd mid.input.left × (length taken < budget) × (speech.over taken ≡ false)
EndsAs speech budget mid now taken ended.AtOver = (now ≡ mid) × (speech.over taken ≡ true) × (length taken ≤ budget) × HasLastPiece speech taken
EndsAs speech budget mid now taken ended.AtBudget = (now ≡ mid) × (length taken ≡ budget) × (speech.over taken ≡ false)

-- a whole session that may take so many bytes
pub record ServesUntil (speech : Speech) (budget : ℕ) (before now : Streams) (how : Ended) : Type 0 where
  pub taken : List ℕ
  pub mid : Streams
  pub serves : Serves speech before mid taken
  pub ends : EndsAs speech budget mid now taken how

-- a session that is not over, whose input failed just once, before the budget was taken
pub record ServesShort (speech : Speech) (budget : ℕ) (before now : Streams) : Type 0 where
  pub taken : List ℕ
  pub mid : Streams
  pub serves : Serves speech before mid taken
  pub short : length taken < budget
  pub going : speech.over taken ≡ false
  pub broken : now ≡ record mid { input = failed_input mid.input }

-- a session that was not over, with whose next piece a fault of a sink came, or it was out of memory: that piece was taken, and a prefix was written of
-- what is said for it
pub record ServesCut (speech : Speech) (budget : ℕ) (before now : Streams) (why : SinkFault) : Type 0 where
  pub earlier : List ℕ
  pub mid : Streams
  pub serves : Serves speech before mid earlier
  pub going : speech.over earlier ≡ false
  pub piece : List ℕ
  pub few : length piece ≤ piece_limit
  pub within : length earlier + length piece ≤ budget
  pub input : Takes mid.input now.input piece
  pub texts : Texts
  pub adds : speech.said (earlier ++ piece) ≡ joined (speech.said earlier) texts
  pub stops : StopsBy why mid.sinks now.sinks texts

-- how bytes are talked about
abbrev pub Served : Speech → ℕ → Streams → Streams → Result Ended LoopFault → Type 0
Served speech budget before now (Ok how) = ServesUntil speech budget before now how
Served speech budget before now (Err fault.Input) = ServesShort speech budget before now
Served speech budget before now (Err (fault.Sink why)) = ServesCut speech budget before now why

-- the greeting was broken off, and nothing was taken
pub record GreetsShort (setup : Setup) (before now : Streams) (why : SinkFault) : Type 0 where
  pub stops : StopsBy why before.sinks now.sinks (out_text (greeting_of setup.banner))
  pub input : now.input ≡ before.input

-- a session with a client
abbrev pub HasSession : Setup → ℕ → Streams → Streams → Result Ended LoopFault → Type 0
HasSession setup budget before now (Ok how) = ServesUntil (speech_of setup) budget before now how
HasSession setup budget before now (Err fault.Input) = ServesShort (speech_of setup) budget before now
HasSession setup budget before now (Err (fault.Sink why)) = GreetsShort setup before now why ⊎ ServesCut (speech_of setup) budget before now why

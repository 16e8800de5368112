-- A session: its steps over the lines of the whole input, up to the one that ends it (RFC 5321, 2.3.8 for lines, 4.1.1.10 for
-- its end).
use Rattle.std.specs.Prelude.{ℕ, ◌++◌, false, List, [], ◌∷◌, None, if◌then◌else◌}
use Rattle.std.specs.List.{flat_map}
use Rattle.pf_base.specs.Text.Lines.{lines}
use Rattle.pf_base.specs.declared.outside.texts.Texts.{Texts}
use Rattle.pf_smtp.specs.Step.{Step, step}
use Rattle.pf_smtp.specs.Text.{text_of, record_text, log_line}
use Rattle.pf_smtp.specs.declared.state.Setup.{Setup}
use Rattle.pf_smtp.specs.declared.state.State.{State}

-- nothing is said, and the state stays
abbrev pub stays : State → Step
stays state = record { replies = []; records = []; entries = []; next = state }

-- what one step gives, and then what the next ones give
abbrev pub before : Step → Step → Step
before first later = record {
  replies = first.replies ++ later.replies;
  records = first.records ++ later.records;
  entries = first.entries ++ later.entries;
  next = later.next;
}

-- the steps of lines in turn, up to the one that ends the session
unfoldable pub steps : Setup → State → List (List ℕ) → Step
steps setup state [] = stays state
steps setup state (line ∷ lines) =
    if state.ended then stays state else before (step setup state line) (steps setup (step setup state line).next lines)

-- the state at the start
abbrev pub start : State
start = record { line = 0; sender = None; ended = false }

-- a whole session: what it gives for all bytes of its input
abbrev pub session : Setup → List ℕ → Step
session setup input = steps setup start (lines input)

-- the text of its replies
abbrev pub replies_text : Setup → Step → List ℕ
replies_text setup step = flat_map (text_of setup.host) step.replies

-- the text of its record lines
abbrev pub records_text : Step → List ℕ
records_text step = flat_map record_text step.records

-- the text of its log lines
abbrev pub log_text : Step → List ℕ
log_text step = flat_map log_line step.entries

-- the texts of its replies, its record lines and its log lines
abbrev pub texts_of : Setup → Step → Texts
texts_of setup step = record { out = replies_text setup step; mail = records_text step; log = log_text step }

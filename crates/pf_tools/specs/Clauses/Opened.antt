-- What is written of a table that was opened, or that is not. Words of the code's contracts.
use Rattle.std.specs.Prelude.{◌≡◌, ◌⊎◌, ℕ, ◌++◌, List, Option, Result, ⊤, codes, slice_get}
use Rattle.pf_base.specs.Outside.Known.{Tree, failed_tree, replaced}
use Rattle.pf_base.specs.Outside.Objects.{Says, Sinks, log_text, status_of}
use Rattle.pf_base.specs.Refusal.{refusal_line}
use Rattle.pf_base.specs.declared.outside.status.TheConstants.{DONE, FILES_FAILED, NO_MEMORY, REFUSED}
use Rattle.pf_base.specs.declared.outside.texts.SinkFault.{SinkFault}
use Rattle.pf_base.specs.declared.outside.texts.Texts.{Texts}
use Rattle.pf_maincf.specs.File.{failed_line}
use Rattle.pf_asks.specs.Looking.{Meaning}
use Rattle.pf_maps.specs.Clauses.Seen.{OpenTables, meaning_in}
use Rattle.pf_maps.specs.declared.opening.OpenFault.{OpenFault}
use Rattle.pf_maps.specs.declared.opening.OpenFault.TheVariants as open_fault
use Rattle.pf_tools.specs.Map.Lines.{value_at}
use Rattle.pf_tools.specs.declared.map.build.Built.{Built}

-- what the first table means
abbrev pub meant : OpenTables → Meaning
meant tables = meaning_in (slice_get tables.tables 0)

-- the value of a key in it
abbrev pub value_in : OpenTables → List ℕ → Option (List ℕ)
value_in tables key = value_at (meant tables) key

-- texts were said last, and the status is this one or that of what broke them off
pub record Ends (before now : Sinks) (texts : Texts) (status result : ℕ) : Type 0 where
  pub said : Result ⊤ SinkFault
  pub says : Says before now texts said
  pub is : result ≡ status_of status said

-- why a table is not opened was said
abbrev pub SaysUnopened : Sinks → Sinks → OpenFault → ℕ → Type 0
SaysUnopened before now (open_fault.Refused refusal) result = Ends before now (log_text (refusal_line refusal)) REFUSED result
SaysUnopened before now (open_fault.Failed file) result = Ends before now (log_text (failed_line file (codes "read"))) FILES_FAILED result
SaysUnopened before now open_fault.NoMemory result = (now ≡ before) × (result ≡ NO_MEMORY)

-- a cdb was put in its place and its warnings were said; a call on the files failed, which was said after them, and it may be there all the same; or it
-- was out of memory
abbrev pub IsPut : List ℕ → Built → Tree → Tree → Sinks → Sinks → ℕ → Type 0
IsPut name built before now old new result =
    ((now ≡ replaced name built.bytes before) × Ends old new (log_text built.warnings) DONE result)
    ⊎ ((((now ≡ failed_tree before) ⊎ (now ≡ failed_tree (replaced name built.bytes before)))
    × Ends old new (log_text (built.warnings ++ failed_line name (codes "replace"))) FILES_FAILED result)
    ⊎ (((now ≡ before) ⊎ (now ≡ replaced name built.bytes before)) × (new ≡ old) × (result ≡ NO_MEMORY)))

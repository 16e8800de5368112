-- What is read of a line, and which refusals are those of a pattern's size. Words of contracts, by no standard.
use Rattle.std.specs.Prelude.{◌≡◌, ◌⊎◌, ℕ, Bool, true, false, List, Option, Some, Result, Ok, Err, codes, is_some}
use Rattle.std.specs.Str.{bytes_eq}
use Rattle.pf_base.specs.Clauses.Unless.{Unless}
use Rattle.pf_base.specs.declared.refused.ConfFault.{ConfFault}
use Rattle.pf_base.specs.declared.refused.ConfFault.TheVariants as conf_fault
use Rattle.pf_base.specs.declared.refused.Refused.{Refused}
use Rattle.pf_asks.specs.Clauses.Causes.{counted_if}
use Rattle.pf_pcre.specs.declared.entry.Entry.{Entry}
use Rattle.pf_pcre.specs.declared.line.LineFault.{LineFault}
use Rattle.pf_pcre.specs.declared.line.LineFault.TheVariants as line
use Rattle.pf_pcre.specs.declared.patterns.BuildFault.{BuildFault}
use Rattle.pf_pcre.specs.declared.patterns.BuildFault.TheVariants as fault
use Rattle.pf_pcre.specs.declared.reason.Reason.{Reason}
use Rattle.pf_pcre.specs.declared.reason.Reason.TheVariants as reason

-- a reason is that of a pattern's size
abbrev pub is_of_size : Reason → Bool
is_of_size reason.Flag = false
is_of_size reason.Pattern = false
is_of_size reason.PatternSize = true
is_of_size reason.Group = false
is_of_size reason.NoValue = false
is_of_size reason.TooManyRules = false
is_of_size reason.IfWithoutEndif = false
is_of_size reason.EndifWithoutIf = false

abbrev pub is_large : {A : Type 0} → Result A LineFault → Bool
is_large (Ok x) = false
is_large (Err (line.Refused why)) = is_of_size why
is_large (Err line.NoMemory) = false

-- why a line is not taken whose pattern is not built
abbrev pub line_fault : BuildFault → LineFault
line_fault fault.Syntax = line.Refused reason.Pattern
line_fault fault.TooLarge = line.Refused reason.PatternSize
line_fault fault.NoMemory = line.NoMemory

-- what is there, or the fault that is its reason
abbrev pub as_fault : {A : Type 0} → Result A Reason → Result A LineFault
as_fault (Ok x) = Ok x
as_fault (Err why) = Err (line.Refused why)

-- what is read, where a pattern may be refused for its size
abbrev pub Reads : {A : Type 0} → (Bool → Result A Reason) → Result A LineFault → Type 0
Reads answer result = Unless result line.NoMemory (λ r. r ≡ as_fault (answer (is_large r)))

-- a refusal as the fault of a call
abbrev pub as_conf_fault : {A : Type 0} → Result A Refused → Result A ConfFault
as_conf_fault (Ok x) = Ok x
as_conf_fault (Err refusal) = Err (conf_fault.Refused refusal)

-- a file is refused for the size of a pattern
abbrev pub names_size : {A : Type 0} → Result A ConfFault → Bool
names_size (Ok x) = false
names_size (Err (conf_fault.Refused refusal)) = bytes_eq refusal.name (codes "pattern size")
names_size (Err conf_fault.NoMemory) = false

-- the table of a file or its refusal, where just the pattern of the line that is refused for it is too large, if there is one
abbrev pub IsTableOf : (Option ℕ → Result (List Entry) Refused) → Result (List Entry) ConfFault → Type 0
IsTableOf answer result = (large : Option ℕ) × (result ≡ as_conf_fault (answer large)) × (is_some large ≡ names_size result)

-- a count is as it was, or one more where the file is refused for the size of the pattern at a place, whether or not there was memory
-- for the refusal
abbrev pub CountsOnce : (Option ℕ → Result (List Entry) Refused) → ℕ → ℕ → Type 0
CountsOnce answer old new = (new ≡ old) ⊎ ((place : ℕ) × (names_size (as_conf_fault (answer (Some place))) ≡ true) × (new ≡ counted_if true old))

-- How the lines of a table are taken one after the other. Words of contracts, by no standard.
use Rattle.std.specs.Prelude.{◌≡◌, ℕ, suc, ◌-◌, ◌++◌, ◌==◌, Bool, nat_lt, List, [], ◌∷◌, Result, Ok, Err, length, take, ⊤, if◌then◌else◌}
use Rattle.pf_base.specs.Results.{◌>>=◌}
use Rattle.pf_pcre.specs.Tables.{entry_of, most_rules}
use Rattle.pf_pcre.specs.declared.entry.Condition.{Condition}
use Rattle.pf_pcre.specs.declared.entry.Entry.{Entry}
use Rattle.pf_pcre.specs.declared.entry.Entry.TheVariants.{Endif, If, Rule}
use Rattle.pf_pcre.specs.declared.entry.Rule as rules
use Rattle.pf_pcre.specs.declared.line.LineFault.{LineFault}
use Rattle.pf_pcre.specs.declared.line.LineFault.TheVariants as line_fault
use Rattle.pf_pcre.specs.declared.reason.Reason.{Reason}
use Rattle.pf_pcre.specs.declared.reason.Reason.TheVariants as reason
use Rattle.pf_pcre.specs.declared.table.Reading.{Reading}

-- nothing was read yet
abbrev pub start : Reading
start = record { entries = []; rules = 0; pending = [] }

-- a rule more
abbrev pub with_rule : Reading → rules.Rule → Reading
with_rule r rule = record { entries = r.entries ++ (Rule rule ∷ []); rules = suc r.rules; pending = r.pending }

abbrev pub added_rule : Reading → rules.Rule → Result Reading Reason
added_rule r rule = if nat_lt r.rules most_rules then Ok (with_rule r rule) else Err reason.TooManyRules

-- a condition more, which is open
abbrev pub with_condition : Reading → ℕ → Condition → Reading
with_condition r number condition = record { entries = r.entries ++ (If condition ∷ []); rules = r.rules; pending = r.pending ++ (number ∷ []) }

-- the last condition that is open is closed
abbrev pub closed : Reading → Result Reading Reason
closed r =
    if length r.pending == 0 then Err reason.EndifWithoutIf
    else Ok (record { entries = r.entries ++ (Endif ∷ []); rules = r.rules; pending = take (length r.pending - 1) r.pending })

-- a line more
abbrev pub taken : Reading → ℕ → Entry → Result Reading Reason
taken r number (Rule rule) = added_rule r rule
taken r number (If condition) = Ok (with_condition r number condition)
taken r number Endif = closed r

abbrev pub takes : Bool → Reading → ℕ → List ℕ → Result Reading Reason
takes large r number text = entry_of large text >>= taken r number

-- what a call leaves that took a line, or why it did not
abbrev pub Leaves : {A : Type 0} → Result Reading Reason → Reading → Result A LineFault → Type 0
Leaves answer new (Ok done) = answer ≡ Ok new
Leaves answer new (Err (line_fault.Refused why)) = answer ≡ Err why
Leaves answer new (Err line_fault.NoMemory) = ⊤

-- the table, unless a condition is open
abbrev pub finished : Reading → List ℕ → Result (List Entry) (ℕ × Reason)
finished r [] = Ok r.entries
finished r (number ∷ pending) = Err (number, reason.IfWithoutEndif)

-- How the lines of a table are taken one after the other. Words of contracts, by no standard.
use Rattle.std.specs.Prelude.{◌≡◌, ℕ, ◌-◌, ◌++◌, ◌==◌, List, [], ◌∷◌, Result, Ok, Err, length, take, ⊤, if◌then◌else◌}
use Rattle.pf_base.specs.Results.{◌>>=◌}
use Rattle.pf_cidr.specs.Tables.{Table, entry_of, value_of}
use Rattle.pf_cidr.specs.declared.entry.Entry.{Entry}
use Rattle.pf_cidr.specs.declared.entry.Entry.TheVariants.{Endif, If, Rule}
use Rattle.pf_cidr.specs.declared.entry.Pattern.{Pattern}
use Rattle.pf_cidr.specs.declared.reason.Reason.{Reason}
use Rattle.pf_cidr.specs.declared.reason.Reason.TheVariants as reason
use Rattle.pf_cidr.specs.declared.table.LineFault.{LineFault}
use Rattle.pf_cidr.specs.declared.table.LineFault.TheVariants as line_fault
use Rattle.pf_cidr.specs.declared.table.Reading.{Reading}

-- a rule more
abbrev pub with_rule : Reading → Pattern → List ℕ → Reading
with_rule r pattern value = record { entries = r.entries ++ (Rule pattern ∷ []); results = r.results ++ (value ∷ []); pending = r.pending }

-- a condition more, which is open
abbrev pub with_condition : Reading → ℕ → Pattern → Reading
with_condition r number pattern = record { entries = r.entries ++ (If pattern ∷ []); results = r.results; pending = r.pending ++ (number ∷ []) }

-- the last condition that is open is closed
abbrev pub closed : Reading → Result Reading Reason
closed r =
    if length r.pending == 0 then Err reason.EndifWithoutIf
    else Ok (record { entries = r.entries ++ (Endif ∷ []); results = r.results; pending = take (length r.pending - 1) r.pending })

-- a line more
abbrev pub taken : Reading → ℕ → List ℕ → Entry → Result Reading Reason
taken r number value (Rule pattern) = Ok (with_rule r pattern value)
taken r number value (If pattern) = Ok (with_condition r number pattern)
taken r number value Endif = closed r

abbrev pub takes : Reading → ℕ → List ℕ → Result Reading Reason
takes r number text = entry_of text >>= taken r number (value_of text)

-- what a call leaves that took a line, or why it did not
abbrev pub Leaves : {A : Type 0} → Result Reading Reason → Reading → Result A LineFault → Type 0
Leaves answer new (Ok done) = answer ≡ Ok new
Leaves answer new (Err (line_fault.Refused why)) = answer ≡ Err why
Leaves answer new (Err line_fault.NoMemory) = ⊤

-- the table, unless a condition is open
abbrev pub finished : Reading → List ℕ → Result Table (ℕ × Reason)
finished r [] = Ok (record { entries = r.entries; results = r.results })
finished r (number ∷ pending) = Err (number, reason.IfWithoutEndif)

-- Tables of nets (cidr_table(5)). That an address of the other family matches a pattern after `!`, and the words of the reasons, are
-- postgate's own.
use Rattle.std.specs.Prelude.{ℕ, zero, suc, ◌==◌, Bool, true, false, not, List, [], ◌∷◌, Option, Some, None, Result, Ok, Err, codes, length, map, take, drop, slice_index, if◌then◌else◌}
use Rattle.std.specs.List.{flat_map, list_all, position_from, position_or_len}
use Rattle.pf_base.specs.Text.Ascii as ascii
use Rattle.pf_base.specs.Text.Logical.{Grouped, Physical, grouped, physical_lines}
use Rattle.pf_base.specs.Text.Names.{same_in_any_case}
use Rattle.pf_base.specs.Results.{◌>>=◌}
use Rattle.pf_base.specs.Text.Space.{is_space, trimmed}
use Rattle.pf_base.specs.declared.text.logical.Logical.{Logical}
use Rattle.pf_base.specs.declared.refused.Cause.{Cause}
use Rattle.pf_base.specs.declared.refused.Cause.TheVariants.{C1, C11}
use Rattle.pf_base.specs.declared.refused.Refused.{Refused}
use Rattle.pf_cidr.specs.Nets.{Network, net_has, net_of}
use Rattle.pf_cidr.specs.declared.address.Addr.{Addr}
use Rattle.pf_cidr.specs.declared.entry.Entry.{Entry}
use Rattle.pf_cidr.specs.declared.entry.Entry.TheVariants.{Endif, If, Rule}
use Rattle.pf_cidr.specs.declared.entry.Pattern.{Pattern}
use Rattle.pf_cidr.specs.declared.net.NetFault.{NetFault}
use Rattle.pf_cidr.specs.declared.net.NetFault.TheVariants as net_fault
use Rattle.pf_cidr.specs.declared.reason.Reason.{Reason}
use Rattle.pf_cidr.specs.declared.reason.Reason.TheVariants as reason

-- why a text is no pattern
abbrev pub net_reason : NetFault → Reason
net_reason net_fault.Syntax = reason.Pattern
net_reason net_fault.HostBits = reason.HostBits

-- the words that a refusal names a reason by
unfoldable pub reason_text : Reason → List ℕ
reason_text reason.Pattern = codes "pattern"
reason_text reason.HostBits = codes "host bits"
reason_text reason.NoValue = codes "no value"
reason_text reason.IfWithoutEndif = codes "if without endif"
reason_text reason.EndifWithoutIf = codes "endif without if"

-- the pattern of a net, or of all addresses that it does not have
abbrev pub pattern_with : Bool → Result Network NetFault → Result Pattern Reason
pattern_with negated (Ok net) = Ok (record { negated = negated; net = net })
pattern_with negated (Err fault) = Err (net_reason fault)

-- the pattern that a text writes: a net, or an exclamation mark and a net
abbrev pub pattern_of : List ℕ → Result Pattern Reason
pattern_of text =
    if slice_index text 0 == ascii.exclamation_mark then pattern_with true (net_of (drop 1 text)) else pattern_with false (net_of text)

-- a pattern matches the addresses of its net, or after `!` all others
abbrev pub matches : Addr → Pattern → Bool
matches addr pattern = if pattern.negated then not (net_has pattern.net addr) else net_has pattern.net addr

-- the first word of a line
abbrev pub word_of : List ℕ → List ℕ
word_of text = take (position_or_len is_space text) text

-- what is after its first word
abbrev pub value_of : List ℕ → List ℕ
value_of text = trimmed (drop (position_or_len is_space text) text)

-- a line `if PATTERN`
abbrev pub condition_of : List ℕ → Result Entry Reason
condition_of text = do
  pattern ← pattern_of (value_of text)
  Ok (If pattern)

-- a line `PATTERN RESULT`
abbrev pub rule_of : List ℕ → Result Entry Reason
rule_of text = do
  pattern ← pattern_of (word_of text)
  if length (value_of text) == 0 then Err reason.NoValue else Ok (Rule pattern)

-- what a logical line says
unfoldable pub entry_of : List ℕ → Result Entry Reason
entry_of text =
    if same_in_any_case (trimmed text) (codes "endif") then Ok Endif
    else (if same_in_any_case (word_of text) (codes "if") then condition_of text else rule_of text)

-- a line with its number, what it says, and what is after its first word
pub record Line : Type 0 where
  pub number : ℕ
  pub entry : Entry
  pub value : List ℕ

-- what is there, or why a line is refused and its number
abbrev pub at_line : {A : Type 0} → ℕ → Result A Reason → Result A (ℕ × Reason)
at_line number (Ok x) = Ok x
at_line number (Err why) = Err (number, why)

-- how many conditions are open after a line
abbrev pub open_behind : ℕ → Entry → Result ℕ Reason
open_behind pending (Rule pattern) = Ok pending
open_behind pending (If pattern) = Ok (suc pending)
open_behind zero Endif = Err reason.EndifWithoutIf
open_behind (suc pending) Endif = Ok pending

-- the lines after so many conditions that are open, or the first of them that is refused
abbrev pub lines_of : ℕ → List Logical → Result (List Line) (ℕ × Reason)
lines_of pending [] = Ok []
lines_of pending (logical ∷ lines) = do
  entry ← at_line logical.line (entry_of logical.text)
  behind ← at_line logical.line (open_behind pending entry)
  rest ← lines_of behind lines
  Ok (record { number = logical.line; entry = entry; value = value_of logical.text } ∷ rest)

-- whether a condition is closed by what is after it, where so many further ones are open in it
abbrev pub closes : ℕ → List Entry → Bool
closes inner [] = false
closes inner (Rule pattern ∷ entries) = closes inner entries
closes inner (If pattern ∷ entries) = closes (suc inner) entries
closes zero (Endif ∷ entries) = true
closes (suc inner) (Endif ∷ entries) = closes inner entries

abbrev pub entries_of : List Line → List Entry
entries_of lines = map (λ line. line.entry) lines

-- a condition that nothing after it closes
abbrev pub is_unclosed : Entry → List Entry → Bool
is_unclosed (Rule pattern) behind = false
is_unclosed (If pattern) behind = not (closes zero behind)
is_unclosed Endif behind = false

-- the number of the first line whose condition is never closed
abbrev pub first_unclosed : List Line → Option ℕ
first_unclosed [] = None
first_unclosed (line ∷ lines) = if is_unclosed line.entry (entries_of lines) then Some line.number else first_unclosed lines

-- the result of a line, if it is a rule
abbrev pub result_of : Entry → List ℕ → List (List ℕ)
result_of (Rule pattern) value = value ∷ []
result_of (If pattern) value = []
result_of Endif value = []

abbrev pub results_of : List Line → List (List ℕ)
results_of lines = flat_map (λ line. result_of line.entry line.value) lines

-- what the lines of a table say in order, and the results of its rules
pub record Table : Type 0 where
  pub entries : List Entry
  pub results : List (List ℕ)

-- the table of lines, unless a condition is never closed
abbrev pub unless_unclosed : List Line → Option ℕ → Result Table (ℕ × Reason)
unless_unclosed lines None = Ok (record { entries = entries_of lines; results = results_of lines })
unless_unclosed lines (Some number) = Err (number, reason.IfWithoutEndif)

-- the table of logical lines: the first line that is refused counts, and a condition that is never closed after all other reasons
abbrev pub table_with : List Logical → Result Table (ℕ × Reason)
table_with logical = do
  lines ← lines_of zero logical
  unless_unclosed lines (first_unclosed lines)

-- the refusal of a line
abbrev pub refused : List ℕ → ℕ → Cause → List ℕ → Refused
refused file line cause name = record { file = file; line = line; cause = cause; name = name }

-- a table, or the refusal of its file
abbrev pub or_refused : List ℕ → Result Table (ℕ × Reason) → Result Table Refused
or_refused file (Ok table) = Ok table
or_refused file (Err why) = Err (refused file why.0 C11 (reason_text why.1))

-- a table, unless lines before its first one continue nothing
abbrev pub unless_continued : List ℕ → List Physical → Result Table Refused → Result Table Refused
unless_continued file [] table = table
unless_continued file (line ∷ lines) table = Err (refused file line.number C1 [])

abbrev pub table_in : List ℕ → Grouped → Result Table Refused
table_in file g = unless_continued file g.leading (or_refused file (table_with g.logical))

-- the table of a text, or why its file is refused
unfoldable pub table_of : List ℕ → List ℕ → Result Table Refused
table_of file text = table_in file (grouped (physical_lines text))

-- for each rule in order what has to match: its own pattern and those of the conditions round it, the innermost first
abbrev pub rules_of : List Pattern → List Entry → List (List Pattern)
rules_of conditions [] = []
rules_of conditions (Rule pattern ∷ entries) = (pattern ∷ conditions) ∷ rules_of conditions entries
rules_of conditions (If pattern ∷ entries) = rules_of (pattern ∷ conditions) entries
rules_of conditions (Endif ∷ entries) = rules_of (drop 1 conditions) entries

-- a rule applies where all of this matches
abbrev pub applies : Addr → List Pattern → Bool
applies addr patterns = list_all (matches addr) patterns

-- the number of the first rule that applies, from 0
unfoldable pub first_rule : List Entry → Addr → Option ℕ
first_rule entries addr = position_from (applies addr) 0 (rules_of [] entries)

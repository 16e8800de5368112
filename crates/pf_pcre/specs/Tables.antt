-- Tables of patterns (pcre_table(5)). The words of the reasons and their order, the number of rules, and that nothing is after the
-- flags of a condition are postgate's own.
use Rattle.std.specs.Prelude.{ℕ, zero, suc, ◌==◌, Bool, true, false, not, nat_lt, List, [], ◌∷◌, Option, Some, None, Result, Ok, Err, codes, drop, is_some, length, option_map, take, if◌then◌else◌}
use Rattle.std.specs.List.{list_all, list_any, flat_map, position_or_len}
use Rattle.std.specs.Option.{ok_or, option_or, unwrap_or}
use Rattle.std.specs.Str.Lossy.{utf8_lossy}
use Rattle.pf_base.specs.Text.Logical.{Grouped, Physical, grouped, physical_lines}
use Rattle.pf_base.specs.Text.Names.{same_in_any_case}
use Rattle.pf_base.specs.Results.{◌>>=◌}
use Rattle.pf_base.specs.Text.Space.{is_space, trimmed}
use Rattle.pf_base.specs.declared.text.logical.Logical.{Logical}
use Rattle.pf_base.specs.declared.refused.Cause.{Cause}
use Rattle.pf_base.specs.declared.refused.Cause.TheVariants.{C1, C11}
use Rattle.pf_base.specs.declared.refused.Refused.{Refused}
use Rattle.pf_asks.specs.declared.lookup.Found.{Found}
use Rattle.pf_asks.specs.declared.lookup.Found.TheVariants.{Value, Absent}
use Rattle.pf_asks.specs.Looking.{Meaning}
use Rattle.pf_asks.specs.declared.lookup.Results.{Results}
use Rattle.pf_asks.specs.declared.lookup.Results.TheVariants.{Anything, Listed}
use Rattle.pf_pcre.specs.Patterns.{Written, built_of, expanded, found, groups_of, span_of}
use Rattle.pf_pcre.specs.Pieces.{pieces_of}
use Rattle.pf_pcre.specs.Shape.{Delimited, shape_of}
use Rattle.pf_pcre.specs.Switches.{switches_of}
use Rattle.pf_pcre.specs.declared.entry.Condition.{Condition}
use Rattle.pf_pcre.specs.declared.entry.Entry.{Entry}
use Rattle.pf_pcre.specs.declared.entry.Entry.TheVariants.{Endif, If, Rule}
use Rattle.pf_pcre.specs.declared.entry.Rule as rules
use Rattle.pf_pcre.specs.declared.patterns.BuildFault.{BuildFault}
use Rattle.pf_pcre.specs.declared.patterns.BuildFault.TheVariants as fault
use Rattle.pf_pcre.specs.declared.pieces.Piece.{Piece}
use Rattle.pf_pcre.specs.declared.pieces.Piece.TheVariants.{Byte, Group}
use Rattle.pf_pcre.specs.declared.reason.Reason.{Reason}
use Rattle.pf_pcre.specs.declared.reason.Reason.TheVariants as reason

-- the words that a refusal names a reason by
unfoldable pub reason_text : Reason → List ℕ
reason_text reason.Flag = codes "flag"
reason_text reason.Pattern = codes "pattern"
reason_text reason.PatternSize = codes "pattern size"
reason_text reason.Group = codes "group"
reason_text reason.NoValue = codes "no value"
reason_text reason.TooManyRules = codes "too many rules"
reason_text reason.IfWithoutEndif = codes "if without endif"
reason_text reason.EndifWithoutIf = codes "endif without if"

-- a pattern that was built, or why its line is refused
abbrev pub or_reason : Result Written BuildFault → Result Written Reason
or_reason (Ok written) = Ok written
or_reason (Err fault.Syntax) = Err reason.Pattern
or_reason (Err fault.TooLarge) = Err reason.PatternSize
or_reason (Err fault.NoMemory) = Err reason.Pattern

-- a pattern with its flags; large says that it is refused for its size
abbrev pub pattern_of : Bool → List ℕ → List ℕ → Result Written Reason
pattern_of large flags text = do
  switches ← ok_or (switches_of flags) reason.Flag
  or_reason (built_of large (record { switches = switches; text = text }))

-- the pattern of a line with its flags, which matches or, after an exclamation mark, does not
abbrev pub condition_with : Bool → Delimited → List ℕ → Result Condition Reason
condition_with large shape flags = do
  pattern ← pattern_of large flags shape.pattern
  Ok (record { negated = shape.negated; pattern = pattern })

-- the first word of a text, and what is after it
abbrev pub word_of : List ℕ → List ℕ
word_of text = take (position_or_len is_space text) text

abbrev pub value_of : List ℕ → List ℕ
value_of text = trimmed (drop (position_or_len is_space text) text)

-- how many groups a result may name: those of its pattern, and none after an exclamation mark
abbrev pub groups_for : Condition → ℕ
groups_for condition = if condition.negated then 0 else unwrap_or (groups_of condition.pattern) 0

-- a line `if PATTERN`
abbrev pub condition_of : Bool → List ℕ → Result Entry Reason
condition_of large text = do
  shape ← ok_or (shape_of text) reason.Pattern
  condition ← condition_with large shape shape.behind
  Ok (If condition)

-- a rule with its result
abbrev pub rule_with : Condition → List ℕ → Result Entry Reason
rule_with condition value = do
  pieces ← ok_or (pieces_of (groups_for condition) value) reason.Group
  if length value == 0 then Err reason.NoValue else Ok (Rule (record { condition = condition; pieces = pieces }))

-- a line `PATTERN RESULT`
abbrev pub rule_of : Bool → List ℕ → Result Entry Reason
rule_of large text = do
  shape ← ok_or (shape_of text) reason.Pattern
  condition ← condition_with large shape (word_of shape.behind)
  rule_with condition (value_of shape.behind)

-- what a logical line says; large says that its pattern is refused for its size
unfoldable pub entry_of : Bool → List ℕ → Result Entry Reason
entry_of large text =
    if same_in_any_case (trimmed text) (codes "endif") then Ok Endif
    else (if same_in_any_case (word_of text) (codes "if") then condition_of large (value_of text) else rule_of large text)

-- a line with its number and what it says
pub record Line : Type 0 where
  pub number : ℕ
  pub entry : Entry

-- what is there, or why a line is refused and its number
abbrev pub at_line : {A : Type 0} → ℕ → Result A Reason → Result A (ℕ × Reason)
at_line number (Ok x) = Ok x
at_line number (Err why) = Err (number, why)

-- the most rules that a table has
abbrev pub most_rules : ℕ
most_rules = 500

-- how many rules there are so far, and how many conditions are open
pub record Count : Type 0 where
  pub rules : ℕ
  pub pending : ℕ

-- the same after a line
abbrev pub closed_in : ℕ → ℕ → Result Count Reason
closed_in rules zero = Err reason.EndifWithoutIf
closed_in rules (suc pending) = Ok (record { rules = rules; pending = pending })

abbrev pub counted_behind : Count → Entry → Result Count Reason
counted_behind count (Rule rule) =
    if nat_lt count.rules most_rules then Ok (record { rules = suc count.rules; pending = count.pending }) else Err reason.TooManyRules
counted_behind count (If condition) = Ok (record { rules = count.rules; pending = suc count.pending })
counted_behind count Endif = closed_in count.rules count.pending

-- the place of a line whose pattern is refused for its size, as the next line sees it
abbrev pub is_here : Option ℕ → Bool
is_here None = false
is_here (Some zero) = true
is_here (Some (suc n)) = false

abbrev pub one_less : Option ℕ → Option ℕ
one_less None = None
one_less (Some zero) = None
one_less (Some (suc n)) = Some n

-- the lines after so many rules and conditions, or the first of them that is refused
abbrev pub lines_of : Option ℕ → Count → List Logical → Result (List Line) (ℕ × Reason)
lines_of large count [] = Ok []
lines_of large count (logical ∷ lines) = do
  entry ← at_line logical.line (entry_of (is_here large) logical.text)
  behind ← at_line logical.line (counted_behind count entry)
  rest ← lines_of (one_less large) behind lines
  Ok (record { number = logical.line; entry = entry } ∷ rest)

-- whether a condition is closed by what is after it, where so many further ones are open in it
abbrev pub closes : ℕ → List Entry → Bool
closes inner [] = false
closes inner (Rule rule ∷ entries) = closes inner entries
closes inner (If condition ∷ entries) = closes (suc inner) entries
closes zero (Endif ∷ entries) = true
closes (suc inner) (Endif ∷ entries) = closes inner entries

abbrev pub entries_of : List Line → List Entry
entries_of [] = []
entries_of (line ∷ lines) = line.entry ∷ entries_of lines

-- a condition that nothing after it closes
abbrev pub is_unclosed : Entry → List Entry → Bool
is_unclosed (Rule rule) behind = false
is_unclosed (If condition) behind = not (closes zero behind)
is_unclosed Endif behind = false

-- the number of the first line whose condition is never closed
abbrev pub first_unclosed : List Line → Option ℕ
first_unclosed [] = None
first_unclosed (line ∷ lines) = if is_unclosed line.entry (entries_of lines) then Some line.number else first_unclosed lines

-- the table of lines, unless a condition is never closed
abbrev pub unless_unclosed : List Line → Option ℕ → Result (List Entry) (ℕ × Reason)
unless_unclosed lines None = Ok (entries_of lines)
unless_unclosed lines (Some number) = Err (number, reason.IfWithoutEndif)

abbrev pub no_lines : Count
no_lines = record { rules = 0; pending = 0 }

-- the table of logical lines: the first line that is refused counts, and a condition that is never closed after all other reasons. Large is
-- the place of the line whose pattern is refused for its size, from 0, if there is one.
abbrev pub table_with : Option ℕ → List Logical → Result (List Entry) (ℕ × Reason)
table_with large logical = do
  lines ← lines_of large no_lines logical
  unless_unclosed lines (first_unclosed lines)

-- the refusal of a line
abbrev pub refused : List ℕ → ℕ → Cause → List ℕ → Refused
refused file line cause name = record { file = file; line = line; cause = cause; name = name }

-- a table, or the refusal of its file
abbrev pub or_refused : List ℕ → Result (List Entry) (ℕ × Reason) → Result (List Entry) Refused
or_refused file (Ok table) = Ok table
or_refused file (Err why) = Err (refused file why.0 C11 (reason_text why.1))

-- a table, unless lines before its first one continue nothing
abbrev pub unless_continued : List ℕ → List Physical → Result (List Entry) Refused → Result (List Entry) Refused
unless_continued file [] table = table
unless_continued file (line ∷ lines) table = Err (refused file line.number C1 [])

abbrev pub table_in : Option ℕ → List ℕ → Grouped → Result (List Entry) Refused
table_in large file g = unless_continued file g.leading (or_refused file (table_with large g.logical))

-- the table of a text, or why its file is refused
unfoldable pub table_of : Option ℕ → List ℕ → List ℕ → Result (List Entry) Refused
table_of large file text = table_in large file (grouped (physical_lines text))

-- a condition holds where its pattern matches, or after an exclamation mark where it does not
abbrev pub holds : List ℕ → Condition → Bool
holds text condition = if condition.negated then not (is_some (found condition.pattern text)) else is_some (found condition.pattern text)

-- a result in which no group takes part
abbrev pub plain_piece : Piece → List ℕ
plain_piece (Byte b) = b ∷ []
plain_piece (Group group) = []

abbrev pub plain_value : List Piece → List ℕ
plain_value pieces = flat_map plain_piece pieces

-- the result of a rule in a text, where its own pattern applies
abbrev pub value_without : List ℕ → rules.Rule → Option (List ℕ)
value_without text rule = if is_some (found rule.condition.pattern text) then None else Some (plain_value rule.pieces)

abbrev pub value_with : List ℕ → rules.Rule → Option (List ℕ)
value_with text rule = option_map (λ seen. expanded text (span_of seen) rule.pieces) (found rule.condition.pattern text)

abbrev pub rule_value : List ℕ → rules.Rule → Option (List ℕ)
rule_value text rule = if rule.condition.negated then value_without text rule else value_with text rule

-- a rule with the conditions round it, the innermost first
pub record Within : Type 0 where
  pub conditions : List Condition
  pub rule : rules.Rule

abbrev pub rules_of : List Condition → List Entry → List Within
rules_of conditions [] = []
rules_of conditions (Rule rule ∷ entries) = record { conditions = conditions; rule = rule } ∷ rules_of conditions entries
rules_of conditions (If condition ∷ entries) = rules_of (condition ∷ conditions) entries
rules_of conditions (Endif ∷ entries) = rules_of (drop 1 conditions) entries

-- a rule applies where its pattern does and all conditions round it hold
abbrev pub value_within : List ℕ → Within → Option (List ℕ)
value_within text within = if list_all (holds text) within.conditions then rule_value text within.rule else None

-- the value of the first rule that applies
abbrev pub first_of : List ℕ → List Within → Option (List ℕ)
first_of text [] = None
first_of text (within ∷ rest) = option_or (value_within text within) (first_of text rest)

unfoldable pub first_value : List Entry → List ℕ → Option (List ℕ)
first_value entries text = first_of text (rules_of [] entries)

abbrev pub found_as : Option (List ℕ) → Found
found_as None = Absent
found_as (Some value) = Value value

-- a piece that is a group
abbrev pub is_group : Piece → Bool
is_group (Byte b) = false
is_group (Group group) = true

-- the results of rules in order, and whether one of them names a group
abbrev pub entry_values : Entry → List (List ℕ)
entry_values (Rule rule) = plain_value rule.pieces ∷ []
entry_values (If condition) = []
entry_values Endif = []

abbrev pub names_group : List Piece → Bool
names_group pieces = list_any is_group pieces

abbrev pub has_group : Entry → Bool
has_group (Rule rule) = names_group rule.pieces
has_group (If condition) = false
has_group Endif = false

unfoldable pub results_of : List Entry → Results
results_of entries = if list_any has_group entries then Anything else Listed (flat_map entry_values entries)

-- a table of patterns is asked for the text of a key, and never for parts of it
abbrev pub pcre_meaning : List Entry → Meaning
pcre_meaning entries = record {
  value = λ key. Some (found_as (first_value entries (utf8_lossy key)));
  partial_keys = false;
  results = results_of entries;
}

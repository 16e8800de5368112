-- How a search through a table, and the gathering of its results, go on after one of its lines. Words of contracts, by no standard.
use Rattle.std.specs.Prelude.{ℕ, ◌+◌, ◌-◌, ◌==◌, ◌++◌, Bool, List, [], ◌∷◌, map, Option, None, Some, if◌then◌else◌}
use Rattle.std.specs.List.{flat_map, list_any}
use Rattle.pf_asks.specs.declared.lookup.Results.{Results}
use Rattle.pf_asks.specs.declared.lookup.Results.TheVariants.{Anything, Listed}
use Rattle.pf_pcre.specs.Clauses.Runs.{first_rule}
use Rattle.pf_pcre.specs.Tables.{entry_values, has_group, holds, rule_value}
use Rattle.pf_pcre.specs.declared.parts.Step.{Step}
use Rattle.pf_pcre.specs.declared.parts.Step.TheVariants.{Found, On}
use Rattle.pf_pcre.specs.declared.entry.Entry.{Entry}
use Rattle.pf_pcre.specs.declared.entry.Entry.TheVariants.{Endif, If, Rule}
use Rattle.pf_pcre.specs.declared.parts.Part.{Part}
use Rattle.pf_pcre.specs.declared.parts.Part.TheVariants as part

-- a value that is found ends it
abbrev pub unless_found : Option (List ℕ) → Step
unless_found None = On 0
unless_found (Some value) = Found value

-- after a line, where so many of the open conditions are passed over
abbrev pub stepped : List ℕ → ℕ → Entry → Step
stepped text skipped (Rule rule) = if skipped == 0 then unless_found (rule_value text rule) else On skipped
stepped text skipped (If condition) = if skipped == 0 then (if holds text condition then On 0 else On 1) else On (skipped + 1)
stepped text skipped Endif = On (skipped - 1)

-- what the parts of a table say
abbrev pub said_of : Part → List Entry
said_of (part.Run rules) = map Rule rules
said_of (part.If condition) = If condition ∷ []
said_of part.Endif = Endif ∷ []

abbrev pub all_said : List Part → List Entry
all_said parts = flat_map said_of parts

-- after a part, where so many of the open conditions are passed over
abbrev pub stepped_over : List ℕ → ℕ → Part → Step
stepped_over text skipped (part.Run rules) = if skipped == 0 then unless_found (first_rule text rules) else On skipped
stepped_over text skipped (part.If condition) = stepped text skipped (If condition)
stepped_over text skipped part.Endif = stepped text skipped Endif

-- what comes of further entries after results
abbrev pub results_behind : List (List ℕ) → List Entry → Results
results_behind values entries = if list_any has_group entries then Anything else Listed (values ++ flat_map entry_values entries)

-- the same where all before them may have been listed
abbrev pub results_if : Bool → List (List ℕ) → List Entry → Results
results_if all values entries = if all then results_behind values entries else Anything

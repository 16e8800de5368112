-- The budget of a session as it is written in words. Its greatest value is postgate's own.
use Rattle.std.specs.Prelude.{ℕ, nat_lt, List, Option, Some, None, if◌then◌else◌}
use Rattle.std.specs.Option.{option_and_then}
use Rattle.pf_base.specs.Text.Numbers.{decimal_within}

-- the greatest budget
abbrev pub greatest_budget : ℕ
greatest_budget = 4294967296

-- a number that is not 0
abbrev pub at_least_one : ℕ → Option ℕ
at_least_one number = if nat_lt 0 number then Some number else None

-- a budget: from 1 to the greatest
unfoldable pub budget_of : List ℕ → Option ℕ
budget_of text = option_and_then at_least_one (decimal_within greatest_budget text)

-- Lemmas on braces and their partners.
use Rattle.std.proofs.Common.{ℕ, ◌+◌, nat_lt, List, Option, Some, if◌then◌else◌}
use Rattle.std.specs.Option.{option_map}
use Rattle.pf_base.specs.Text.Braces.{closing, lone_brace}

-- the first brace without a partner, as it is known at a place: the outermost one that is open, or the first one from here on
abbrev pub found_from : ℕ → ℕ → ℕ → List ℕ → Option ℕ
found_from i depth outer rest = if nat_lt (closing rest) depth then Some outer else option_map (λ n. i + n) (lone_brace depth rest)

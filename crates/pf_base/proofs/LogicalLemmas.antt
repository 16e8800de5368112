-- The logical lines so far, once no line follows.
use Rattle.std.proofs.Common.{◌≡◌, List, [], ◌++◌, Option, Some, None, Ok, refl}
use Rattle.std.specs.Option.{option_to_list}
use Rattle.pf_base.specs.Text.Logical.{outcome}
use Rattle.pf_base.specs.Clauses.Gathering.{followed_by}
use Rattle.pf_base.specs.declared.text.logical.Logical.{Logical}

pub outcome_at_end : (closed : List Logical) (last : Option Logical) → outcome (followed_by closed last (record { leading = []; logical = [] })) ≡ Ok (closed ++ option_to_list last)
outcome_at_end closed None = refl
outcome_at_end closed (Some last) = refl

-- What one more line does to the logical lines so far. Words of the code's contracts, between a loop over lines and `logical_lines_of`.
use Rattle.std.specs.Prelude.{◌≡◌, ◌++◌, List, [], ◌∷◌, Option, None, Some, Result, Err, MatchResult}
use Rattle.std.specs.List.{fold}
use Rattle.pf_base.specs.Text.Logical.{Physical, Grouped, continued, unless_ignored, outcome}
use Rattle.pf_base.specs.declared.text.logical.Logical.{Logical}
use Rattle.pf_base.specs.declared.text.logical.Gathered.{Gathered}
use Rattle.pf_base.specs.declared.text.logical.TextFault.{TextFault}
use Rattle.pf_base.specs.declared.text.logical.TextFault.TheVariants.{Continuation}

-- lines so far, the last of which may go on, and then those after them
abbrev pub followed_by : List Logical → Option Logical → Grouped → Grouped
followed_by closed None g = record { leading = g.leading; logical = closed ++ g.logical }
followed_by closed (Some last) g = record { leading = []; logical = closed ++ (fold continued last g.leading ∷ g.logical) }

-- the lines so far, and then those after them
abbrev pub then_grouped : Gathered → Grouped → Grouped
then_grouped gathered g = followed_by gathered.closed gathered.last g

-- a line that starts with space continues the last one, or there is none
abbrev pub IsContinued : {E : Type 0} → Gathered → Gathered → Physical → Result E TextFault → Type 0
IsContinued old new line result = MatchResult result
    (λ _. (last : Logical) × (old.last ≡ Some last) × (new ≡ record { closed = old.closed; last = Some (continued last line) }))
    (λ fault. (old.last ≡ None) × (fault ≡ Continuation line.number))

-- there are no closed lines before the first one
abbrev pub IsBegun : Gathered → Type 0
IsBegun gathered = gathered.last ≡ None → gathered.closed ≡ []

-- whatever lines follow, the text has the logical lines that it has after this one, or the fault
abbrev pub TakesLine : {E : Type 0} → Gathered → Gathered → Physical → Result E TextFault → Type 0
TakesLine old new line result = MatchResult result
    (λ _. (g : Grouped) → then_grouped old (unless_ignored line g) ≡ then_grouped new g)
    (λ fault. IsBegun old → (g : Grouped) → outcome (then_grouped old (unless_ignored line g)) ≡ Err fault)

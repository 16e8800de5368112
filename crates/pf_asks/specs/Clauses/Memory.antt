-- A resolver in memory, as contracts see it: it knows which of its calls fail, and how many there were. It is postgate's own.
use Rattle.std.specs.Prelude.{◌≡◌, ℕ, Bool, true, List, Option, None, Some, length, nat_lt, if◌then◌else◌}
use Rattle.std.specs.List.{list_all}
use Rattle.pf_base.specs.Outside.Counts.{counted_by}
use Rattle.pf_base.specs.Clauses.Memory.{Calls, fails_next, none_made}
use Rattle.pf_asks.specs.Clauses.Causes.{counted_if}
use Rattle.pf_asks.specs.Clauses.Held.{Held}
use Rattle.pf_asks.specs.declared.resolver.Answer.{Answer}
use Rattle.pf_asks.specs.declared.resolver.Answer.TheVariants.{Found, Missing, Again}
use Rattle.pf_asks.specs.declared.resolver.Row.{Row}

-- a call was counted, and its fault where it fails
pub record CountsAsk (old new : Calls) (fails : Bool) : Type 0 where
  pub fails_is : fails ≡ fails_next old
  pub failing : new.failing ≡ old.failing
  pub made : new.made ≡ counted_by 1 old.made
  pub faults : new.faults ≡ counted_if fails old.faults

-- a Found has at least one value
abbrev pub has_values : Answer → Bool
has_values (Found values) = nat_lt 0 (length values)
has_values Missing = true
has_values Again = true

-- each row's Found has
abbrev pub have_values : List Row → Bool
have_values rows = list_all (λ row. has_values row.answer) rows

-- a resolver: its rows, and the calls
pub record MemoryResolver : Type 0 where
  pub rows : List Row
  pub calls : Calls

-- one with these rows, where each Found has a value
abbrev pub resolver_with : List Row → List ℕ → Option MemoryResolver
resolver_with rows failing = if have_values rows then Some (record { rows = rows; calls = none_made failing }) else None

-- what is known of it
abbrev pub resolver_held : MemoryResolver → Held (List Row)
resolver_held resolver = record { content = Some resolver.rows; faults = resolver.calls.faults }

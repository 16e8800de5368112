-- Policy services in memory, as contracts see them: each try gives the next of the outcomes that they are made with. They are postgate's
-- own.
use Rattle.std.specs.Prelude.{◌+◌, ◌-◌, ℕ, ◌++◌, Bool, true, false, List, [], ◌∷◌, Option, None, Some, length, take, drop, nat_lt, if◌then◌else◌}
use Rattle.pf_asks.specs.Clauses.Held.{Held}
use Rattle.pf_asks.specs.Wire.{Open, Wire, next_outcome, reply_bytes}
use Rattle.pf_asks.specs.declared.links.LinkStep.{LinkStep}
use Rattle.pf_asks.specs.declared.links.LinkStep.TheVariants.{Connect, Send, Receive}
use Rattle.pf_asks.specs.declared.links.Outcome.{Outcome}
use Rattle.pf_asks.specs.declared.links.Outcome.TheVariants.{Down, Reply}
use Rattle.pf_asks.specs.declared.links.Request.{Request}

-- the outcome of this place; past the last one every connection is refused
abbrev pub outcome_at : ℕ → List Outcome → Outcome
outcome_at place outcomes = (next_outcome (drop place outcomes)).0

-- it is down at this step
abbrev pub same_step : LinkStep → LinkStep → Bool
same_step Connect Connect = true
same_step Send Send = true
same_step Receive Receive = true
same_step one other = false

abbrev pub is_down_at : LinkStep → Outcome → Bool
is_down_at step (Down at) = same_step step at
is_down_at step (Reply text) = false

-- no try is open, or the open one is down at this step
abbrev pub fails_at : LinkStep → Option Open → Bool
fails_at step None = true
fails_at step (Some one) = is_down_at step one.outcome

-- what is left of the open try's reply
abbrev pub left_in : Option Open → List ℕ
left_in None = []
left_in (Some one) = one.left

-- the tries that were begun; the request of an open one is beside them until it is over
abbrev pub all_tries : Bool → Request → List Request → List Request
all_tries true request tries = take (length tries - 1) tries ++ request ∷ []
all_tries false request tries = tries

abbrev pub open_try : Bool → Outcome → ℕ → Option Open
open_try true outcome read = Some (record { outcome = outcome; left = drop read (reply_bytes outcome) })
open_try false outcome read = None

-- the place of the next outcome after this one
abbrev pub behind_place : ℕ → ℕ → ℕ
behind_place place count = if nat_lt place count then place + 1 else place

-- policy services: what is known of the wire, and how many calls failed
pub record MemoryLinks : Type 0 where
  pub wire : Wire
  pub faults : ℕ

-- services that answer each try with the next of these outcomes
abbrev pub links_with : List Outcome → MemoryLinks
links_with outcomes = record { wire = record { outcomes = outcomes; tries = []; opened = None }; faults = 0 }

-- what is known of them
abbrev pub links_held : MemoryLinks → Held Wire
links_held links = record { content = Some links.wire; faults = links.faults }

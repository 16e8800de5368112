-- How often a call on an object outside counts a fault: just once where it answers that the object failed, and else not at all.
-- Words of contracts, by no standard.
use Rattle.std.specs.Prelude.{ℕ, Bool, true, false, Result, Ok, Err, cond}
use Rattle.pf_base.specs.Outside.Counts.{counted_by}
use Rattle.pf_base.specs.declared.fault.OuterFault.{OuterFault}
use Rattle.pf_base.specs.declared.fault.OuterFault.TheVariants.{Failed, NoMemory}

-- a count goes up by one where this is so, and else stays
abbrev pub counted_if : Bool → ℕ → ℕ
counted_if so before = counted_by (cond so 1 0) before

-- the object failed, in a call that may also want memory
abbrev pub outer_failed : {T : Type 0} → Result T OuterFault → Bool
outer_failed (Ok x) = false
outer_failed (Err Failed) = true
outer_failed (Err NoMemory) = false

-- A refusal as the fault of a call. A word of contracts, by no standard.
use Rattle.std.specs.Prelude.{Result, Ok, Err}
use Rattle.pf_base.specs.declared.refused.ConfFault.{ConfFault}
use Rattle.pf_base.specs.declared.refused.ConfFault.TheVariants as conf_fault
use Rattle.pf_base.specs.declared.refused.Refused.{Refused}

-- what is there, or the fault that is its refusal
abbrev pub as_fault : {A : Type 0} → Result A Refused → Result A ConfFault
as_fault (Ok x) = Ok x
as_fault (Err refusal) = Err (conf_fault.Refused refusal)

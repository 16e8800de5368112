-- Which faults are those of a pattern's size. Words of contracts, by no standard.
use Rattle.std.specs.Prelude.{Bool, true, false, Result, Ok, Err}
use Rattle.regex.specs.declared.error.Error.{Error}
use Rattle.regex.specs.declared.error.Error.TheVariants.{Syntax, CompiledTooBig, Internal, OutOfMemory}
use Rattle.pf_pcre.specs.declared.patterns.BuildFault.{BuildFault}
use Rattle.pf_pcre.specs.declared.patterns.BuildFault.TheVariants as fault

-- the fault of a pattern that the crate regex does not build
abbrev pub fault_of : Error → BuildFault
fault_of (Syntax e) = fault.Syntax
fault_of CompiledTooBig = fault.TooLarge
fault_of Internal = fault.TooLarge
fault_of OutOfMemory = fault.NoMemory

-- a pattern was not built for its size
abbrev pub is_size : BuildFault → Bool
is_size fault.Syntax = false
is_size fault.TooLarge = true
is_size fault.NoMemory = false

abbrev pub is_too_large : {A : Type 0} → Result A BuildFault → Bool
is_too_large (Ok x) = false
is_too_large (Err why) = is_size why

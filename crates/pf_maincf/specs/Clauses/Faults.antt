-- A refusal as the fault of a call. Words of contracts, by no standard.
use Rattle.std.specs.Prelude.{◌≡◌, Result, Ok, Err}
use Rattle.pf_base.specs.declared.refused.ConfFault.{ConfFault}
use Rattle.pf_base.specs.declared.refused.ConfFault.TheVariants as conf_fault
use Rattle.pf_base.specs.declared.refused.Refused.{Refused}
use Rattle.pf_maincf.specs.declared.file.FileFault.{FileFault}
use Rattle.pf_maincf.specs.declared.file.FileFault.TheVariants as file_fault

-- the fault of a text of a file as that of the file
abbrev pub as_file_fault : ConfFault → FileFault
as_file_fault (conf_fault.Refused refusal) = file_fault.Refused refusal
as_file_fault conf_fault.NoMemory = file_fault.NoMemory

-- an answer of the code is what is said; a failed call on the files and lack of memory are free
abbrev pub Answers : {A : Type 0} → Result A Refused → Result A FileFault → Type 0
Answers answer (Ok said) = answer ≡ Ok said
Answers answer (Err (file_fault.Refused refusal)) = answer ≡ Err refusal
Answers answer (Err other) = Unit {0}

-- main.cf as a file: its name, and what is read of it (postconf(1), -c). The causes of refusals, the most bytes of a file, and the lines of calls on
-- files that failed are postgate's own.
use Rattle.std.specs.Prelude.{◌≡◌, ℕ, ◌++◌, List, Option, None, Some, Result, Ok, Err, codes, if◌then◌else◌}
use Rattle.std.specs.Str.{is_utf8}
use Rattle.pf_base.specs.Refusal.{refused}
use Rattle.pf_base.specs.Outside.FileList.{file_of, whole_file}
use Rattle.pf_base.specs.Text.Printing.{printed_line}
use Rattle.pf_base.specs.Outside.Known.{Tree}
use Rattle.pf_base.specs.declared.pair.Pair.{Pair}
use Rattle.pf_base.specs.declared.outside.reading.ReadFault.{ReadFault}
use Rattle.pf_base.specs.declared.refused.Cause.{Cause}
use Rattle.pf_base.specs.declared.refused.Cause.TheVariants.{C10, C15}
use Rattle.pf_base.specs.declared.refused.Refused.{Refused}

-- the name of main.cf: it is in the folder of -c
abbrev pub conf_name : Option (List ℕ) → List ℕ
conf_name None = codes "main.cf"
conf_name (Some folder) = folder ++ codes "/main.cf"

-- the bytes of a file, if it is there; a name that is no UTF-8 is the name of none
abbrev pub bytes_in : List Pair → List ℕ → Option (List ℕ)
bytes_in files file = if is_utf8 file then file_of files file else None

-- the refusal of a whole file, which names it
abbrev pub file_refused : List ℕ → Cause → Refused
file_refused file cause = refused file 0 cause file

-- the text of a main.cf of this name by what is read of a whole file: it is refused where it is not there, or too large
abbrev pub text_read : List ℕ → Result (Option (List ℕ)) ReadFault → Result (List ℕ) Refused
text_read file (Ok None) = Err (file_refused file C10)
text_read file (Ok (Some text)) = Ok text
text_read file (Err large) = Err (file_refused file C15)

-- the text of a main.cf of this name with these bytes, if it is there
abbrev pub conf_text : List ℕ → Option (List ℕ) → Result (List ℕ) Refused
conf_text file bytes = text_read file (whole_file bytes)

-- the line of a call on a file that failed
abbrev pub failed_line : List ℕ → List ℕ → List ℕ
failed_line file call = printed_line (codes "postgate: " ++ file ++ codes ": " ++ call ++ codes " failed")

-- the file was read, and no call on the files failed
abbrev pub Kept : Tree → Tree → Type 0
Kept before now = (now.content ≡ before.content) × (now.faults ≡ before.faults)

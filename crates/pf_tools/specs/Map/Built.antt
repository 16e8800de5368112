-- A cdb that is built of a text (postmap(1)), and the warnings of its repeated keys. The warnings and the refusals are postgate's own.
use Rattle.std.specs.Prelude.{ℕ, ◌+◌, ◌==◌, Bool, List, [], ◌∷◌, Result, Ok, Err, codes, drop, if◌then◌else◌}
use Rattle.std.specs.Fmt.{decimal}
use Rattle.std.specs.List.{flat_map, position}
use Rattle.std.specs.Option.{option_map_or}
use Rattle.pf_base.specs.Refusal.{refused}
use Rattle.pf_base.specs.Results.{◌>>=◌}
use Rattle.pf_base.specs.Text.Ascii as ascii
use Rattle.pf_base.specs.Text.Printing.{printed_line}
use Rattle.pf_base.specs.declared.pair.Pair.{Pair}
use Rattle.pf_base.specs.declared.refused.Cause.TheVariants.{C15}
use Rattle.pf_base.specs.declared.refused.Refused.{Refused}
use Rattle.pf_cdb.specs.Written.{written_file}
use Rattle.pf_cdb.specs.declared.fault.WriteFault.{WriteFault}
use Rattle.pf_maps.specs.Opening.{Unopened, refusing, table_text}
use Rattle.pf_maps.specs.Opening as opening
use Rattle.pf_table.specs.Text.{text_read}
use Rattle.pf_table.specs.declared.pairs.Repeats.{Repeats}
use Rattle.pf_table.specs.declared.text.Repeated.{Repeated}
use Rattle.pf_table.specs.declared.text.TextRead.{TextRead}
use Rattle.pf_tools.specs.declared.map.build.Built.{Built}

-- the name of the text: what is after the type, if the table has one
abbrev pub text_name : List ℕ → List ℕ
text_name table = option_map_or (λ n. drop (n + 1) table) (position (λ b. b == ascii.colon) table) table

-- the name of the cdb
abbrev pub cdb_name : List ℕ → List ℕ
cdb_name table = opening.cdb_name (text_name table)

-- the warning of a line whose key is in an earlier one
abbrev pub warning_text : List ℕ → Repeated → List ℕ
warning_text file repeated =
    flat_map (λ part. part) (codes "postgate: warning: " ∷ file ∷ codes ":" ∷ decimal repeated.line ∷ codes ": duplicate entry: " ∷ repeated.key ∷ [])

abbrev pub warning_of : List ℕ → Repeated → List ℕ
warning_of file repeated = printed_line (warning_text file repeated)

-- the warnings, where they are asked for
abbrev pub warnings_of : List ℕ → Bool → List Repeated → List ℕ
warnings_of file warned repeated = if warned then flat_map (warning_of file) repeated else []

-- the bytes of a cdb, unless it would be too large
abbrev pub cdb_or_refused : List ℕ → Result (List ℕ) WriteFault → Result (List ℕ) Refused
cdb_or_refused name (Ok bytes) = Ok bytes
cdb_or_refused name (Err fault) = Err (refused (codes "words") 0 C15 name)

-- the cdb of a text that was read
abbrev pub read_built : List ℕ → Bool → TextRead → Result Built Refused
read_built table warned read = do
  bytes ← cdb_or_refused (cdb_name table) (written_file read.table.pairs)
  Ok (record { bytes = bytes; warnings = warnings_of (text_name table) warned read.repeated })

-- the cdb of a text
abbrev pub text_built : List ℕ → Bool → Repeats → Bool → List ℕ → Result Built Refused
text_built table folds repeats warned text = do
  read ← text_read (text_name table) folds repeats text
  read_built table warned read

-- the cdb that is built of the file of this name, unless the read fails
abbrev pub built_in : Bool → List ℕ → Bool → Repeats → Bool → List Pair → Result Built Unopened
built_in failed table folds repeats warned files = do
  text ← table_text failed files (record { file = codes "words"; line = 0 }) (text_name table)
  refusing (text_built table folds repeats warned text)

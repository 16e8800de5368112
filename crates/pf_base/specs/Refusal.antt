-- How a refusal is printed. The codes and their texts are postgate's own, by no standard.
use Rattle.std.specs.Prelude.{ℕ, ◌++◌, List, [], ◌∷◌, codes}
use Rattle.std.specs.Fmt.{decimal}
use Rattle.std.specs.List.{flat_map}
use Rattle.pf_base.specs.Text.Printing.{printed_line}
use Rattle.pf_base.specs.declared.refused.Cause.{Cause}
use Rattle.pf_base.specs.declared.refused.Cause.TheVariants.{C1, C2, C3, C4, C5, C6, C7, C8, C9, C10, C11, C12, C13, C14, C15, C16}
use Rattle.pf_base.specs.declared.refused.Refused.{Refused}

-- a refusal, with its file, its line, its cause and what it names
abbrev pub refused : List ℕ → ℕ → Cause → List ℕ → Refused
refused file line cause name = record { file = file; line = line; cause = cause; name = name }

-- the code and the text of a cause
unfoldable pub cause_text : Cause → List ℕ
cause_text C1 = codes "C1 continuation of nothing"
cause_text C2 = codes "C2 no equals sign"
cause_text C3 = codes "C3 bad name"
cause_text C4 = codes "C4 expansion too deep"
cause_text C5 = codes "C5 bad dollar form"
cause_text C6 = codes "C6 bad value"
cause_text C7 = codes "C7 unknown restriction"
cause_text C8 = codes "C8 bad argument"
cause_text C9 = codes "C9 bad table"
cause_text C10 = codes "C10 no such file"
cause_text C11 = codes "C11 table text refused"
cause_text C12 = codes "C12 no closing restriction"
cause_text C13 = codes "C13 class names itself"
cause_text C14 = codes "C14 setting outside the profile"
cause_text C15 = codes "C15 file too large"
cause_text C16 = codes "C16 expansion too long"

-- what a refusal names, after a colon; nothing where it names nothing
abbrev pub name_part : List ℕ → List ℕ
name_part [] = []
name_part (b ∷ bytes) = codes ": " ++ (b ∷ bytes)

-- the line of a refusal: its file, its line, its cause and what it names
unfoldable pub refusal_line : Refused → List ℕ
refusal_line refused = printed_line (flat_map (λ part. part)
    (codes "postgate: " ∷ refused.file ∷ codes ":" ∷ decimal refused.line ∷ codes ": " ∷ cause_text refused.cause
    ∷ name_part refused.name ∷ []))

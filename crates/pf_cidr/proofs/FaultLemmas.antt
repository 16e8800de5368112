-- What becomes of a text whose logical lines were read.
use Rattle.std.proofs.Common.{◌≡◌, ℕ, List, [], ◌∷◌, Ok, Err, sym, ap}
use Rattle.pf_base.specs.Text.Logical.{Physical, grouped, logical_lines_of, physical_lines, unless_leading}
use Rattle.pf_base.specs.declared.text.logical.Logical.{Logical}
use Rattle.pf_base.specs.declared.text.logical.TextFault.TheVariants.{Continuation}
use Rattle.pf_base.specs.declared.refused.Cause.TheVariants.{C1}
use Rattle.pf_cidr.specs.Tables.{or_refused, refused, table_of, table_with, unless_continued}

-- a line that continues nothing is refused
pub continued : (file text : List ℕ) (line : ℕ) → Err (Continuation line) ≡ logical_lines_of text → table_of file text ≡ Err (refused file line C1 [])
unfolding table_of
continued file text line is = by (grouped (physical_lines text)).leading is where
  by : (leading : List Physical) → Err (Continuation line) ≡ unless_leading leading (grouped (physical_lines text)).logical
      → unless_continued file leading (or_refused file (table_with (grouped (physical_lines text)).logical)) ≡ Err (refused file line C1 [])
  by [] is = cc
  by (first ∷ leading) is = let same : line ≡ first.number = cc in ap (λ n. Err (refused file n C1 [])) (sym same)

-- and else the table is that of the logical lines
pub table_of_lines : (file text : List ℕ) (lines : List Logical) → Ok lines ≡ logical_lines_of text → table_of file text ≡ or_refused file (table_with lines)
unfolding table_of
table_of_lines file text lines is = by (grouped (physical_lines text)).leading is where
  by : (leading : List Physical) → Ok lines ≡ unless_leading leading (grouped (physical_lines text)).logical
      → unless_continued file leading (or_refused file (table_with (grouped (physical_lines text)).logical)) ≡ or_refused file (table_with lines)
  by [] is = let same : lines ≡ (grouped (physical_lines text)).logical = cc in ap (λ logical. or_refused file (table_with logical)) (sym same)
  by (first ∷ leading) is = cc

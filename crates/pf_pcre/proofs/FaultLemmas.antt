-- What becomes of a text whose logical lines were read, and which refusals are those of a pattern's size.
use Rattle.std.proofs.Common.{◌≡◌, ℕ, List, [], ◌∷◌, Option, Ok, Err, codes, refl, sym, ap}
use Rattle.std.specs.Str.{bytes_eq}
use Rattle.pf_base.specs.Text.Logical.{Physical, grouped, logical_lines_of, physical_lines, unless_leading}
use Rattle.pf_base.specs.declared.text.logical.Logical.{Logical}
use Rattle.pf_base.specs.declared.text.logical.TextFault.TheVariants.{Continuation}
use Rattle.pf_base.specs.declared.refused.Cause.TheVariants.{C1}
use Rattle.pf_pcre.specs.Clauses.Reading.{is_of_size}
use Rattle.pf_pcre.specs.Tables.{or_refused, reason_text, refused, table_of, table_with, unless_continued}
use Rattle.pf_pcre.specs.declared.reason.Reason.{Reason}
use Rattle.pf_pcre.specs.declared.reason.Reason.TheVariants as reason

-- a line that continues nothing is refused
pub continued : (large : Option ℕ) (file text : List ℕ) (line : ℕ) → Err (Continuation line) ≡ logical_lines_of text → table_of large file text ≡ Err (refused file line C1 [])
unfolding table_of
continued large file text line is = by (grouped (physical_lines text)).leading is where
  by : (leading : List Physical) → Err (Continuation line) ≡ unless_leading leading (grouped (physical_lines text)).logical
      → unless_continued file leading (or_refused file (table_with large (grouped (physical_lines text)).logical)) ≡ Err (refused file line C1 [])
  by [] is = cc
  by (first ∷ leading) is = let same : line ≡ first.number = cc in ap (λ n. Err (refused file n C1 [])) (sym same)

-- and else the table is that of the logical lines
pub table_of_lines : (large : Option ℕ) (file text : List ℕ) (lines : List Logical) → Ok lines ≡ logical_lines_of text
    → table_of large file text ≡ or_refused file (table_with large lines)
unfolding table_of
table_of_lines large file text lines is = by (grouped (physical_lines text)).leading is where
  by : (leading : List Physical) → Ok lines ≡ unless_leading leading (grouped (physical_lines text)).logical
      → unless_continued file leading (or_refused file (table_with large (grouped (physical_lines text)).logical)) ≡ or_refused file (table_with large lines)
  by [] is = let same : lines ≡ (grouped (physical_lines text)).logical = cc in ap (λ logical. or_refused file (table_with large logical)) (sym same)
  by (first ∷ leading) is = cc

-- the words of a reason tell whether it is that of a pattern's size
pub named_by_size : (why : Reason) → bytes_eq (reason_text why) (codes "pattern size") ≡ is_of_size why
unfolding reason_text
named_by_size reason.Flag = refl
named_by_size reason.Pattern = refl
named_by_size reason.PatternSize = refl
named_by_size reason.Group = refl
named_by_size reason.NoValue = refl
named_by_size reason.TooManyRules = refl
named_by_size reason.IfWithoutEndif = refl
named_by_size reason.EndifWithoutIf = refl

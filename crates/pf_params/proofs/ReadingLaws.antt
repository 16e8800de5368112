-- What is read of a parameter, and of all of them.
use Rattle.std.proofs.Common.{◌≡◌, ℕ, ◌++◌, zero, suc, Bool, true, false, List, [], ◌∷◌, get_or, length, slice_get, Option, None, Some, Result, Ok, Err, refl, sym, ap, ◌∙◌, append_assoc, append-nil, if◌then◌else◌}
use Rattle.std.specs.Result.{result_map_both}
use Rattle.pf_base.specs.Results.{◌>>=◌}
use Rattle.pf_base.specs.declared.refused.Cause.{Cause}
use Rattle.pf_base.specs.declared.refused.Cause.TheVariants.{C14}
use Rattle.pf_base.specs.declared.refused.Refused.{Refused}
use Rattle.pf_catalogue.specs.Catalogue.{Row}
use Rattle.pf_catalogue.specs.Values.{value_of}
use Rattle.pf_catalogue.specs.declared.value.Value.{Value}
use Rattle.pf_expand.specs.Expansion.{Answer, content}
use Rattle.pf_maincf.specs.Settings.{Conf, is_set, line_of}
use Rattle.pf_params.specs.Accepted.{raw_of, said_by, text_of}
use Rattle.pf_params.specs.Clauses.Readings.{before, readings_of}
use Rattle.pf_params.specs.Parameters.{may_stand, raw_text, reading_from, reading_if, reading_of, refusal_of}
use Rattle.pf_params.specs.Settled.{value_alone}
use Rattle.pf_params.specs.declared.readings.Reading.{Reading}

-- a reading is this parameter's
pub record IsRead (s : Conf) (row : Row) (r : Reading) : Type 0 where
  pub line : r.line ≡ line_of s row.name
  pub raw : r.raw ≡ raw_of s row
  pub text : r.text ≡ text_of s row
  pub said : said_by s row ≡ Some r.value

pub reading_is : (s : Conf) (row : Row) (r : Reading) → reading_of s row ≡ Ok r → IsRead s row r
unfolding reading_of
reading_is s row r is = by_value (value_alone s row.name) refl is where
  by_value : (a : Answer) → value_alone s row.name ≡ a → reading_from s row a ≡ Ok r → IsRead s row r
  by_value (Err flaw) e is = cc
  by_value (Ok text) e is = by_said (value_of row.kind text) refl is where
    there : text_of s row ≡ text
    there = ap content e

    by_said : (v : Option Value) → value_of row.kind text ≡ v → reading_if s row text v ≡ Ok r → IsRead s row r
    by_said None said is = cc
    by_said (Some v) said is = by_test (may_stand row.kind (is_set s row.name)) is where
      by_test : (t : Bool) → (if t then Ok (record { line = line_of s row.name; raw = raw_text s row text; text = text; value = v }) else Err C14) ≡ Ok r → IsRead s row r
      by_test true is =
          let same : record { line = line_of s row.name; raw = raw_text s row text; text = text; value = v } ≡ r = cc in
          record {
            line = ap (λ (x : Reading). x.line) (sym same);
            raw = ap (λ (x : Reading). x.raw) (sym same) ∙ ap (raw_text s row) (sym there);
            text = ap (λ (x : Reading). x.text) (sym same) ∙ sym there;
            said = ap (value_of row.kind) there ∙ said ∙ ap (λ (x : Reading). Some x.value) same;
          }
      by_test false is = cc

-- a reading or its refusal, before what is read of others
abbrev pub or_refused : Conf → Row → Result Reading Cause → Result (List Reading) Refused → Result (List Reading) Refused
or_refused s row x behind = result_map_both (λ reading. reading) (refusal_of s row.name) x >>= (λ reading. before (reading ∷ []) behind)

-- all of them
prefix_read : (s : Conf) (row : Row) (rows : List Row) (readings : List Reading) → readings_of s (row ∷ rows) ≡ Ok readings
    → (first : Reading) × (rest : List Reading) × (reading_of s row ≡ Ok first) × (readings_of s rows ≡ Ok rest) × (readings ≡ first ∷ rest)
prefix_read s row rows readings is = by_first (reading_of s row) (readings_of s rows) refl refl is where
  by_first : (x : Result Reading Cause) (y : Result (List Reading) Refused) → reading_of s row ≡ x → readings_of s rows ≡ y → or_refused s row x y ≡ Ok readings
      → (first : Reading) × (rest : List Reading) × (reading_of s row ≡ Ok first) × (readings_of s rows ≡ Ok rest) × (readings ≡ first ∷ rest)
  by_first (Err cause) y e f is = cc
  by_first (Ok first) (Err refusal) e f is = cc
  by_first (Ok first) (Ok rest) e f is = (first, rest, e, f, cc)

pub readings_count : (s : Conf) (rows : List Row) (readings : List Reading) → readings_of s rows ≡ Ok readings → length readings ≡ length rows
readings_count s [] readings is = let none : readings ≡ [] = cc in ap length none
readings_count s (row ∷ rows) readings is =
    let prefix = prefix_read s row rows readings is in
    ap length prefix.4 ∙ ap suc (readings_count s rows prefix.1 prefix.3)

pub reading_there : (s : Conf) (rows : List Row) (readings : List Reading) (place : ℕ) (r : Reading) (other : Row) → readings_of s rows ≡ Ok readings → slice_get readings place ≡ Some r
    → reading_of s (get_or rows place other) ≡ Ok r
reading_there s [] readings place r other is found =
    let none : readings ≡ [] = cc in let nothing : slice_get {X = Reading} [] place ≡ Some r = ap (λ rs. slice_get rs place) (sym none) ∙ found in cc
reading_there s (row ∷ rows) readings zero r other is found =
    let prefix = prefix_read s row rows readings is in
    let same : Some prefix.0 ≡ Some r = ap (λ rs. slice_get rs 0) (sym prefix.4) ∙ found in prefix.2 ∙ cc
reading_there s (row ∷ rows) readings (suc place) r other is found =
    let prefix = prefix_read s row rows readings is in
    reading_there s rows prefix.1 place r other prefix.3 (ap (λ rs. slice_get rs (suc place)) (sym prefix.4) ∙ found)

-- a refusal of the next one is that of all
pub refused_next : (s : Conf) (prefix : List Reading) (row : Row) (rows : List Row) (cause : Cause) → reading_of s row ≡ Err cause
    → before prefix (readings_of s (row ∷ rows)) ≡ Err (refusal_of s row.name cause)
refused_next s prefix row rows cause is = ap (λ x. before prefix (or_refused s row x (readings_of s rows))) is

-- one more that is read
pub read_next : (s : Conf) (prefix : List Reading) (row : Row) (rows : List Row) (r : Reading) → reading_of s row ≡ Ok r
    → before (prefix ++ (r ∷ [])) (readings_of s rows) ≡ before prefix (readings_of s (row ∷ rows))
read_next s prefix row rows r is = by_rest (readings_of s rows) ∙ sym (ap (λ x. before prefix (or_refused s row x (readings_of s rows))) is) where
  by_rest : (y : Result (List Reading) Refused) → before (prefix ++ (r ∷ [])) y ≡ before prefix (before (r ∷ []) y)
  by_rest (Ok rest) = ap Ok (append_assoc prefix (r ∷ []) rest)
  by_rest (Err refusal) = refl

pub read_last : (s : Conf) (prefix : List Reading) (rows : List Row) → rows ≡ [] → before prefix (readings_of s rows) ≡ Ok prefix
read_last s prefix rows none = ap (λ rs. before prefix (readings_of s rs)) none ∙ ap Ok (append-nil prefix)

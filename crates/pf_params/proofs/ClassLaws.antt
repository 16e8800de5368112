-- The first refusal, and the classes of names in turn.
use Rattle.std.proofs.Common.{◌≡◌, ℕ, ◌+◌, ◌<◌, ◌++◌, ◌&&◌, not, Bool, true, false, List, [], ◌∷◌, drop, get_or, length, Option, None, Some, Result, Ok, Err, refl, sym, ap, ◌∙◌, append_assoc, cond, if◌then◌else◌}
use Rattle.std.proofs.lemmas.Bool.{and_parts}
use Rattle.std.proofs.lemmas.List.{drop_more}
use Rattle.std.proofs.lemmas.List.Elements.{filter_map-append}
use Rattle.std.proofs.lemmas.List.Sums.{fold-append}
use Rattle.std.specs.Cmp.Lexicographic.{slice_cmp}
use Rattle.std.specs.List.{cons_option, filter_map, fold, list_all}
use Rattle.std.specs.Ordering.{nat_cmp, is_lt}
use Rattle.std.specs.Prelude.{filter, map}
use Rattle.std.specs.Result.{result_err, result_map_both}
use Rattle.pf_base.specs.declared.refused.Cause.{Cause}
use Rattle.pf_base.specs.declared.refused.Refused.{Refused}
use Rattle.pf_catalogue.specs.Catalogue.{Row, catalogue}
use Rattle.pf_maincf.proofs.AssignmentLines.{not_true}
use Rattle.pf_maincf.specs.Settings.{Conf, is_set}
use Rattle.pf_params.specs.Accepted.{refusal_in}
use Rattle.pf_params.specs.Classes.{class_names, class_read, class_row, class_rows, classes_of}
use Rattle.pf_params.proofs.ReadingLaws.{or_refused}
use Rattle.pf_params.specs.Clauses.Readings.{before, held_readings, readings_of}
use Rattle.pf_params.specs.Parameters.{reading_of, refusal_of, refusals, row_refusal, with_lesser}
use Rattle.pf_params.specs.declared.classes.Class.{Class}
use Rattle.pf_params.specs.declared.readings.Reading.{Reading}

-- a refusal stays one
some_refused : (first : Refused) (refusals : List Refused) → fold with_lesser (Some first) refusals ≡ None → ⊥
some_refused first [] is = cc
some_refused first (second ∷ refusals) is = by_test (is_lt (slice_cmp nat_cmp second.name first.name)) (some_refused second refusals) (some_refused first refusals) is where
  by_test : (t : Bool) → (fold with_lesser (Some second) refusals ≡ None → ⊥) → (fold with_lesser (Some first) refusals ≡ None → ⊥)
      → fold with_lesser (if t then Some second else Some first) refusals ≡ None → ⊥
  by_test true more_second more_first is = more_second is
  by_test false more_second more_first is = more_first is

-- so where there is none, none came before
pub none_before : (before : Option Refused) (refusals : List Refused) → fold with_lesser before refusals ≡ None → before ≡ None
none_before None refusals is = refl
none_before (Some first) refusals is = absurd (some_refused first refusals is)

-- and all parameters were read
pub all_read : (r : Result (List Reading) Refused) → result_err r ≡ None → r ≡ Ok (held_readings r)
all_read (Ok readings) is = refl
all_read (Err refusal) is = cc

-- no row after one has a lesser name
abbrev is_least : List ℕ → List Row → Bool
is_least name rows = list_all (λ (r : Row). not (is_lt (slice_cmp nat_cmp r.name name))) rows

abbrev ascend : List Row → Bool
ascend [] = true
ascend (row ∷ rows) = is_least row.name rows && ascend rows

catalogue_ascends : ascend catalogue ≡ true
unfolding catalogue
catalogue_ascends = refl

module _ (s : Conf) where
  -- so the first refusal stays the first
  stays : (first : Refused) (rows : List Row) → is_least first.name rows ≡ true → fold with_lesser (Some first) (refusals s rows) ≡ Some first
  stays first [] least = refl
  stays first (row ∷ rows) least =
      let parts = and_parts (not (is_lt (slice_cmp nat_cmp row.name first.name))) (is_least first.name rows) least in
      by_reading (reading_of s row) (not_true (is_lt (slice_cmp nat_cmp row.name first.name)) parts.0) (stays first rows parts.1)
    where
      by_reading : (r : Result Reading Cause) → is_lt (slice_cmp nat_cmp row.name first.name) ≡ false → fold with_lesser (Some first) (refusals s rows) ≡ Some first
          → fold with_lesser (Some first) (cons_option (result_err (result_map_both (λ reading. reading) (refusal_of s row.name) r)) (refusals s rows)) ≡ Some first
      by_reading (Ok reading) greater more = more
      by_reading (Err cause) greater more = ap (λ t. fold with_lesser (if t then Some (refusal_of s row.name cause) else Some first) (refusals s rows)) greater ∙ more

  -- the first refusal in the order of rows is that of the least name
  first_is_least : (rows : List Row) → ascend rows ≡ true → fold with_lesser None (refusals s rows) ≡ result_err (readings_of s rows)
  first_is_least [] up = refl
  first_is_least (row ∷ rows) up =
      let parts = and_parts (is_least row.name rows) (ascend rows) up in
      by_reading (reading_of s row) parts.0 (first_is_least rows parts.1)
    where
      behind : (prefix : List Reading) (r : Result (List Reading) Refused) → result_err r ≡ result_err (before prefix r)
      behind prefix (Ok readings) = refl
      behind prefix (Err refusal) = refl

      by_reading : (r : Result Reading Cause) → is_least row.name rows ≡ true → fold with_lesser None (refusals s rows) ≡ result_err (readings_of s rows)
          → fold with_lesser None (cons_option (result_err (result_map_both (λ reading. reading) (refusal_of s row.name) r)) (refusals s rows)) ≡ result_err (or_refused s row r (readings_of s rows))
      by_reading (Ok reading) least more = more ∙ behind (reading ∷ []) (readings_of s rows)
      by_reading (Err cause) least more = stays (refusal_of s row.name cause) rows least

  -- the refusal of settings, by that of the parameters and those of the classes
  pub both_refused : fold with_lesser (result_err (readings_of s catalogue)) (refusals s (class_rows s (class_names s))) ≡ refusal_in s
  both_refused =
      ap (λ before. fold with_lesser before (refusals s (class_rows s (class_names s)))) (sym (first_is_least catalogue catalogue_ascends))
      ∙ sym (fold-append with_lesser None (refusals s catalogue) (refusals s (class_rows s (class_names s))))
      ∙ ap (fold with_lesser None) (sym (filter_map-append (row_refusal s) catalogue (class_rows s (class_names s))))

  -- the classes of the names from a place on
  module _ (names : List (List ℕ)) (i : ℕ) (name : List ℕ) (within : i < length names) (at : name ≡ get_or names i name) where
    rows_more : class_rows s (drop i names) ≡ class_rows s (name ∷ []) ++ class_rows s (drop (i + 1) names)
    rows_more =
        ap (class_rows s) (drop_more names i name within ∙ ap (λ first. first ∷ drop (i + 1) names) (sym at)) ∙ by_test (is_set s name)
      where
        by_test : (t : Bool) → map class_row (cond t (name ∷ filter (is_set s) (drop (i + 1) names)) (filter (is_set s) (drop (i + 1) names)))
            ≡ map class_row (cond t (name ∷ []) []) ++ class_rows s (drop (i + 1) names)
        by_test true = refl
        by_test false = refl

    pub held_more : (old new whole : List Class) → old ++ classes_of s (class_rows s (drop i names)) ≡ whole
        → new ≡ old ++ classes_of s (class_rows s (name ∷ [])) → new ++ classes_of s (class_rows s (drop (i + 1) names)) ≡ whole
    held_more old new whole so_far is =
        ap (λ held. held ++ classes_of s (class_rows s (drop (i + 1) names))) is
        ∙ append_assoc old (classes_of s (class_rows s (name ∷ []))) (classes_of s (class_rows s (drop (i + 1) names)))
        ∙ ap (λ more. old ++ more) (sym (filter_map-append (class_read s) (class_rows s (name ∷ [])) (class_rows s (drop (i + 1) names))))
        ∙ ap (λ rows. old ++ classes_of s rows) (sym rows_more) ∙ so_far

    pub refusal_more : (old new whole : Option Refused) → fold with_lesser old (refusals s (class_rows s (drop i names))) ≡ whole
        → new ≡ fold with_lesser old (refusals s (class_rows s (name ∷ []))) → fold with_lesser new (refusals s (class_rows s (drop (i + 1) names))) ≡ whole
    refusal_more old new whole so_far is =
        ap (λ first. fold with_lesser first (refusals s (class_rows s (drop (i + 1) names)))) is
        ∙ sym (fold-append with_lesser old (refusals s (class_rows s (name ∷ []))) (refusals s (class_rows s (drop (i + 1) names))))
        ∙ ap (fold with_lesser old) (sym (filter_map-append (row_refusal s) (class_rows s (name ∷ [])) (class_rows s (drop (i + 1) names))))
        ∙ ap (λ rows. fold with_lesser old (refusals s rows)) (sym rows_more) ∙ so_far

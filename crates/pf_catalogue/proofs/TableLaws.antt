-- What is found in the rows of the code is found in the table.
use Rattle.std.proofs.Common.{◌≡◌, ℕ, ◌<◌, ◌+◌, Bool, true, false, not, nat_lt, List, [], ◌∷◌, map, get_or, length, Option, Some, None, IfSome, refl, sym, ap, ◌∙◌, cond, arith}
use Rattle.std.proofs.lemmas.Option.{slice_get-map, slice_get-get_or, get_or_from_slice_get}
use Rattle.std.proofs.lemmas.List.{length-map}
use Rattle.std.proofs.lemmas.Bool.{ltb-true}
use Rattle.std.specs.List.{position, position_or_len}
use Rattle.std.specs.Option.{option_map}
use Rattle.pf_catalogue.specs.Catalogue as catalogue
use Rattle.pf_catalogue.specs.Clauses.RowsMeant.{row_meant}
use Rattle.pf_catalogue.specs.declared.catalogue.Row.{Row}
use Rattle.std.specs.Prelude.{slice_get}

pub row_there : (rows : List Row) (place : ℕ) (other : Row) → map row_meant rows ≡ catalogue.catalogue → place < length rows
    → row_meant (get_or rows place other) ≡ catalogue.row_at place
row_there rows place other same within =
    sym (get_or_from_slice_get catalogue.catalogue place (row_meant (get_or rows place other)) _
    (ap (λ rs. slice_get rs place) (sym same) ∙ slice_get-map row_meant rows place ∙ ap (option_map row_meant) (slice_get-get_or rows place other within)))

-- the first place among items that are mapped
position_or_len_mapped : {A B : Type 0} (f : A → B) (p : B → Bool) (items : List A) → position_or_len p (map f items) ≡ position_or_len (λ x. p (f x)) items
position_or_len_mapped f p [] = refl
position_or_len_mapped f p (x ∷ items) = ap (λ n. cond (not (p (f x))) (1 + n) 0) (position_or_len_mapped f p items)

pub position_mapped : {A B : Type 0} (f : A → B) (p : B → Bool) (items : List A) → position p (map f items) ≡ position (λ x. p (f x)) items
position_mapped f p items =
    ap (λ n. cond (nat_lt n (length (map f items))) (Some n) None) (position_or_len_mapped f p items)
    ∙ ap (λ n. cond (nat_lt (position_or_len (λ x. p (f x)) items) n) (Some (position_or_len (λ x. p (f x)) items)) None) (length-map items f)

-- a place that was found is one of the table
pub position_within : {A : Type 0} (p : A → Bool) (items : List A) (found : Option ℕ) → found ≡ position p items → IfSome found (λ place. place < length items)
position_within p items None is = tt
position_within p items (Some place) is = within (nat_lt (position_or_len p items) (length items)) refl is where
  within : (t : Bool) → nat_lt (position_or_len p items) (length items) ≡ t → Some place ≡ cond t (Some (position_or_len p items)) None → place < length items
  within true e found = let at : place ≡ position_or_len p items = cc in omega (arith, ltb-true _ _ e)
  within false e found = cc

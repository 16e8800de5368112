-- The bytes of a host name.
use Rattle.std.proofs.Common.{◌≡◌, ◌||◌, ◌&&◌, ◌==◌, ℕ, Bool, true, false, List, [], ◌∷◌, ◌++◌, cond, refl, sym, ap, subst, ◌∙◌}
use Rattle.std.proofs.lemmas.Bool.{and_parts, eqb-true}
use Rattle.std.specs.List.{list_all, list_any, onto_first, slice_split}
use Rattle.std.specs.Prelude.{length, nat_le, nat_lt}
use Rattle.pf_base.specs.Text.Ascii as ascii
use Rattle.pf_base.specs.Text.Names.{is_host_name, is_label, is_label_byte}
use Rattle.pf_listfile.proofs.Cases.{either_way}

-- a byte that is in no host name
pub record Foreign (byte : ℕ) : Type 0 where
  pub in_no_label : is_label_byte byte ≡ false
  pub parts_none : (byte == ascii.dot) ≡ false

abbrev is_dot : ℕ → Bool
is_dot b = b == ascii.dot

abbrev has : ℕ → List ℕ → Bool
has byte text = list_any (λ b. b == byte) text

abbrev of_labels : List (List ℕ) → Bool
of_labels parts = list_all (list_all is_label_byte) parts

label_bytes : (label : List ℕ) → is_label label ≡ true → list_all is_label_byte label ≡ true
label_bytes label is = (and_parts (nat_lt 0 (length label) && nat_le (length label) 63) (list_all is_label_byte label) is).1

labels_bytes : (parts : List (List ℕ)) → list_all is_label parts ≡ true → of_labels parts ≡ true
labels_bytes [] is = refl
labels_bytes (label ∷ parts) is =
    let two = and_parts (is_label label) (list_all is_label parts) is in
    rw (label_bytes label two.0) (labels_bytes parts two.1)

onto_bytes : (b : ℕ) (parts : List (List ℕ)) → of_labels (onto_first b parts) ≡ true → (is_label_byte b ≡ true) × (of_labels parts ≡ true)
onto_bytes b [] is =
    let two = and_parts (list_all is_label_byte (b ∷ [])) true is in ((and_parts (is_label_byte b) true two.0).0, refl)
onto_bytes b (part ∷ parts) is =
    let two = and_parts (list_all is_label_byte (b ∷ part)) (of_labels parts) is in
    let first = and_parts (is_label_byte b) (list_all is_label_byte part) two.0 in
    (first.0, rw first.1 two.1)

other_byte : (byte b : ℕ) (p : ℕ → Bool) → p byte ≡ false → p b ≡ true → (b == byte) ≡ false
other_byte byte b p fails passes = by (b == byte) refl where
  by : (t : Bool) → (b == byte) ≡ t → (b == byte) ≡ false
  by false e = e
  by true e = let same : b ≡ byte = eqb-true b byte e in absurd (no (subst (λ x. p x ≡ true) same passes)) where
    no : p byte ≡ true → ⊥
    no h = cc

none_in : (byte : ℕ) → Foreign byte → (name : List ℕ) → of_labels (slice_split is_dot name) ≡ true → has byte name ≡ false
none_in byte foreign [] is = refl
none_in byte foreign (b ∷ name) is =
    either_way (is_dot b)
    (λ dot. let rest : of_labels (slice_split is_dot name) ≡ true = rw dot at is in
    rw (other_byte byte b is_dot foreign.parts_none dot) (none_in byte foreign name rest))
    (λ other. let two = onto_bytes b (slice_split is_dot name) (rw other at is) in
    rw (other_byte byte b is_label_byte foreign.in_no_label two.0) (none_in byte foreign name two.1))

-- it is not in one
pub none_in_name : (byte : ℕ) → Foreign byte → (name : List ℕ) → is_host_name name ≡ true → list_any (λ b. b == byte) name ≡ false
none_in_name byte foreign name is = none_in byte foreign name (labels_bytes (slice_split is_dot name) is)

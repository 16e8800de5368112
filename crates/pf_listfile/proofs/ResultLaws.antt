-- A list file gives no value that is not among its results.
use Rattle.std.proofs.Common.{◌≡◌, ◌||◌, ℕ, Bool, true, false, List, [], ◌∷◌, Option, None, Some, refl, sym, ap, ◌∙◌}
use Rattle.std.proofs.lemmas.Slice.Eq.{bytes_eq-Decides}
use Rattle.std.specs.List.{find, list_any}
use Rattle.std.specs.Str.{bytes_eq}
use Rattle.pf_asks.specs.Looking.{HasAll}
use Rattle.pf_asks.specs.declared.lookup.Found.{Found}
use Rattle.pf_asks.specs.declared.lookup.Found.TheVariants.{Value, Absent}
use Rattle.pf_listfile.specs.Items.{matches}
use Rattle.pf_listfile.specs.ListFile.{found_in, list_meaning, says, value_of, values}
use Rattle.pf_listfile.specs.declared.item.Item.{Item}

said : (excludes : Bool) → list_any (bytes_eq (says excludes)) values ≡ true
said true = refl
said false = refl

pub list_has_all : (items : List Item) → HasAll (list_meaning items)
list_has_all items key value is = let e : found_in items key ≡ Value value = cc in by (find (matches key) items) e where
  by : (one : Option Item) → value_of one ≡ Value value → list_any (bytes_eq value) values ≡ true
  by None e = cc
  by (Some item) e = let same : says item.excludes ≡ value = cc in ap (λ v. list_any (bytes_eq v) values) (sym same) ∙ said item.excludes

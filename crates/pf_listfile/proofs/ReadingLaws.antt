-- The items of words that are taken one after the other.
use Rattle.std.proofs.Common.{◌≡◌, ℕ, suc, ◌+◌, ◌<◌, List, [], ◌∷◌, ◌++◌, length, get_or, drop, Option, Some, None, refl, sym, ap, ◌∙◌, append_assoc, arith, drop-cons}
use Rattle.pf_listfile.specs.Clauses.Adding.{behind}
use Rattle.pf_listfile.specs.ListFile.{items_in}
use Rattle.pf_listfile.specs.Items.{item_of}
use Rattle.pf_listfile.specs.declared.item.Item.{Item}
use Rattle.pf_base.specs.Options.{◌>>=◌}

behind_one : (items : List Item) (item : Item) (rest : Option (List Item))
    → behind (items ++ item ∷ []) rest ≡ behind items (rest >>= λ more. Some (item ∷ more))
behind_one items item None = refl
behind_one items item (Some more) = ap Some (append_assoc items (item ∷ []) more)

taken : (items : List Item) (word : List ℕ) (item : Item) (words : List (List ℕ)) → item_of word ≡ Some item
    → behind (items ++ item ∷ []) (items_in words) ≡ behind items (items_in (word ∷ words))
taken items word item words is = rw is (behind_one items item (items_in words))

drop_word : (words : List (List ℕ)) (i : ℕ) (word : List ℕ) → i < length words → word ≡ get_or words i word → drop i words ≡ word ∷ drop (i + 1) words
drop_word words i word within at =
    let next : suc i ≡ i + 1 = omega arith in
    drop-cons words i word within ∙ ap (λ n. get_or words i word ∷ drop n words) next ∙ ap (λ w. w ∷ drop (i + 1) words) (sym at)

-- one word more
pub took : (items next : List Item) (words : List (List ℕ)) (i : ℕ) (word : List ℕ) (item : Item) → i < length words → word ≡ get_or words i word
    → item_of word ≡ Some item → next ≡ items ++ item ∷ [] → behind next (items_in (drop (i + 1) words)) ≡ behind items (items_in (drop i words))
took items next words i word item within at is next_is =
    rw next_is (taken items word item (drop (i + 1) words) is
    ∙ ap (λ xs. behind items (items_in xs)) (sym (drop_word words i word within at)))

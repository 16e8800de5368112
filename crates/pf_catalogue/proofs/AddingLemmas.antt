-- Table texts that are added one by one.
use Rattle.std.proofs.Common.{◌≡◌, ◌<◌, ℕ, ◌+◌, ◌++◌, List, [], ◌∷◌, length, get_or, drop, refl, sym, ap, ◌∙◌, append_assoc, append-nil}
use Rattle.std.proofs.lemmas.List.{drop_more}
use Rattle.pf_base.specs.TableTexts.{TableTexts}
use Rattle.pf_catalogue.specs.Clauses.Adding.{AddsUpTo}
use Rattle.pf_catalogue.specs.Tables.{with_one, with_texts}

pub added_none : (line : ℕ) (specs : TableTexts) (texts : List (List ℕ)) → AddsUpTo line specs specs texts texts
added_none line specs texts = record { added = []; parts = refl; is = refl }

added_last : (line : ℕ) (specs : TableTexts) (added : List (List ℕ)) (text : List ℕ) → with_texts line specs (added ++ text ∷ []) ≡ with_one line (with_texts line specs added) text
added_last line specs [] text = refl
added_last line specs (one ∷ added) text = added_last line (with_one line specs one) added text

pub added_more : (line : ℕ) (old now new : TableTexts) (texts left : List (List ℕ)) (text : List ℕ)
    → AddsUpTo line old now texts (text ∷ left) → new ≡ with_one line now text → AddsUpTo line old new texts left
added_more line old now new texts left text so_far one = record {
  added = so_far.added ++ text ∷ [];
  parts = so_far.parts ∙ sym (append_assoc so_far.added (text ∷ []) left);
  is = one ∙ ap (λ specs. with_one line specs text) so_far.is ∙ sym (added_last line old so_far.added text);
}

pub added_all : (line : ℕ) (old new : TableTexts) (texts : List (List ℕ)) → AddsUpTo line old new texts [] → new ≡ with_texts line old texts
added_all line old new texts all = all.is ∙ ap (with_texts line old) (sym (all.parts ∙ append-nil all.added))

-- the item at a place, and those after it
pub drop_item : (items : List (List ℕ)) (i : ℕ) (item : List ℕ) → i < length items → item ≡ get_or items i item → drop i items ≡ item ∷ drop (i + 1) items
drop_item items i item within at = drop_more items i item within ∙ ap (λ first. first ∷ drop (i + 1) items) (sym at)

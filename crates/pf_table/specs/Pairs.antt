-- Which pair of a repeated key is kept, and at which place. For texthash that is postgate's own; for cdb files it is that of postmap(1).
use Rattle.std.specs.Prelude.{ℕ, Bool, List, [], ◌∷◌, reverse, if◌then◌else◌}
use Rattle.std.specs.List.{fold, list_any}
use Rattle.std.specs.Str.{bytes_eq}
use Rattle.pf_base.specs.declared.pair.Pair.{Pair}
use Rattle.pf_table.specs.declared.pairs.Repeats.{Repeats}
use Rattle.pf_table.specs.declared.pairs.Repeats.TheVariants.{First, Last}

-- a key is there
abbrev pub has_key : List Pair → List ℕ → Bool
has_key pairs key = list_any (λ pair. bytes_eq key pair.key) pairs

-- of two pairs of one key the first counts, or the last
abbrev pub counting : Repeats → Pair → Pair → Pair
counting First pair other = pair
counting Last pair other = record pair { value = other.value }

-- pairs with one more: after them where its key is new, else in the place of the pair of its key
abbrev pub with_pair : Repeats → List Pair → Pair → List Pair
with_pair repeats [] other = other ∷ []
with_pair repeats (pair ∷ pairs) other =
    if bytes_eq other.key pair.key then counting repeats pair other ∷ pairs else pair ∷ with_pair repeats pairs other

-- pairs in turn
abbrev pub pairs_of : Repeats → List Pair → List Pair
pairs_of repeats pairs = fold (with_pair repeats) [] pairs

-- pairs in an order in which the one of a key that counts comes before its others
abbrev pub counted : Repeats → List Pair → List Pair
counted First pairs = pairs
counted Last pairs = reverse pairs

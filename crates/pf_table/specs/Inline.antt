-- Tables that are in their specification (DATABASE_README, inline). That an item without braces has no space in it, and that of repeated
-- keys the first counts, is postgate's own.
use Rattle.std.specs.Prelude.{◌≡◌, ℕ, ◌+◌, ◌++◌, ◌==◌, Bool, nat_lt, List, [], ◌∷◌, Option, None, Some, Result, Ok, Err, codes, length, take, drop, if◌then◌else◌}
use Rattle.std.specs.List.{list_any, position}
use Rattle.pf_base.specs.Text.Ascii as ascii
use Rattle.pf_base.specs.Text.Braces.{partner}
use Rattle.pf_base.specs.Options.{◌>>=◌}
use Rattle.pf_base.specs.Text.Space.{is_space, trimmed}
use Rattle.pf_base.specs.Text.Words.{words_of}
use Rattle.pf_base.specs.declared.pair.Pair.{Pair}
use Rattle.pf_base.specs.Refusal.{refused}
use Rattle.pf_base.specs.declared.refused.Cause.TheVariants.{C9}
use Rattle.pf_base.specs.declared.refused.Refused.{Refused}
use Rattle.pf_base.specs.declared.text.words.WordsFault.{WordsFault}
use Rattle.pf_table.specs.Pairs.{pairs_of}
use Rattle.pf_table.specs.Tables.{Keyed, found_in, kept_key}
use Rattle.pf_table.specs.declared.pairs.Repeats.TheVariants.{First}

-- a text up to its end, the partner of the brace before it
abbrev pub unless_behind : List ℕ → ℕ → Option (List ℕ)
unless_behind text place = if place + 1 == length text then Some (take place text) else None

-- what is in the brace that was opened before a text, where nothing is after its partner
abbrev pub in_brace : List ℕ → Option (List ℕ)
in_brace text = partner 0 text >>= unless_behind text

-- the text of an item: in braces, or without space
abbrev pub item_text : List ℕ → Option (List ℕ)
item_text [] = None
item_text (b ∷ item) =
    if b == ascii.left_brace then in_brace item
    else if list_any is_space (b ∷ item) then None
    else Some (b ∷ item)

-- a pair, unless its key is empty
abbrev pub unless_no_key : Bool → List ℕ → List ℕ → Option Pair
unless_no_key folds key value = if nat_lt 0 (length key) then Some (record { key = kept_key folds key; value = value }) else None

-- a text parted at its first equals sign, space round the key and the value dropped
abbrev pub pair_of : Bool → List ℕ → Option Pair
pair_of folds text = do
  place ← position (λ b. b == ascii.equals_sign) text
  unless_no_key folds (trimmed (take place text)) (trimmed (drop (place + 1) text))

abbrev pub item_pair : Bool → List ℕ → Option Pair
item_pair folds item = item_text item >>= pair_of folds

-- the pairs of all items, if each has one
abbrev pub item_pairs : Bool → List (List ℕ) → Option (List Pair)
item_pairs folds [] = Some []
item_pairs folds (item ∷ items) = do
  pair ← item_pair folds item
  pairs ← item_pairs folds items
  Some (pair ∷ pairs)

-- of a repeated key the first item counts
abbrev pub pairs_in : Bool → List (List ℕ) → Option (List Pair)
pairs_in folds items = do
  pairs ← item_pairs folds items
  Some (pairs_of First pairs)

-- the pairs of the words of a text, if it has words
abbrev pub pairs_of_words : Bool → Result (List (List ℕ)) WordsFault → Option (List Pair)
pairs_of_words folds (Ok items) = pairs_in folds items
pairs_of_words folds (Err fault) = None

-- the pairs of a text, if it is one of a table
abbrev pub inline_pairs : Bool → List ℕ → Option (List Pair)
inline_pairs folds text = pairs_of_words folds (words_of text)

-- the refusal of a text that is no table
abbrev pub text_refused : List ℕ → ℕ → List ℕ → Refused
text_refused file line text = refused file line C9 (codes "inline:{" ++ text ++ codes "}")

abbrev pub or_refused : List ℕ → ℕ → Bool → List ℕ → Option (List Pair) → Result Keyed Refused
or_refused file line folds text None = Err (text_refused file line text)
or_refused file line folds text (Some pairs) = Ok (record { folds = folds; pairs = pairs })

-- the table of a text
abbrev pub inline_of : List ℕ → ℕ → Bool → List ℕ → Result Keyed Refused
inline_of file line folds text = or_refused file line folds text (inline_pairs folds text)

-- each key has the value of its first item
abbrev pub Counts : Bool → List ℕ → Keyed → Type 0
Counts folds text table = (items : List (List ℕ)) (pairs : List Pair) (key : List ℕ) → words_of text ≡ Ok items → item_pairs folds items ≡ Some pairs
    → found_in table.pairs key ≡ found_in pairs key

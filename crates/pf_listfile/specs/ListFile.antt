-- List files (DATABASE_README; postconf(5), mydestination and mynetworks): the items of a file, read from the left, of which the first
-- that matches decides. The values and the refusals are postgate's own.
use Rattle.std.specs.Prelude.{ℕ, ◌++◌, Bool, true, false, List, [], ◌∷◌, Option, None, Some, Result, Ok, Err, codes, if◌then◌else◌}
use Rattle.std.specs.List.{find}
use Rattle.pf_asks.specs.Looking.{Meaning}
use Rattle.pf_asks.specs.declared.lookup.Found.{Found}
use Rattle.pf_asks.specs.declared.lookup.Found.TheVariants.{Value, Absent}
use Rattle.pf_asks.specs.declared.lookup.Results.TheVariants.{Listed}
use Rattle.pf_base.specs.Options as options
use Rattle.pf_base.specs.Refusal.{refused}
use Rattle.pf_base.specs.Results.{◌>>=◌}
use Rattle.pf_base.specs.Text.Logical.{grouped, physical_lines}
use Rattle.pf_base.specs.Text.Words.{words_of}
use Rattle.pf_base.specs.declared.refused.Cause.TheVariants.{C11}
use Rattle.pf_base.specs.declared.refused.Refused.{Refused}
use Rattle.pf_base.specs.declared.text.logical.Logical.{Logical}
use Rattle.pf_base.specs.declared.text.words.WordsFault.{WordsFault}
use Rattle.pf_table.specs.Text.{lines_in}
use Rattle.pf_listfile.specs.Items.{item_of, matches}
use Rattle.pf_listfile.specs.declared.item.Item.{Item}

-- the items of words, if each is one
abbrev pub items_in : List (List ℕ) → Option (List Item)
items_in [] = Some []
items_in (word ∷ words) = options.◌>>=◌ (item_of word) (λ item. options.◌>>=◌ (items_in words) (λ items. Some (item ∷ items)))

-- words that braces leave whole
abbrev pub items_of_words : Result (List (List ℕ)) WordsFault → Option (List Item)
items_of_words (Ok words) = items_in words
items_of_words (Err fault) = None

-- the items of a line, which is parted as a value is
abbrev pub line_items : List ℕ → Option (List Item)
line_items text = items_of_words (words_of text)

-- what a refusal names
abbrev pub item_reason : List ℕ
item_reason = codes "item"

abbrev pub or_refused : List ℕ → ℕ → Option (List Item) → Result (List Item) Refused
or_refused file line (Some items) = Ok items
or_refused file line None = Err (refused file line C11 item_reason)

-- the items of lines in order, or the refusal of the first line that has something else
abbrev pub lines_items : List ℕ → List Logical → Result (List Item) Refused
lines_items file [] = Ok []
lines_items file (logical ∷ lines) = do
  items ← or_refused file logical.line (line_items logical.text)
  more ← lines_items file lines
  Ok (items ++ more)

-- the items of a text
unfoldable pub items_of : List ℕ → List ℕ → Result (List Item) Refused
items_of file text = do
  lines ← lines_in file (grouped (physical_lines text))
  lines_items file lines

-- an item says `yes`, or after `!` it says `no`
abbrev pub says : Bool → List ℕ
says excludes = if excludes then codes "no" else codes "yes"

abbrev pub value_of : Option Item → Found
value_of None = Absent
value_of (Some item) = Value (says item.excludes)

-- what the first item says that a key matches
abbrev pub found_in : List Item → List ℕ → Found
found_in items key = value_of (find (matches key) items)

-- the values that it may give
abbrev pub values : List (List ℕ)
values = says false ∷ says true ∷ []

abbrev pub list_meaning : List Item → Meaning
list_meaning items = record {
  value = λ key. Some (found_in items key);
  partial_keys = true;
  results = Listed values;
}

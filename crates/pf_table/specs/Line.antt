-- A line of a text table (DATABASE_README, texthash): a key, space and a value. That a key may be in quotes is postgate's own.
use Rattle.std.specs.Prelude.{ℕ, ◌+◌, ◌++◌, ◌==◌, ◌&&◌, Bool, true, false, not, nat_lt, List, [], ◌∷◌, Option, None, Some, Result, Ok, Err, codes, length, take, drop, if◌then◌else◌}
use Rattle.std.specs.List.{position_or_len}
use Rattle.std.specs.Option.{option_map}
use Rattle.pf_base.specs.Text.Ascii as ascii
use Rattle.pf_base.specs.Text.Space.{is_space, trimmed}
use Rattle.pf_base.specs.declared.pair.Pair.{Pair}
use Rattle.pf_table.specs.Tables.{kept_key}
use Rattle.pf_table.specs.declared.line.Reason.{Reason}
use Rattle.pf_table.specs.declared.line.Reason.TheVariants.{QuoteNotClosed, NoValue}

-- what a refusal names
abbrev pub reason_text : Reason → List ℕ
reason_text QuoteNotClosed = codes "quote not closed"
reason_text NoValue = codes "no value"

-- the place of the first quote that no backslash takes; taken says that one is before the text
abbrev pub closing_quote : Bool → List ℕ → Option ℕ
closing_quote taken [] = None
closing_quote taken (b ∷ text) =
    if not taken && b == ascii.double_quote then Some 0 else option_map (λ n. n + 1) (closing_quote (not taken && b == ascii.backslash) text)

-- a quoted text without the backslashes that take a byte
abbrev pub unquoted : Bool → List ℕ → List ℕ
unquoted taken [] = []
unquoted taken (b ∷ text) = if not taken && b == ascii.backslash then unquoted true text else b ∷ unquoted false text

-- what is after the quote that a line begins with
abbrev pub behind_quote : List ℕ → Option (List ℕ)
behind_quote [] = None
behind_quote (b ∷ text) = if b == ascii.double_quote then Some text else None

-- where the first space is
abbrev pub key_end : List ℕ → ℕ
key_end text = position_or_len is_space text

-- a key that begins with this and goes on up to the first space, and the value after that
abbrev pub pair_behind : Bool → List ℕ → List ℕ → Pair
pair_behind folds prefix text = record {
  key = kept_key folds (prefix ++ take (key_end text) text);
  value = trimmed (drop (key_end text) text);
}

-- the key begins with what is up to the closing quote
abbrev pub quoted_pair : Bool → List ℕ → Option Pair
quoted_pair folds text = option_map (λ place. pair_behind folds (unquoted false (take place text)) (drop (place + 1) text)) (closing_quote false text)

-- a line by what is after its quote, if it begins with one
abbrev pub split_by : Bool → List ℕ → Option (List ℕ) → Option Pair
split_by folds text (Some behind) = quoted_pair folds behind
split_by folds text None = Some (pair_behind folds [] text)

abbrev pub split : Bool → List ℕ → Option Pair
split folds text = split_by folds text (behind_quote text)

-- a pair has a value
abbrev pub valued : Option Pair → Result Pair Reason
valued None = Err QuoteNotClosed
valued (Some pair) = if nat_lt 0 (length pair.value) then Ok pair else Err NoValue

-- the pair of a line
abbrev pub pair_of : Bool → List ℕ → Result Pair Reason
pair_of folds text = valued (split folds text)

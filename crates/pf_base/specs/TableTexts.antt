-- Table texts in order, each once. By no standard.
use Rattle.std.specs.Prelude.{◌≡◌, ℕ, ◌++◌, List, [], ◌∷◌, Option, None, Some, length}
use Rattle.std.specs.List.{position}
use Rattle.std.specs.Str.{bytes_eq}
use Rattle.pf_base.specs.declared.table_texts.TableText.{TableText}

-- the name of the file, and the texts with the lines of their first settings
pub record TableTexts : Type 0 where
  pub file : List ℕ
  pub texts : List TableText

-- the place of a text
abbrev pub place_of : List TableText → List ℕ → Option ℕ
place_of texts text = position (λ one. bytes_eq one.text text) texts

-- the texts with another one after them, if it is new
abbrev pub with_text : List TableText → Option ℕ → ℕ → List ℕ → List TableText
with_text texts (Some place) line text = texts
with_text texts None line text = texts ++ (record { line = line; text = text } ∷ [])

-- the place of a text, or of the next one
abbrev pub place_or_next : List TableText → Option ℕ → ℕ
place_or_next texts (Some place) = place
place_or_next texts None = length texts

-- a text was added and has this place
pub record Adds (old new : TableTexts) (id line : ℕ) (text : List ℕ) : Type 0 where
  pub new_is : new ≡ record old { texts = with_text old.texts (place_of old.texts text) line text }
  pub id_is : id ≡ place_or_next old.texts (place_of old.texts text)

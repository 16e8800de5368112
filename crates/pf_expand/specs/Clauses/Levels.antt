-- The sizes of names' values, as the code keeps them. Words of the code's contracts.
use Rattle.std.specs.Prelude.{◌≡◌, ℕ, List, Option, None, Some, get_or}
use Rattle.pf_expand.specs.Clauses.Meanings.{Kept, level_value, place_in}
use Rattle.pf_expand.specs.Clauses.Sizes.{behind_choice, size_of}
use Rattle.pf_expand.specs.declared.lengths.Sizes.{Sizes}
use Rattle.pf_expand.specs.declared.run.Mode.{Mode}
use Rattle.pf_expand.specs.declared.run.Mode.TheVariants.{Counts}
use Rattle.pf_expand.specs.declared.size.Size.{Size}
use Rattle.pf_expand.specs.declared.token.Token.{Token}
use Rattle.pf_expand.specs.declared.token.Token.TheVariants.{Literal, Name, Choose, Otherwise, End}

-- the size at a place
abbrev pub size_at : Sizes → Option ℕ → Size
size_at sizes None = sizes.absent
size_at sizes (Some place) = get_or sizes.named place sizes.absent

-- of a name
abbrev pub size_named : List (List ℕ × Kept) → Sizes → List ℕ → Size
size_named names sizes name = size_at sizes (place_in names name)

-- which pieces count after the name of a choice; of another piece nothing is asked
abbrev pub choice_behind : List (List ℕ × Kept) → Sizes → Token → Mode
choice_behind names sizes (Literal bytes) = Counts
choice_behind names sizes (Name name) = Counts
choice_behind names sizes (Choose name) = behind_choice (size_named names sizes name)
choice_behind names sizes Otherwise = Counts
choice_behind names sizes End = Counts

-- these are the sizes of the values with so many levels left
abbrev pub AreSizes : List (List ℕ × Kept) → Sizes → Type 0
AreSizes names sizes = (name : List ℕ) → size_named names sizes name ≡ size_of (level_value names sizes.levels name)

-- Lines of a text that comes in pieces: a line may lie across two of them. Words of contracts, by no standard.
use Rattle.std.specs.Prelude.{ℕ, ◌++◌, List, [], ◌∷◌}

-- the lines, the first of which has these bytes before it; where there is no line, nothing has
abbrev pub onto_line : List ℕ → List (List ℕ) → List (List ℕ)
onto_line part [] = []
onto_line part (line ∷ lines) = (part ++ line) ∷ lines

-- these bytes, unless there is a line that they belong to
abbrev pub unless_line : List (List ℕ) → List ℕ → List ℕ → List ℕ
unless_line [] bytes rest = bytes
unless_line (line ∷ lines) bytes rest = rest

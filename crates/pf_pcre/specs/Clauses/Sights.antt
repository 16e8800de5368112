-- What a finder sees of a pattern in a text. Words of contracts, by no standard.
use Rattle.std.specs.Prelude.{◌≡◌, ℕ, ◌-◌, ◌*◌, ◌/◌, ◌==◌, Bool, true, nat_le, List, Option, Some, None, IsSomeAnd, length, slice_index, ⊤, if◌then◌else◌}
use Rattle.regex.specs.Writes.{both}
use Rattle.regex_nfa.specs.declared.nfa.Nfa.{Nfa}
use Rattle.regex_tagged.specs.Search.{IsNear}
use Rattle.regex_tagged.specs.declared.near.Near.TheVariants.{Done}
use Rattle.std.specs.Str.{IsCharBoundary}
use Rattle.pf_pcre.specs.Patterns.{Seen, span_of}
use Rattle.pf_pcre.specs.declared.finder.Sight.{Sight}
use Rattle.pf_pcre.specs.declared.finder.Sight.TheVariants as sight
use Rattle.pf_pcre.specs.declared.pieces.Piece.{Piece}
use Rattle.pf_pcre.specs.declared.pieces.Piece.TheVariants.{Byte, Group}

-- the place that a cell holds
abbrev pub place_of : ℕ → Option ℕ
place_of cell = if cell == 0 then None else Some (cell - 1)

-- cells say where a group is
abbrev pub has_cells : List ℕ → ℕ → Bool
has_cells cells group = nat_le group (length cells / 2)

-- where a group is by the cells of a match
abbrev pub span_by : ℕ → ℕ → List ℕ → ℕ → Option (ℕ × ℕ)
span_by from to cells group =
    if group == 0 then Some (from, to) else both (place_of (slice_index cells (2 * group - 2))) (place_of (slice_index cells (2 * group - 1)))

-- where groups are by the cells of a match is where they are seen
abbrev pub AreSpans : ℕ → ℕ → List ℕ → Seen → Type 0
AreSpans from to cells seen = (group : ℕ) → has_cells cells group ≡ true → span_by from to cells group ≡ span_of seen group

-- what a finder sees is the first match, or that there is none
abbrev pub IsSight : Option Seen → List ℕ → Sight → Type 0
IsSight first cells sight.Nothing = first ≡ None
IsSight first cells (sight.Match from to) = IsSomeAnd first (AreSpans from to cells)
IsSight first cells sight.Unknown = ⊤

-- an automaton found a match that starts between characters, and left the cells of so many groups; it is not said that there is none
abbrev pub IsFoundBy : Nfa → List ℕ → List ℕ → Sight → Type 0
IsFoundBy nfa text cells sight.Nothing = ⊥
IsFoundBy nfa text cells (sight.Match from to) = ((n : ℕ) × IsNear nfa text 0 n cells (Done (Some (from, to)))) × IsCharBoundary text from
IsFoundBy nfa text cells sight.Unknown = ⊤

-- cells say where the group of a piece is
abbrev pub piece_has_cells : List ℕ → Piece → Bool
piece_has_cells cells (Byte b) = true
piece_has_cells cells (Group group) = has_cells cells group

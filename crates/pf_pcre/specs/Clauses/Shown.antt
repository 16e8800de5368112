-- What code reads in a line, as definitions see it. Words of contracts, by no standard.
use Rattle.std.specs.Prelude.{ℕ, List}
use Rattle.std.specs.Borrow.{Bor}
use Rattle.pf_pcre.specs.Pieces.{First}
use Rattle.pf_pcre.specs.Shape.{Delimited}
use Rattle.pf_pcre.specs.declared.pieces.Piece.{Piece}
use Rattle.pf_pcre.specs.declared.shape.Shape.{Shape}

-- a pattern in a line
abbrev pub shown : Shape → Delimited
shown shape = record { negated = shape.negated; pattern = shape.pattern.now; behind = shape.behind.now }

-- a piece of a result, and what is after it
abbrev pub first_shown : Piece × Bor (List ℕ) → First
first_shown first = (first.0, first.1.now)

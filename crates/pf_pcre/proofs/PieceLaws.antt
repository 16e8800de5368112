-- Pieces that are read one after the other make the result.
use Rattle.std.proofs.Common.{◌≡◌, ◌<◌, ◌+◌, ◌-◌, ℕ, suc, List, [], ◌∷◌, ◌++◌, length, Option, Some, None, refl, sym, ap, ◌∙◌, append_assoc, arith}
use Rattle.std.specs.Prelude.{option_map}
use Rattle.pf_base.specs.Options.{◌>>=◌}
use Rattle.pf_pcre.specs.Pieces.{First, first_piece, pieces_of, pieces_within}
use Rattle.pf_pcre.specs.declared.pieces.Piece.{Piece}

-- pieces before those of a text
abbrev pub before : List Piece → Option (List Piece) → Option (List Piece)
before pieces rest = option_map (λ behind. pieces ++ behind) rest

one_more : (pieces : List Piece) (piece : Piece) (rest : Option (List Piece))
    → before pieces (rest >>= λ behind. Some (piece ∷ behind)) ≡ before (pieces ++ (piece ∷ [])) rest
one_more pieces piece None = refl
one_more pieces piece (Some behind) = ap Some (sym (append_assoc pieces (piece ∷ []) behind))

-- a piece more
taken : (groups most : ℕ) (rest : List ℕ) (first : First) → Some first ≡ first_piece groups rest
    → pieces_within groups (suc most) rest ≡ (pieces_within groups most first.1 >>= λ behind. Some (first.0 ∷ behind))
taken groups most [] first is = cc
taken groups most (b ∷ rest) first is = rw (sym is)

pub piece_more : (groups i : ℕ) (text rest : List ℕ) (pieces : List Piece) (first : First) → i < length text → Some first ≡ first_piece groups rest
    → pieces_of groups text ≡ before pieces (pieces_within groups (length text - i) rest)
    → pieces_of groups text ≡ before (pieces ++ (first.0 ∷ [])) (pieces_within groups (length text - (i + 1)) first.1)
piece_more groups i text rest pieces first within is led =
    let one : length text - i ≡ suc (length text - (i + 1)) = omega arith in
    led ∙ ap (λ n. before pieces (pieces_within groups n rest)) one
    ∙ ap (before pieces) (taken groups (length text - (i + 1)) rest first is)
    ∙ one_more pieces first.0 (pieces_within groups (length text - (i + 1)) first.1)

-- before the first byte
nothing_before : (o : Option (List Piece)) → o ≡ before [] o
nothing_before None = refl
nothing_before (Some pieces) = refl

pub at_first : (groups : ℕ) (text : List ℕ) (pieces : List Piece) → pieces ≡ [] → pieces_of groups text ≡ before pieces (pieces_within groups (length text - 0) text)
unfolding pieces_of
at_first groups text pieces none =
    let all : length text ≡ length text - 0 = omega arith in
    nothing_before (pieces_within groups (length text) text)
    ∙ ap (λ n. before [] (pieces_within groups n text)) all
    ∙ ap (λ p. before p (pieces_within groups (length text - 0) text)) (sym none)

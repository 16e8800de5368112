-- Worked examples of the definitions, each by computation.
use Rattle.std.proofs.Common.{◌≡◌, ℕ, true, false, List, [], ◌∷◌, None, Option, Some, Ok, Err, refl, codes, map}
use Rattle.pf_pcre.specs.Pieces.{pieces_of}
use Rattle.pf_pcre.specs.Shape.{Delimited, shape_of}
use Rattle.pf_pcre.specs.Switches.{switches_of}
use Rattle.pf_pcre.specs.Tables.{Line, entry_of, first_unclosed, results_of}
use Rattle.pf_pcre.specs.declared.entry.Condition.{Condition}
use Rattle.pf_pcre.specs.declared.entry.Entry.{Entry}
use Rattle.pf_pcre.specs.declared.entry.Entry.TheVariants.{Endif, If, Rule}
use Rattle.pf_pcre.specs.declared.pieces.Piece.{Piece}
use Rattle.pf_pcre.specs.declared.pieces.Piece.TheVariants.{Byte, Group}
use Rattle.pf_pcre.specs.declared.reason.Reason.TheVariants as reason
use Rattle.pf_asks.specs.declared.lookup.Results.TheVariants.{Anything, Listed}

-- patterns between delimiters
abbrev shape : List ℕ → List ℕ → Option Delimited
shape pattern behind = Some (record { negated = false; pattern = pattern; behind = behind })

abbrev negated : List ℕ → List ℕ → Option Delimited
negated pattern behind = Some (record { negated = true; pattern = pattern; behind = behind })

shapes_are_parted : map shape_of
    (codes "/x/i y"
    ∷ codes "!/x/ y"
    ∷ codes "%a/b%"
    ∷ codes "/a\\/b/ y"
    ∷ codes "/a\\\\/ y"
    ∷ codes "// y"
    ∷ codes "x"
    ∷ codes "! /x/"
    ∷ codes "!!x!"
    ∷ codes "/x"
    ∷ codes "/x\\/ y"
    ∷ codes "\\x\\"
    ∷ [] ∷ [])
    ≡ shape (codes "x") (codes "i y")
    ∷ negated (codes "x") (codes " y")
    ∷ shape (codes "a/b") []
    ∷ shape (codes "a\\/b") (codes " y")
    ∷ shape (codes "a\\\\") (codes " y")
    ∷ shape [] (codes " y")
    ∷ None
    ∷ None
    ∷ None
    ∷ None
    ∷ None
    ∷ None
    ∷ None ∷ []
shapes_are_parted = refl

-- flags
flags_toggle : map switches_of ([] ∷ codes "i" ∷ codes "ii" ∷ codes "mxUs" ∷ codes "E" ∷ codes "iq" ∷ codes "I" ∷ [])
    ≡ Some (record { case = true; lines = false; dot = true; free = false; greed = false })
    ∷ Some (record { case = false; lines = false; dot = true; free = false; greed = false })
    ∷ Some (record { case = true; lines = false; dot = true; free = false; greed = false })
    ∷ Some (record { case = true; lines = true; dot = false; free = true; greed = true })
    ∷ Some (record { case = true; lines = false; dot = true; free = false; greed = false })
    ∷ None
    ∷ None
    ∷ []
flags_toggle = refl

-- results of a pattern with two groups
pieces_are_read : map (pieces_of 2)
    ([] ∷ codes "a$1" ∷ codes "${2}0" ∷ codes "$(01)" ∷ codes "$$1" ∷ codes "$0" ∷ codes "$3" ∷ codes "$12" ∷ codes "${1" ∷ codes "$x" ∷ codes "$" ∷ codes "$$$" ∷ [])
    ≡ Some []
    ∷ Some (Byte 97 ∷ Group 1 ∷ [])
    ∷ Some (Group 2 ∷ Byte 48 ∷ [])
    ∷ Some (Group 1 ∷ [])
    ∷ Some (Byte 36 ∷ Byte 49 ∷ [])
    ∷ None
    ∷ None
    ∷ None
    ∷ None
    ∷ None
    ∷ None
    ∷ None
    ∷ []
unfolding pieces_of
pieces_are_read = refl

no_group_is_named : pieces_of 0 (codes "$1") ≡ None
unfolding pieces_of
no_group_is_named = refl

-- lines that need no pattern
lines_are_read : map (entry_of false) (codes "endif" ∷ codes "EndIf " ∷ codes "if" ∷ codes "endif x" ∷ codes "/x/q y" ∷ codes "if /x/ y" ∷ codes "x" ∷ [])
    ≡ Ok Endif
    ∷ Ok Endif
    ∷ Err reason.Pattern
    ∷ Err reason.Pattern
    ∷ Err reason.Flag
    ∷ Err reason.Flag
    ∷ Err reason.Pattern
    ∷ []
unfolding entry_of
lines_are_read = refl

-- conditions that are not closed
abbrev some_condition : Condition
some_condition = record { negated = false; pattern = record { switches = record { case = true; lines = false; dot = true; free = false; greed = false }; text = codes "x" } }

abbrev line : ℕ → Entry → Line
line number entry = record { number = number; entry = entry }

unclosed_conditions : map first_unclosed
    ((line 1 (If some_condition) ∷ line 2 Endif ∷ [])
    ∷ (line 1 (If some_condition) ∷ line 2 (If some_condition) ∷ line 3 Endif ∷ [])
    ∷ (line 1 (If some_condition) ∷ line 2 Endif ∷ line 3 (If some_condition) ∷ [])
    ∷ [])
    ≡ None ∷ Some 1 ∷ Some 3 ∷ []
unclosed_conditions = refl

-- results
abbrev rule : List Piece → Entry
rule pieces = Rule (record { condition = some_condition; pieces = pieces })

results_are_listed : map results_of ((If some_condition ∷ rule (Byte 97 ∷ Byte 36 ∷ []) ∷ Endif ∷ rule (Byte 98 ∷ []) ∷ []) ∷ (rule (Byte 97 ∷ []) ∷ rule (Group 1 ∷ []) ∷ []) ∷ [] ∷ [])
    ≡ Listed ((97 ∷ 36 ∷ []) ∷ (98 ∷ []) ∷ []) ∷ Anything ∷ Listed [] ∷ []
unfolding results_of
results_are_listed = refl

-- Which texts are patterns and what they find (pcre_table(5)). The patterns are those of the crate regex, whose grammar and search say
-- what each of them means.
use Rattle.std.specs.Prelude.{ℕ, ◌+◌, ◌*◌, ◌-◌, ◌==◌, Bool, true, false, nat_le, List, [], ◌∷◌, Option, Some, None, Result, Ok, Err, chars, length, option_map, slice_range, if◌then◌else◌}
use Rattle.std.specs.List.{flat_map}
use Rattle.std.specs.Option.{option_and_then}
use Rattle.std.specs.Str.{is_utf8}
use Rattle.regex.specs.Patterns.{Config, Match, Re, default_config, find_str, slot_of}
use Rattle.regex.specs.Writes.{both}
use Rattle.regex_syntax.specs.Brackets.{Nested}
use Rattle.regex_syntax.specs.Grammar.{Names, read}
use Rattle.pf_pcre.specs.declared.pieces.Piece.{Piece}
use Rattle.pf_pcre.specs.declared.pieces.Piece.TheVariants.{Byte, Group}
use Rattle.pf_pcre.specs.declared.patterns.BuildFault.{BuildFault}
use Rattle.pf_pcre.specs.declared.patterns.BuildFault.TheVariants as fault
use Rattle.pf_pcre.specs.declared.switches.Switches.{Switches}

-- a pattern as it is written
pub record Written : Type 0 where
  pub switches : Switches
  pub text : List ℕ

-- the options of the crate regex that are meant by switches
abbrev pub config_of : Switches → Config
config_of switches = record default_config {
  flags = record {
    case_insensitive = switches.case;
    multi_line = switches.lines;
    dot_matches_new_line = switches.dot;
    swap_greed = switches.greed;
    unicode = true;
    crlf = false;
    ignore_whitespace = switches.free;
  };
}

-- what a text is as a pattern, with the names of its groups, of which the first is the whole match
abbrev pub IsRead : Type 0
IsRead = Option (Nested Re × Names)

abbrev pub read_of : Written → IsRead
read_of written = read (config_of written.switches) (chars written.text)

-- how deep groups, repetitions and classes may be nested
abbrev pub deepest : ℕ
deepest = 250

abbrev pub groups_in : IsRead → Option ℕ
groups_in None = None
groups_in (Some found) = if nat_le found.0.depth deepest then Some (length found.1 - 1) else None

-- how many groups a text has as a pattern, if it is one
unfoldable pub groups_of : Written → Option ℕ
groups_of written = if is_utf8 written.text then groups_in (read_of written) else None

-- a pattern, unless the crate refuses it for its size
abbrev pub built_with : Bool → Written → Option ℕ → Result Written BuildFault
built_with large written None = Err fault.Syntax
built_with large written (Some groups) = if large then Err fault.TooLarge else Ok written

abbrev pub built_of : Bool → Written → Result Written BuildFault
built_of large written = built_with large written (groups_of written)

-- what is found of a pattern: where it starts and ends, and the place that was last written to each slot
abbrev pub Seen : Type 0
Seen = ℕ × ℕ × (ℕ → Option ℕ)

abbrev pub seen_of : Match → Seen
seen_of m = (m.start, m.trace.end, slot_of m)

-- the first match of a pattern in a text
unfoldable pub found : Written → List ℕ → Option Seen
found written text = option_and_then (λ p. option_map seen_of (find_str p.0.value text 0)) (read_of written)

-- where a group lies, if it took part
abbrev pub span_of : Seen → ℕ → Option (ℕ × ℕ)
span_of seen group = if group == 0 then Some (seen.0, seen.1) else both (seen.2 (2 * group)) (seen.2 (2 * group + 1))

-- the bytes of a text from one place to another
abbrev pub text_at : List ℕ → Option (ℕ × ℕ) → List ℕ
text_at text None = []
text_at text (Some span) = slice_range text span.0 span.1

-- what a piece of a result gives, where groups lie so
abbrev pub piece_text : List ℕ → (ℕ → Option (ℕ × ℕ)) → Piece → List ℕ
piece_text text spans (Byte b) = b ∷ []
piece_text text spans (Group group) = text_at text (spans group)

abbrev pub expanded : List ℕ → (ℕ → Option (ℕ × ℕ)) → List Piece → List ℕ
expanded text spans pieces = flat_map (piece_text text spans) pieces

-- a result with the groups of a match
abbrev pub value_of : List ℕ → List Piece → Option Seen → Option (List ℕ)
value_of text pieces seen = option_map (λ s. expanded text (span_of s) pieces) seen

-- What sieves and finders say of a pattern.
use Rattle.std.proofs.Common.{◌≡◌, ℕ, zero, suc, ◌+◌, ◌-◌, ◌*◌, ◌/◌, ◌<◌, ◌≤◌, true, false, List, [], ◌∷◌, ◌++◌, length, get_or, Fits, w8, IsCharBoundary, Option, Some, None, is_some, refl, sym, ap, ap₂, subst, ◌∙◌, arith, inl, inr}
use Rattle.std.specs.Prelude.{All, IfSome, IsSomeAnd, chars, option_map, slice_index}
use Rattle.std.specs.List.{list_all, range_with_len}
use Rattle.std.specs.Option.{option_and_then, option_or}
use Rattle.std.proofs.Math.Logic.{∥∥₁_elim}
use Rattle.std.proofs.Props.{props}
use Rattle.std.proofs.lemmas.Bool.{and_parts, cases_Bool, cond-true, cond-false, leb-true, ne_eqb}
use Rattle.std.proofs.lemmas.List.{get_or_default, length-map}
use Rattle.std.proofs.lemmas.List.FromFn.{get_or-map-range_with_len, length-range_with_len}
use Rattle.regex.specs.Patterns.{Config, Match, Re, Reads, find, find_str, slot_of}
use Rattle.regex.specs.Writes.{both}
use Rattle.regex.proofs.Utf8Lemmas.{test_of_IsCharBoundary}
use Rattle.regex_dfa.specs.Search.{end_from, entry}
use Rattle.regex_hir.specs.Find.{last_write}
use Rattle.regex_hir.specs.Meaning.{meaning}
use Rattle.regex_hir.specs.Text.{is_boundary}
use Rattle.regex_hir.specs.declared.hir.Hir.{Hir}
use Rattle.regex_hir.proofs.FindLemmas.{IsFirst-of_first_between, first_between_none, first_between_of_IsFirst, none_of_first_between}
use Rattle.regex_hir.proofs.OptionLemmas.{option_or-None}
use Rattle.regex_meta.specs.Programs.{pattern_of}
use Rattle.regex_meta.specs.declared.program.Program.{Program}
use Rattle.regex_meta.proofs.ProgramLemmas.{first_match-leftmost, leftmost_no_end, value_of_option_map}
use Rattle.regex_syntax.specs.Grammar.{Names, read}
use Rattle.regex_tagged.specs.Search.{IsNear}
use Rattle.regex_tagged.specs.declared.near.Near.TheVariants.{Done}
use Rattle.regex_vm.specs.Found.{cell, group_cells, span}
use Rattle.pf_pcre.specs.Patterns.{Seen, config_of, expanded, found, seen_of, span_of, text_at, value_of}
use Rattle.pf_pcre.specs.Clauses.Built.{Finds, IsPatternOf, Passes}
use Rattle.pf_pcre.specs.Clauses.Sights.{AreSpans, IsFoundBy, IsSight, piece_has_cells, place_of, span_by}
use Rattle.pf_pcre.specs.declared.finder.Sight.{Sight}
use Rattle.pf_pcre.specs.declared.finder.Sight.TheVariants as sights
use Rattle.pf_pcre.specs.declared.pieces.Piece.{Piece}
use Rattle.pf_pcre.specs.declared.pieces.Piece.TheVariants.{Byte, Group}
use Rattle.pf_pcre.specs.declared.switches.Switches.{Switches}
use Rattle.regex.specs.Strings.{regex_pattern}
use Rattle.regex.specs.declared.string.regex.Regex.{Regex}
use Rattle.pf_pcre.proofs.FoundLemmas.{alike_in, found_by_text, written_of}

pub are_bytes : (text : List ℕ) → ((k : ℕ) → Fits w8 (get_or text k 0)) → All (λ b. b < 256) text
are_bytes text fits = λ k d h. rw (get_or_default text k d 0 h) ((fits k).fits)

-- where an automaton ends without a match
pub none_found : (p : Program) (text : List ℕ) → All (λ b. b < 256) text → end_from p.dfa.nfa text (length text) (entry p.dfa.nfa false) 0 ≡ None → find (pattern_of p) text 0 ≡ None
none_found p text bytes none = leftmost_no_end p text bytes 0 (omega arith) none

-- where there is no match in bytes, there is none in text
pub str_none : (re : Re) (text : List ℕ) → find re text 0 ≡ None → find_str re text 0 ≡ None
unfolding find find_str
str_none re text none = first_between_none _ 0 (length text) (λ i p q.
    elim (cases_Bool (is_boundary text i)) [
      | inl t ↦ cond-true _ _ None t ∙ none_of_first_between _ 0 (length text) none i p q
      | inr f ↦ cond-false _ _ None f
    ])

-- a first match in bytes that starts between characters is the first in text
in_text : (re : Re) (text : List ℕ) (m : Match) → find re text 0 ≡ Some m → is_boundary text m.start ≡ true → find_str re text 0 ≡ Some m
unfolding find find_str
in_text re text m e cut =
    let first = IsFirst-of_first_between _ 0 (length text) m e in
    first_between_of_IsFirst _ 0 (length text) m (record {
      from = first.from;
      to = first.to;
      here = cond-true _ _ None cut ∙ first.here;
      before = λ i p q. elim (cases_Bool (is_boundary text i)) [ inl t ↦ cond-true _ _ None t ∙ first.before i p q | inr f ↦ cond-false _ _ None f ];
    })

-- a tree that is read in a text finds what its pattern finds
finds_in : (config : Config) (source : List ℕ) (hir : Hir) (names : Names) → Reads config source hir names → (text : List ℕ) → All (λ b. b < 256) text
    → option_map seen_of (find_str (meaning hir) text 0) ≡ option_and_then (λ p. option_map seen_of (find_str p.0.value text 0)) (read config (chars source))
unfolding Reads
finds_in config source hir names reads text bytes = alike_in (read config (chars source)) config.nest_limit (meaning hir) names text bytes reads

pub finds_of_read : (switches : Switches) (source : List ℕ) (hir : Hir) (names : Names) → Reads (config_of switches) source hir names
    → Finds (meaning hir) (record { switches = switches; text = source })
unfolding found
finds_of_read switches source hir names reads text bytes = finds_in (config_of switches) source hir names reads text bytes

pub finds_as : (switches : Switches) (source : List ℕ) (hir : Hir) (names : Names) (re : Re) → re ≡ meaning hir → Reads (config_of switches) source hir names
    → ∥ Finds re (record { switches = switches; text = source }) ∥₁
finds_as switches source hir names re is reads = ∣ subst (λ r. Finds r (record { switches = switches; text = source })) (sym is) (finds_of_read switches source hir names reads) ∣₁

-- a finder that was asked is still that of its pattern
pub still : (switches : Switches) (regex : Regex) (old new : Program) → new.hir ≡ old.hir → IsPatternOf switches regex (pattern_of old) → IsPatternOf switches regex (pattern_of new)
still switches regex old new same is = subst (λ hir. IsPatternOf switches regex (meaning hir)) (sym same) is

-- what a finder's tree finds is what the text finds
pub found_is : (switches : Switches) (regex : Regex) (re : Re) (text : List ℕ) → IsPatternOf switches regex re → All (λ b. b < 256) text
    → option_map seen_of (find_str re text 0) ≡ found (written_of switches regex) text
found_is switches regex re text is bytes = ∥∥₁_elim is.finds (hlevel props) (λ finds. finds text bytes)

pub passes_as : (switches : Switches) (regex : Regex) (re tree : Re) → tree ≡ re → IsPatternOf switches regex re → Passes tree (written_of switches regex)
passes_as switches regex re tree same is =
    ∣ (λ text bytes none. sym (found_is switches regex re text is bytes) ∙ ap (option_map seen_of) (str_none re text (subst (λ r. find r text 0 ≡ None) same none))) ∣₁

-- what is seen by a finder is seen of its regex
pub seen_alike : (switches : Switches) (regex : Regex) (re : Re) (text : List ℕ) → IsPatternOf switches regex re → ((k : ℕ) → get_or text k 0 < 256)
    → (cells : List ℕ) (sight : Sight) → IsSight (option_map seen_of (find_str re text 0)) cells sight
    → IsSight (option_map seen_of (find_str (regex_pattern regex) text 0)) cells sight
seen_alike switches regex re text is bytes cells sight seen =
    subst (λ first. IsSight first cells sight)
    (found_is switches regex re text is (λ k d h. rw (get_or_default text k d 0 h) (bytes k)) ∙ sym (found_by_text switches regex is.built text bytes)) seen

-- where groups are, by the cells of a match
later_slot : (m : Match) (k : ℕ) → slot_of m (k + 2) ≡ last_write m.trace.writes (k + 2)
unfolding slot_of
later_slot m k =
    ap₂ option_or
    (ap (option_or (last_write m.trace.writes (k + 2))) (cond-false _ (Some m.trace.end) None (ne_eqb 1 (k + 2) (omega arith)))
    ∙ option_or-None _)
    (cond-false _ (Some m.start) None (ne_eqb 0 (k + 2) (omega arith)))
    ∙ option_or-None _

place_of_cell : (o : Option ℕ) → place_of (cell o) ≡ o
place_of_cell None = refl
place_of_cell (Some i) = let same : i + 1 - 1 ≡ i = omega arith in rw (ne_eqb (i + 1) 0 (omega arith)) (ap Some same)

slot_by : (m : Match) (cells : List ℕ) → cells ≡ group_cells m (length cells) → (k : ℕ) → k < length cells → place_of (slice_index cells k) ≡ slot_of m (k + 2)
unfolding group_cells
slot_by m cells are k within =
    ap place_of (ap (λ xs. get_or xs k 0) are ∙ get_or-map-range_with_len _ 0 (length cells) k k 0 within (omega arith))
    ∙ place_of_cell (last_write m.trace.writes (k + 2)) ∙ sym (later_slot m k)

spans_by : (m : Match) (from to : ℕ) (cells : List ℕ) → from ≡ m.start → to ≡ m.trace.end → cells ≡ group_cells m (length cells) → AreSpans from to cells (seen_of m)
spans_by m from to cells start end are zero has = ap₂ (λ a b. Some (a, b)) start end
spans_by m from to cells start end are (suc n) has =
    let within : suc n ≤ length cells / 2 = leb-true (suc n) (length cells / 2) has in
    let one : 2 * suc n - 2 + 2 ≡ 2 * suc n = omega arith in
    let two : 2 * suc n - 1 + 2 ≡ 2 * suc n + 1 = omega arith in
    rw (ne_eqb (suc n) 0 (omega arith))
    (ap₂ both
    (slot_by m cells are (2 * suc n - 2) (omega (arith, within)) ∙ ap (slot_of m) one)
    (slot_by m cells are (2 * suc n - 1) (omega (arith, within)) ∙ ap (slot_of m) two))

cells_length : (m : Match) (n : ℕ) → length (group_cells m n) ≡ n
unfolding group_cells
cells_length m n = length-map (range_with_len 0 n) _ ∙ length-range_with_len 0 n

cells_of : (m : Match) (n : ℕ) (cells : List ℕ) → cells ≡ group_cells m n → cells ≡ group_cells m (length cells)
cells_of m n cells are = are ∙ ap (group_cells m) (sym (ap length are ∙ cells_length m n))

-- what the automaton for groups finds
pub seen_at : (p : Program) (text cells : List ℕ) (n from to : ℕ) → IsNear p.dfa.nfa text 0 n cells (Done (Some (from, to))) → IsCharBoundary text from
    → IsSomeAnd (option_map seen_of (find_str (pattern_of p) text 0)) (AreSpans from to cells)
seen_at p text cells n from to near cut =
    let v = value_of_option_map span _ (from, to) (sym near.0) in
    let start : v.0.start ≡ from = ap (λ (s : ℕ × ℕ). s.0) v.2 in
    let end : v.0.trace.end ≡ to = ap (λ (s : ℕ × ℕ). s.1) v.2 in
    let are : cells ≡ group_cells v.0 n = subst (λ o. IfSome o (λ m. cells ≡ group_cells m n)) v.1 near.1 in
    let here = in_text (pattern_of p) text v.0 (sym (first_match-leftmost p text 0) ∙ v.1) (subst (λ i. is_boundary text i ≡ true) (sym start) (test_of_IsCharBoundary text from cut)) in
    rw here (spans_by v.0 from to cells (sym start) (sym end) (cells_of v.0 n cells are))

-- what a finder sees, by what its automatons say
pub none_seen : (p : Program) (text : List ℕ) → All (λ b. b < 256) text → end_from p.dfa.nfa text (length text) (entry p.dfa.nfa false) 0 ≡ None
    → option_map seen_of (find_str (pattern_of p) text 0) ≡ None
none_seen p text bytes none = ap (option_map seen_of) (str_none (pattern_of p) text (none_found p text bytes none))

pub sight_seen : (p : Program) (text cells : List ℕ) (sight : Sight) → IsFoundBy p.dfa.nfa text cells sight → IsSight (option_map seen_of (find_str (pattern_of p) text 0)) cells sight
sight_seen p text cells sights.Nothing h = absurd h
sight_seen p text cells (sights.Match from to) h = seen_at p text cells h.0.0 from to h.0.1 h.1
sight_seen p text cells sights.Unknown h = tt

-- the value of a match that was seen
some_at : {A : Type 0} {P : A → Type 0} (o : Option A) → IsSomeAnd o P → (x : A) × (o ≡ Some x) × P x
some_at None h = absurd h
some_at (Some x) h = (x, refl, h)

expanded_by : (text : List ℕ) (seen : Seen) (from to : ℕ) (cells : List ℕ) → AreSpans from to cells seen → (pieces : List Piece) → list_all (piece_has_cells cells) pieces ≡ true
    → expanded text (span_by from to cells) pieces ≡ expanded text (span_of seen) pieces
expanded_by text seen from to cells are [] have = refl
expanded_by text seen from to cells are (Byte b ∷ pieces) have = ap (λ rest. b ∷ rest) (expanded_by text seen from to cells are pieces have)
expanded_by text seen from to cells are (Group group ∷ pieces) have =
    let parts = and_parts _ _ have in
    ap₂ ◌++◌ (ap (text_at text) (are group parts.0)) (expanded_by text seen from to cells are pieces parts.1)

pub value_by : (text : List ℕ) (first : Option Seen) (from to : ℕ) (cells : List ℕ) → IsSomeAnd first (AreSpans from to cells) → (pieces : List Piece)
    → list_all (piece_has_cells cells) pieces ≡ true → (value : List ℕ) → value ≡ expanded text (span_by from to cells) pieces → Some value ≡ value_of text pieces first
value_by text first from to cells seen pieces have value given =
    let s = some_at first seen in
    ap Some (given ∙ expanded_by text s.0 from to cells s.2 pieces have) ∙ ap (value_of text pieces) (sym s.1)

pub some_seen : (first : Option Seen) (from to : ℕ) (cells : List ℕ) → IsSomeAnd first (AreSpans from to cells) → true ≡ is_some first
some_seen first from to cells seen = let s = some_at first seen in ap is_some (sym s.1)

-- What a regex finds is what its text says as a pattern.
use Rattle.std.proofs.Common.{◌≡◌, ◌≢◌, ◌⊎◌, ℕ, zero, suc, ◌+◌, ◌*◌, ◌-◌, ◌<◌, ◌≤◌, Bool, true, false, List, length, get_or, IsUtf8, Option, Some, None, refl, sym, ap, subst, ◌∙◌, arith, ⊎_elim}
use Rattle.std.specs.Prelude.{All, IsSomeAnd, IfSome, chars, is_some, option_map, if◌then◌else◌}
use Rattle.std.specs.Option.{option_and_then}
use Rattle.std.specs.Str.{is_utf8}
use Rattle.std.proofs.Math.Logic.{∥∥₁_elim}
use Rattle.std.proofs.Math.Path.{fun_ext}
use Rattle.std.proofs.Props.{props}
use Rattle.std.proofs.lemmas.Bool.{le-leb, lt-leb, ne_eqb}
use Rattle.std.proofs.lemmas.Str.{IsUtf8-from_is_utf8}
use Rattle.std.proofs.lemmas.List.{get_or_default}
use Rattle.regex.specs.Failures.{IsPattern}
use Rattle.regex.specs.Patterns.{Config, Match, Re, Reads, Refuses, SameCaptures, find_str}
use Rattle.regex.specs.Search.{group_span}
use Rattle.regex.specs.Writes.{both}
use Rattle.regex.specs.Strings.{IsCapturesOf, IsReadFromSource, captures_haystack, captures_span, regex_config, regex_names, regex_pattern, regex_source}
use Rattle.regex.specs.declared.string.captures.Captures.{Captures}
use Rattle.regex.specs.declared.string.regex.Regex.{Regex}
use Rattle.regex_hir.specs.Meaning.{meaning}
use Rattle.regex_syntax.specs.Grammar.{Names, group_count, read}
use Rattle.regex_syntax.specs.declared.error.ErrorKind.{ErrorKind}
use Rattle.regex_syntax.specs.declared.error.ErrorKind.TheVariants.{NestLimitExceeded, OutOfMemory}
use Rattle.regex_syntax.proofs.CapturesLemmas.{find_str_alike}
use Rattle.pf_pcre.specs.Patterns.{IsRead, Seen, Written, config_of, expanded, found, groups_in, groups_of, seen_of, span_of, value_of}
use Rattle.pf_pcre.specs.Clauses.Built.{IsRegexOf}
use Rattle.pf_pcre.specs.declared.pieces.Piece.{Piece}
use Rattle.pf_pcre.specs.declared.switches.Switches.{Switches}
use Rattle.pf_pcre.proofs.Cases.{either_way}

pub alike_in : (o : IsRead) (most : ℕ) (a : Re) (names : Names) (text : List ℕ) → All (λ x. x < 256) text →
    IsSomeAnd o (λ (re, these). (re.depth ≤ most) × SameCaptures a re.value × (names ≡ these) × (group_count a ≤ length names)) →
    option_map seen_of (find_str a text 0) ≡ option_and_then (λ p. option_map seen_of (find_str p.0.value text 0)) o
alike_in None most a names text bytes h = absurd h
alike_in (Some p) most a names text bytes h = find_str_alike a p.0.value h.1 text bytes 0

abbrev pub written_of : Switches → Regex → Written
written_of switches regex = record { switches = switches; text = regex_source regex }

found_as_read : (config : Config) (regex : Regex) → regex_config regex ≡ config → IsReadFromSource regex → (text : List ℕ) → All (λ x. x < 256) text →
    option_map seen_of (find_str (regex_pattern regex) text 0) ≡ option_and_then (λ p. option_map seen_of (find_str p.0.value text 0)) (read config (chars (regex_source regex)))
unfolding Reads
found_as_read config regex same is text bytes =
    alike_in (read (regex_config regex) (chars (regex_source regex))) _ _ _ text bytes is
    ∙ ap (λ c. option_and_then (λ p. option_map seen_of (find_str p.0.value text 0)) (read c (chars (regex_source regex)))) same

pub found_by_text : (switches : Switches) (regex : Regex) → IsRegexOf switches regex → (text : List ℕ) → ((k : ℕ) → get_or text k 0 < 256)
    → option_map seen_of (find_str (regex_pattern regex) text 0) ≡ found (written_of switches regex) text
unfolding found
found_by_text switches regex is text bytes =
    ∥∥₁_elim is.read (hlevel props) (λ read.
    found_as_read (config_of switches) regex is.config read text (λ k d h. rw (get_or_default text k d 0 h) (bytes k)))

-- what a group spans
behind_whole : (seen : Seen) (n : ℕ) → both (seen.2 (2 * suc n)) (seen.2 (2 * suc n + 1)) ≡ span_of seen (suc n)
behind_whole seen n = rw (ne_eqb (suc n) 0 (omega arith))

span_is : (text : List ℕ) (m : Match) (captures : Captures) → IsCapturesOf text m captures → (n : ℕ) → captures_span captures n ≡ span_of (seen_of m) n
unfolding group_span
span_is text m captures is zero = ap Some is.1.whole_is
span_is text m captures is (suc n) = is.2 (suc n) (omega arith) ∙ behind_whole (seen_of m) n

pub spans_are : (text : List ℕ) (m : Match) (captures : Captures) → IsCapturesOf text m captures → captures_span captures ≡ span_of (seen_of m)
spans_are text m captures is = fun_ext (λ n. span_is text m captures is n)

-- how many groups there are
groups_read : (o : IsRead) (names : Names) (a : Re) (count : ℕ) → count ≡ length names
    → IsSomeAnd o (λ (re, these). (re.depth ≤ 250) × SameCaptures a re.value × (names ≡ these) × (group_count a ≤ length names))
    → groups_in o ≡ Some (count - 1)
groups_read None names a count counted h = absurd h
groups_read (Some p) names a count counted h = rw (le-leb p.0.depth 250 h.0, ← h.2, ← counted)

groups_as_read : (config : Config) (regex : Regex) → regex_config regex ≡ config → config.nest_limit ≡ 250 → IsReadFromSource regex → (count : ℕ)
    → count ≡ length (regex_names regex) → groups_in (read config (chars (regex_source regex))) ≡ Some (count - 1)
unfolding Reads
groups_as_read config regex same deep is count counted =
    ap (λ c. groups_in (read c (chars (regex_source regex)))) (sym same)
    ∙ groups_read (read (regex_config regex) (chars (regex_source regex))) (regex_names regex) (regex_pattern regex) count counted
    (subst (λ limit. IsSomeAnd (read (regex_config regex) (chars (regex_source regex)))
    (λ (re, these). (re.depth ≤ limit) × SameCaptures (regex_pattern regex) re.value × (regex_names regex ≡ these) × (group_count (regex_pattern regex) ≤ length (regex_names regex))))
    (ap (λ c. c.nest_limit) same ∙ deep) is)

pub groups_are : (switches : Switches) (regex : Regex) → IsRegexOf switches regex → (count : ℕ) → count ≡ length (regex_names regex)
    → groups_of (written_of switches regex) ≡ Some (count - 1)
unfolding groups_of
groups_are switches regex is count counted =
    ∥∥₁_elim is.read (hlevel props) (λ read.
    rw is.utf8 (groups_as_read (config_of switches) regex is.config refl read count counted))

-- a text that was refused is no pattern
too_deep : (o : IsRead) → IfSome o (λ (re, these). 250 < re.depth) → groups_in o ≡ None
too_deep None d = refl
too_deep (Some p) d = rw (lt-leb p.0.depth 250 d)

no_groups : (o : IsRead) (kind : ErrorKind) → kind ≢ OutOfMemory
    → (kind ≡ OutOfMemory) ⊎ ((o ≡ None) ⊎ ((kind ≡ NestLimitExceeded) × IfSome o (λ (re, these). 250 < re.depth))) → groups_in o ≡ None
no_groups o kind other h =
    ⊎_elim (λ memory. absurd (other memory))
    (λ why. ⊎_elim (λ none. ap groups_in none) (λ deep. too_deep o deep.1) why) h

either : (t : Bool) (o : Option ℕ) → o ≡ None → (if t then o else None) ≡ None
either true o none = none
either false o none = refl

pub refused : (switches : Switches) (text : List ℕ) (kind : ErrorKind) → kind ≢ OutOfMemory → Refuses (config_of switches) text kind
    → groups_of (record { switches = switches; text = text }) ≡ None
unfolding groups_of Refuses
refused switches text kind other h = either (is_utf8 text) (groups_in (read (config_of switches) (chars text))) (no_groups (read (config_of switches) (chars text)) kind other h)

-- a text that is a pattern has groups
some_groups : (o : IsRead) (a : Re) (names : Names)
    → IsSomeAnd o (λ (re, these). (re.depth ≤ 250) × SameCaptures a re.value × (names ≡ these) × (group_count a ≤ length names))
    → (groups : ℕ) × (groups_in o ≡ Some groups)
some_groups None a names h = absurd h
some_groups (Some p) a names h = (length p.1 - 1, rw (le-leb p.0.depth 250 h.0))

pub is_pattern : (switches : Switches) (text : List ℕ) → is_utf8 text ≡ true → IsPattern (config_of switches) text
    → (groups : ℕ) × (groups_of (record { switches = switches; text = text }) ≡ Some groups)
unfolding groups_of Reads
is_pattern switches text utf8 is =
    let some = some_groups (read (config_of switches) (chars text)) (meaning is.0) is.1 is.2 in
    (some.0, rw (utf8, some.1))

-- a text that is no UTF-8 is no pattern
pub no_text : (switches : Switches) (text : List ℕ) → (IsUtf8 text → ⊥) → groups_of (record { switches = switches; text = text }) ≡ None
unfolding groups_of
no_text switches text none = either_way (is_utf8 text) (λ is. absurd (none (IsUtf8-from_is_utf8 text is))) (λ is. rw is)

-- the value of a match
pub some_value : (re pattern : Re) (text : List ℕ) → re ≡ pattern → (m : Match) → find_str re text 0 ≡ Some m → (captures : Captures) → IsCapturesOf text m captures
    → (pieces : List Piece) (value : List ℕ) → value ≡ expanded (captures_haystack captures) (captures_span captures) pieces
    → Some value ≡ value_of text pieces (option_map seen_of (find_str pattern text 0))
some_value re pattern text same m at captures of pieces value given =
    ap Some (given ∙ ap (λ t. expanded t (captures_span captures) pieces) of.0 ∙ ap (λ spans. expanded text spans pieces) (spans_are text m captures of))
    ∙ ap (λ o. value_of text pieces (option_map seen_of o)) (sym at ∙ ap (λ r. find_str r text 0) same)

pub is_some_seen : (o : Option Match) → is_some o ≡ is_some (option_map seen_of o)
is_some_seen None = refl
is_some_seen (Some m) = refl

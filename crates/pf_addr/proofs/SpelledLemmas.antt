-- What the grammar says as a function is what it says as a relation.
use Rattle.std.proofs.Common.{◌≡◌, ℕ, zero, suc, ◌+◌, ◌<◌, ◌≤◌, List, [], ◌∷◌, ◌++◌, Option, Some, length, take, drop, true, refl, sym, ap, ◌∙◌, append_assoc, arith, length-append, length-take-le, ⊎_elim}
use Rattle.std.specs.Prelude.{is_some}
use Rattle.std.specs.List.{prefix_len, range_with_len}
use Rattle.std.specs.Option.{option_map, option_or}
use Rattle.std.proofs.lemmas.Bool.{cases_lt}
use Rattle.std.proofs.lemmas.List.{drop_at, take-append-drop, take_at}
use Rattle.std.proofs.lemmas.List.Sums.{prefix_len-le-length}
use Rattle.pf_base.specs.Text.Space.{is_space, without_leading_space}
use Rattle.pf_addr.specs.Clauses.Reading.{reading}
use Rattle.pf_addr.specs.Grammar.{IsPath, IsSpelling, Reads, bare as bare_path, bracketed as bracketed_path, null, none, domains, is_end}
use Rattle.pf_addr.specs.Spelled.{bare, between, bracketed, first_path, first_some, mailbox, path, path_of, path_to, routed_mailbox}
use Rattle.pf_addr.specs.declared.address.Address.{Address}
use Rattle.pf_addr.specs.declared.address.Path.{Path}
use Rattle.pf_addr.specs.declared.address.Path.TheVariants.{Null, To}
use Rattle.pf_addr.specs.declared.address.PathRead.{PathRead}
use Rattle.pf_addr.proofs.Cases.{either_way, either_option}
use Rattle.pf_addr.proofs.PathLemmas.{one_spelling, path_first, reading_complete, reading_sound}
use Rattle.pf_addr.proofs.Runs.{run, run_passes}
use Rattle.pf_addr.proofs.SpelledParts.{between_is, between_sound, left_some, mailbox_is_sound, mailbox_some, map_some, right_some, routed_some, routed_sound}

-- paths in brackets
inside_sound : (inside rest : List ℕ) (found : Path Address) → option_map To (option_or (mailbox inside) (routed_mailbox inside)) ≡ Some found
    → IsPath (60 ∷ inside ++ 62 ∷ []) rest found
inside_sound inside rest found h =
    either_option (mailbox inside)
    (λ no. either_option (routed_mailbox inside)
    (λ none. cc (rw (no, none) at h))
    (λ a is.
    let there = routed_sound inside a is in
    let e : To a ≡ found = cc (rw (no, is) at h) in
    let whole : inside ≡ (there.route ++ 58 ∷ []) ++ there.spelled = there.whole ∙ sym (append_assoc there.route (58 ∷ []) there.spelled) in
    bracketed_path (there.route ++ 58 ∷ []) there.spelled a (domains there.route there.route_is refl) there.mailbox_is
    (ap (λ l. 60 ∷ l ++ 62 ∷ []) whole) (sym e)))
    (λ a is. let e : To a ≡ found = cc (rw is at h) in
    bracketed_path [] inside a (none refl) (mailbox_is_sound inside a is) refl (sym e))

bracketed_sound : (inside rest : List ℕ) (found : Path Address) → bracketed inside ≡ Some found → IsPath (60 ∷ inside ++ 62 ∷ []) rest found
unfolding bracketed
bracketed_sound [] rest found h = null refl (let e : Null ≡ found = cc in sym e)
bracketed_sound (b ∷ text) rest found h = inside_sound (b ∷ text) rest found h

inside_some : (inside : List ℕ) → is_some (option_or (mailbox inside) (routed_mailbox inside)) ≡ true → is_some (bracketed inside) ≡ true
unfolding bracketed
inside_some [] h = refl
inside_some (b ∷ text) h = map_some To (option_or (mailbox (b ∷ text)) (routed_mailbox (b ∷ text))) h

null_some : is_some (bracketed []) ≡ true
unfolding bracketed
null_some = refl

in_brackets : (inside rest : List ℕ) → is_some (bracketed inside) ≡ true → is_some (path (60 ∷ inside ++ 62 ∷ []) rest) ≡ true
unfolding path
in_brackets inside rest h = left_some _ (bare (60 ∷ inside ++ 62 ∷ []) rest) (rw (between_is 60 62 inside refl refl) h)

-- paths
bare_sound : (text rest : List ℕ) (found : Path Address) → bare text rest ≡ Some found → IsPath text rest found
unfolding bare
bare_sound text rest found h =
    either_way (is_end rest)
    (λ ends. either_option (mailbox text)
    (λ none. cc (rw (ends, none) at h))
    (λ a is. let e : To a ≡ found = cc (rw (ends, is) at h) in bare_path a (mailbox_is_sound text a is) ends (sym e)))
    (λ no. cc (rw no at h))

path_is_sound : (text rest : List ℕ) (found : Path Address) → path text rest ≡ Some found → IsPath text rest found
unfolding path
path_is_sound text rest found h =
    either_option (between 60 62 text)
    (λ none. bare_sound text rest found (rw none at h))
    (λ inside is. either_option (bracketed inside)
    (λ no. bare_sound text rest found (rw (is, no) at h))
    (λ p there. let e : p ≡ found = cc (rw (is, there) at h) in
    rw (between_sound 60 62 text inside (omega arith) is) (bracketed_sound inside rest found (there ∙ ap Some e))))

path_some : (text rest : List ℕ) (found : Path Address) → IsPath text rest found → is_some (path text rest) ≡ true
unfolding path bare
path_some text rest found (null is same) = rw is (in_brackets [] rest null_some)
path_some text rest found (bracketed_path route spelled a (none no_route) mailbox_is is same) =
    rw (is, no_route) (in_brackets spelled rest (inside_some spelled (left_some _ (routed_mailbox spelled) (mailbox_some spelled a mailbox_is))))
path_some text rest found (bracketed_path route spelled a (domains r route_is colon) mailbox_is is same) =
    let whole : (r ++ 58 ∷ []) ++ spelled ≡ r ++ 58 ∷ spelled = append_assoc r (58 ∷ []) spelled in
    rw (is, colon, whole)
    (in_brackets (r ++ 58 ∷ spelled) rest (inside_some (r ++ 58 ∷ spelled) (right_some (mailbox (r ++ 58 ∷ spelled)) _ (routed_some r spelled a route_is mailbox_is))))
path_some text rest found (bare_path a mailbox_is ends same) =
    right_some _ (bare text rest) (rw ends (map_some To (mailbox text) (mailbox_some text a mailbox_is)))

-- the first end
record Within {B : Type 0} (f : ℕ → Option B) (n : ℕ) (y : B) : Type 0 where
  pub at : ℕ
  pub below : at < n
  pub is : f at ≡ Some y

first_sound : {B : Type 0} (f : ℕ → Option B) (a n : ℕ) (y : B) → first_some f (range_with_len a n) ≡ Some y → Within f (a + n) y
first_sound f a zero y h = cc
first_sound f a (suc n) y h =
    either_option (f a)
    (λ none. let there = first_sound f (a + 1) n y (rw none at h) in record { at = there.at; below = omega (arith, there.below); is = there.is })
    (λ x is. record { at = a; below = omega arith; is = is ∙ rw is at h })

first_there : {B : Type 0} (f : ℕ → Option B) (a n k : ℕ) → a ≤ k → k < a + n → is_some (f k) ≡ true → is_some (first_some f (range_with_len a n)) ≡ true
first_there f a zero k from below h = absurd (omega arith)
first_there f a (suc n) k from below h =
    ⊎_elim
    (λ lt. right_some (f a) _ (first_there f (a + 1) n k (omega (arith, lt)) (omega arith) h))
    (λ le. let e : k ≡ a = omega (arith, le) in left_some (f a) _ (rw e at h))
    (cases_lt a k)

-- the path that a text begins with
record BeginsWith (text : List ℕ) (read : PathRead Address) : Type 0 where
  pub within : read.end ≤ length text
  pub is : IsPath (take read.end text) (drop read.end text) read.path

first_path_sound : (text : List ℕ) (read : PathRead Address) → first_path text ≡ Some read → BeginsWith text read
unfolding first_path
first_path_sound text read h =
    let there = first_sound (path_to text) 0 (length text + 1) read h in
    either_option (path (take there.at text) (drop there.at text))
    (λ none. cc (rw none at there.is))
    (λ found is.
    let e : record { path = found; end = there.at } ≡ read = cc (rw is at there.is) in
    rw (← e) (record { within = omega (arith, there.below); is = path_is_sound (take there.at text) (drop there.at text) found is }))

first_path_some : (text rest : List ℕ) (found : Path Address) → IsPath text rest found → is_some (first_path (text ++ rest)) ≡ true
unfolding first_path
first_path_some text rest found is =
    let there : is_some (path (take (length text) (text ++ rest)) (drop (length text) (text ++ rest))) ≡ true =
    rw (take_at text rest (length text) refl, drop_at text rest (length text) refl) (path_some text rest found is) in
    first_there (path_to (text ++ rest)) 0 (length (text ++ rest) + 1) (length text) (omega arith) (omega (arith, length-append text rest))
    (map_some _ (path (take (length text) (text ++ rest)) (drop (length text) (text ++ rest))) there)

-- after space
pub path_of_sound : (text : List ℕ) (read : PathRead Address) → path_of text ≡ Some read → IsSpelling text read
unfolding path_of
path_of_sound text read h =
    either_option (first_path (without_leading_space text))
    (λ none. cc (rw none at h))
    (λ found is.
    let n = prefix_len is_space text in
    let e : record { path = found.path; end = prefix_len is_space text + found.end } ≡ read = cc (rw is at h) in
    let there = first_path_sound (drop n text) found is in
    let whole : text ≡ take n text ++ take found.end (drop n text) ++ drop found.end (drop n text) =
    sym (append_assoc (take n text) (take found.end (drop n text)) (drop found.end (drop n text))
    ∙ ap (λ l. take n text ++ l) (take-append-drop found.end (drop n text)) ∙ take-append-drop n text) in
    let prefix = length-take-le n text (prefix_len-le-length is_space text) in
    let back = length-take-le found.end (drop n text) there.within in
    rw (← e) (record {
      space = take n text;
      path = take found.end (drop n text);
      rest = drop found.end (drop n text);
      whole = whole;
      blank = run_passes is_space text n (omega arith);
      spells = there.is;
      end = omega (arith, prefix, back);
    }))

path_of_some : (text : List ℕ) (read : PathRead Address) → IsSpelling text read → is_some (path_of text) ≡ true
unfolding path_of
path_of_some text read s =
    let whole : text ≡ s.space ++ (s.path ++ s.rest) = s.whole ∙ append_assoc s.space s.path s.rest in
    let n = run is_space s.space (s.path ++ s.rest) s.blank (path_first s.path s.rest read.path s.spells) in
    map_some _ (first_path (without_leading_space text))
    (rw (whole, n, drop_at s.space (s.path ++ s.rest) (length s.space) refl) (first_path_some s.path s.rest read.path s.spells))

-- the function gives the one path that a text spells
pub path_of_reads : (text : List ℕ) → Reads text (path_of text)
path_of_reads text =
    either_option (path_of text)
    (λ no. rw no (λ read s. cc (rw no at (path_of_some text read s))))
    (λ read is. rw is (path_of_sound text read is, λ other s. one_spelling text read other (path_of_sound text read is) s))

-- what is read by lengths is what the function gives
pub read_is_spelled : (text : List ℕ) → reading text ≡ path_of text
read_is_spelled text =
    either_option (path_of text)
    (λ no. either_option (reading text)
    (λ none. none ∙ sym no)
    (λ read is. cc (rw no at (path_of_some text read (reading_sound text read is)))))
    (λ read is. reading_complete text read (path_of_sound text read is) ∙ sym is)

-- What reading a path gives is what the grammar says.
use Rattle.std.proofs.Common.{◌≡◌, ℕ, suc, ◌+◌, ◌≤◌, eqb, List, [], ◌∷◌, ◌++◌, Some, length, get_or, take, drop, true, false, refl, sym, ap, ◌∙◌, append_assoc, arith, length-append, length-drop, length-take-le, take-add, take-append-drop}
use Rattle.std.specs.List.{prefix_len}
use Rattle.std.proofs.lemmas.Bool.{eqb-true, or_from}
use Rattle.std.proofs.lemmas.List.{drop_at, get_or_at, take_more}
use Rattle.std.proofs.lemmas.List.Sums.{prefix_len-le-length}
use Rattle.pf_base.specs.Text.Space.{is_space}
use Rattle.pf_addr.specs.Grammar.{IsMailbox, IsPath, IsRoute, IsSpelling, none, domains, null, bracketed, bare, is_end, is_plain_byte}
use Rattle.pf_addr.specs.Clauses.Reading as reading
use Rattle.pf_addr.specs.Clauses.Reading.{address_of, mailbox, mailbox_len, route_len}
use Rattle.pf_addr.specs.declared.address.Address.{Address}
use Rattle.pf_addr.specs.declared.address.Path.{Path}
use Rattle.pf_addr.specs.declared.address.Path.TheVariants.{Null, To}
use Rattle.pf_addr.specs.declared.address.PathRead.{PathRead}
use Rattle.pf_addr.proofs.Cases.{either_way, either_option}
use Rattle.pf_addr.proofs.DomainLemmas.{read_within}
use Rattle.pf_addr.proofs.MailboxLemmas.{drop_next, mailbox_complete, mailbox_first, mailbox_no_route, mailbox_sound}
use Rattle.pf_addr.proofs.RouteLemmas.{route_complete, route_first, route_sound}
use Rattle.pf_addr.proofs.Runs.{run, run_passes}

-- a path is at the head of a text, and ends there
record PathAt (text : List ℕ) (read : PathRead Address) : Type 0 where
  pub within : read.end ≤ length text
  pub is : IsPath (take read.end text) (drop read.end text) read.path

bare_sound : (text : List ℕ) (read : PathRead Address) → reading.bare text ≡ Some read → PathAt text read
unfolding reading.bare
bare_sound text read h =
    either_option (mailbox text) (λ no. cc (rw no at h)) (λ m is.
    let there = mailbox_sound text m is in
    either_way (is_end (drop (mailbox_len m) text))
    (λ ends. let e : record { path = To (address_of text m); end = mailbox_len m } ≡ read = cc (rw (is, ends) at h) in
    rw (← e) (record { within = there.within; is = bare (address_of text m) there.is ends refl }))
    (λ goes_on. cc (rw (is, goes_on) at h)))

-- what is after the first bracket of a path, up to there
record InsideAt (text : List ℕ) (read : PathRead Address) : Type 0 where
  pub within : read.end ≤ length text
  pub is : (rest : List ℕ) → IsPath (60 ∷ take read.end text) rest read.path

-- a mailbox and the bracket after it
record ClosedAt (text : List ℕ) (read : PathRead Address) : Type 0 where
  pub within : read.end ≤ length text
  pub is : (route rest : List ℕ) → IsRoute route → IsPath (60 ∷ route ++ take read.end text) rest read.path

closed_sound : (text : List ℕ) (read : PathRead Address) → reading.closed text ≡ Some read → ClosedAt text read
unfolding reading.closed
closed_sound text read h =
    either_option (mailbox text) (λ no. cc (rw no at h)) (λ m is.
    let there = mailbox_sound text m is in
    either_way (eqb (get_or text (mailbox_len m) 0) 62)
    (λ close. let e : record { path = To (address_of text m); end = mailbox_len m + 1 } ≡ read = cc (rw (is, close) at h) in
    let place = read_within text (mailbox_len m) 62 (eqb-true _ 62 close) (omega arith) in
    let parts : take (mailbox_len m + 1) text ≡ take (mailbox_len m) text ++ 62 ∷ [] =
    take_more text (mailbox_len m) 0 place ∙ ap (λ b. take (mailbox_len m) text ++ b ∷ []) (eqb-true _ 62 close) in
    rw (← e) (record {
      within = omega (arith, place);
      is = λ route rest route_is.
          bracketed route (take (mailbox_len m) text) (address_of text m) route_is there.is
          (ap (λ l. 60 ∷ route ++ l) parts ∙ sym (append_assoc (60 ∷ route) (take (mailbox_len m) text) (62 ∷ []))) refl;
    }))
    (λ open_end. cc (rw (is, open_end) at h)))

inside_sound : (text : List ℕ) (read : PathRead Address) → reading.bracketed text ≡ Some read → InsideAt text read
unfolding reading.bracketed
inside_sound text read h =
    either_way (eqb (get_or text 0 0) 62)
    (λ close. let e : record { path = Null; end = 1 } ≡ read = cc (rw close at h) in
    let place = read_within text 0 62 (eqb-true _ 62 close) (omega arith) in
    let parts : take 1 text ≡ 62 ∷ [] = take_more text 0 0 place ∙ ap (λ b. b ∷ []) (eqb-true _ 62 close) in
    rw (← e) (record { within = omega (arith, place); is = λ rest. null (ap (λ l. 60 ∷ l) parts) refl }))
    (λ no_close. either_option (reading.closed (drop (route_len text) text)) (λ no. cc (rw (no_close, no) at h)) (λ closed is.
    let e : record { path = closed.path; end = route_len text + closed.end } ≡ read = cc (rw (no_close, is) at h) in
    let route = route_sound text in
    let there = closed_sound (drop (route_len text) text) closed is in
    let parts : take (route_len text + closed.end) text ≡ take (route_len text) text ++ take closed.end (drop (route_len text) text) =
    take-add (route_len text) closed.end text in
    rw (← e) (record {
      within = omega (arith, route.within, there.within, length-drop (route_len text) text);
      is = λ rest. rw parts (there.is (take (route_len text) text) rest route.route);
    })))

path_sound : (text : List ℕ) (read : PathRead Address) → reading.path text ≡ Some read → PathAt text read
unfolding reading.path
path_sound [] read h = bare_sound [] read h
path_sound (x ∷ xs) read h =
    either_way (eqb x 60)
    (λ bracket. either_option (reading.bracketed xs) (λ no. cc (rw (bracket, no) at h)) (λ inside is.
    let e : record { path = inside.path; end = 1 + inside.end } ≡ read = cc (rw (bracket, is) at h) in
    let there = inside_sound xs inside is in
    let n : 1 + inside.end ≡ suc inside.end = omega arith in
    rw (← e) (record {
      within = omega (arith, there.within);
      is = rw (n, eqb-true x 60 bracket) (there.is (drop inside.end xs));
    })))
    (λ no_bracket. bare_sound (x ∷ xs) read (rw no_bracket at h))

-- what is read is spelled so
pub reading_sound : (text : List ℕ) (read : PathRead Address) → reading.reading text ≡ Some read → IsSpelling text read
unfolding reading.reading
reading_sound text read h =
    either_option (reading.path (drop (prefix_len is_space text) text)) (λ no. cc (rw no at h)) (λ found is.
    let n = prefix_len is_space text in
    let e : record { path = found.path; end = prefix_len is_space text + found.end } ≡ read = cc (rw is at h) in
    let there = path_sound (drop n text) found is in
    let whole : text ≡ take n text ++ take found.end (drop n text) ++ drop found.end (drop n text) =
    sym (append_assoc (take n text) (take found.end (drop n text)) (drop found.end (drop n text))
    ∙ ap (λ l. take n text ++ l) (take-append-drop found.end (drop n text)) ∙ take-append-drop n text) in
    let prefix = length-take-le n text (prefix_len-le-length is_space text) in
    let back = length-take-le found.end (drop n text) there.within in
    rw (← e) (record {
      space = take n text;
      path = take found.end (drop n text);
      rest = drop found.end (drop n text);
      whole = whole;
      blank = run_passes is_space text n (omega arith);
      spells = there.is;
      end = omega (arith, prefix, back);
    }))

-- no plain byte is where a path without brackets ends
end_is_not_plain : (rest : List ℕ) → is_end rest ≡ true → is_plain_byte (get_or rest 0 0) ≡ false
unfolding is_plain_byte
end_is_not_plain [] h = refl
end_is_not_plain (b ∷ rest) h =
    either_way (eqb b 32)
    (λ blank. rw (eqb-true b 32 blank))
    (λ no_blank. rw (eqb-true b 9 (rw no_blank at h)))

close_is_not_plain : is_plain_byte 62 ≡ false
unfolding is_plain_byte
close_is_not_plain = refl

bracket_is_not_plain : is_plain_byte 60 ≡ false
unfolding is_plain_byte
bracket_is_not_plain = refl

space_is_not_plain : (b : ℕ) → is_space b ≡ true → is_plain_byte b ≡ false
space_is_not_plain b h = end_is_not_plain (b ∷ []) h

bare_complete : (spelled rest : List ℕ) (a : Address) → IsMailbox spelled a → is_end rest ≡ true
    → reading.bare (spelled ++ rest) ≡ Some (record { path = To a; end = length spelled })
unfolding reading.bare
bare_complete spelled rest a is ends =
    let found = mailbox_complete spelled rest a is (end_is_not_plain rest ends) in
    rw (found.is, found.len, drop_at spelled rest (length spelled) refl, ends, found.address_is)

closed_complete : (spelled rest : List ℕ) (a : Address) → IsMailbox spelled a
    → reading.closed (spelled ++ 62 ∷ rest) ≡ Some (record { path = To a; end = length spelled + 1 })
unfolding reading.closed
closed_complete spelled rest a is =
    let found = mailbox_complete spelled (62 ∷ rest) a is close_is_not_plain in
    rw (found.is, found.len, get_or_at spelled 62 rest 0 (length spelled) refl, found.address_is)

routed_complete : (route spelled rest : List ℕ) (a : Address) → IsRoute route → IsMailbox spelled a
    → reading.bracketed (route ++ (spelled ++ 62 ∷ rest)) ≡ Some (record { path = To a; end = length route + (length spelled + 1) })
unfolding reading.bracketed
routed_complete route spelled rest a (none no_route) is =
    rw (no_route, mailbox_first spelled (62 ∷ rest) a 62 close_is_not_plain refl is, mailbox_no_route spelled (62 ∷ rest) a is, closed_complete spelled rest a is)
routed_complete route spelled rest a (domains r route_is same) is =
    let whole : (r ++ 58 ∷ []) ++ (spelled ++ 62 ∷ rest) ≡ r ++ 58 ∷ (spelled ++ 62 ∷ rest) = append_assoc r (58 ∷ []) (spelled ++ 62 ∷ rest) in
    let len : length (r ++ 58 ∷ []) ≡ length r + 1 = length-append r (58 ∷ []) in
    rw (
      same,
      whole,
      len,
      route_first r (spelled ++ 62 ∷ rest) route_is,
      route_complete r (spelled ++ 62 ∷ rest) route_is,
      drop_next r (spelled ++ 62 ∷ rest) 58,
      closed_complete spelled rest a is,
    )

path_complete : (text rest : List ℕ) (path : Path Address) → IsPath text rest path → reading.path (text ++ rest) ≡ Some (record { path = path; end = length text })
unfolding reading.path reading.bracketed
path_complete text rest path (null is same) = rw (is, same)
path_complete text rest path (bracketed route spelled a route_is mailbox_is is same) =
    let whole : ((route ++ spelled) ++ 62 ∷ []) ++ rest ≡ route ++ (spelled ++ 62 ∷ rest) =
    append_assoc (route ++ spelled) (62 ∷ []) rest ∙ append_assoc route spelled (62 ∷ rest) in
    let len : 1 + (length route + (length spelled + 1)) ≡ length ((60 ∷ route ++ spelled) ++ 62 ∷ []) = simp length-append (omega arith) in
    rw (is, whole, routed_complete route spelled rest a route_is mailbox_is, same, len)
path_complete text rest path (bare a is ends same) =
    rw (mailbox_first text rest a 60 bracket_is_not_plain refl is, bare_complete text rest a is ends, same)

-- no space is at the head of a path
pub path_first : (text rest : List ℕ) (path : Path Address) → IsPath text rest path → is_space (get_or (text ++ rest) 0 0) ≡ false
path_first text rest path (null is same) = rw is
path_first text rest path (bracketed route spelled a route_is mailbox_is is same) = rw is
path_first text rest path (bare a is ends same) =
    or_from (eqb (get_or (text ++ rest) 0 0) 32) (eqb (get_or (text ++ rest) 0 0) 9)
    (mailbox_first text rest a 32 (space_is_not_plain 32 refl) refl is) (mailbox_first text rest a 9 (space_is_not_plain 9 refl) refl is)

-- a text is read as it is spelled
pub reading_complete : (text : List ℕ) (read : PathRead Address) → IsSpelling text read → reading.reading text ≡ Some read
unfolding reading.reading
reading_complete text read s =
    let whole : text ≡ s.space ++ (s.path ++ s.rest) = s.whole ∙ append_assoc s.space s.path s.rest in
    let n = run is_space s.space (s.path ++ s.rest) s.blank (path_first s.path s.rest read.path s.spells) in
    rw (whole, n, drop_at s.space (s.path ++ s.rest) (length s.space) refl, path_complete s.path s.rest read.path s.spells, ← s.end)

-- a text spells one path at most
pub one_spelling : (text : List ℕ) (read other : PathRead Address) → IsSpelling text read → IsSpelling text other → other ≡ read
one_spelling text read other s t =
    let a = reading_complete text read s in
    let b = reading_complete text other t in
    cc

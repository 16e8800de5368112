-- What is added for the nodes of a text.
use Rattle.std.proofs.Common.{◌≡◌, ◌≢◌, ◌<◌, ◌+◌, ◌-◌, ◌++◌, ◌==◌, ℕ, zero, suc, Bool, true, false, drop, get_or, take, List, [], ◌∷◌, Option, None, Some, Ok, Err, refl, sym, ap, ◌∙◌, length, append_assoc, arith, if◌then◌else◌}
use Rattle.std.proofs.lemmas.List.{at_drop_more, length-drop, take_all}
use Rattle.std.proofs.lemmas.Str.{IsUtf8-from_is_utf8, is_utf8-from_IsUtf8}
use Rattle.std.specs.List.{position}
use Rattle.std.specs.Option.{is_some}
use Rattle.std.specs.Str.{IsUtf8, is_utf8}
use Rattle.pf_base.specs.Text.Ascii as ascii
use Rattle.pf_base.specs.Options.{◌>>=◌}
use Rattle.pf_base.specs.declared.pair.Pair.{Pair}
use Rattle.pf_base.specs.declared.refused.ConfFault.TheVariants as conf_fault
use Rattle.pf_base.specs.declared.refused.Refused.{Refused}
use Rattle.pf_base.specs.Clauses.Faults.{as_fault}
use Rattle.pf_table.specs.Inline as inline
use Rattle.pf_table.specs.Inline.{inline_of, inline_pairs}
use Rattle.pf_table.specs.Tables.{Keyed}
use Rattle.pf_maps.specs.Clauses.Adding.{behind}
use Rattle.pf_maps.specs.Specification.{file_name, group_named, leaf_nodes, group_node, group_of, groups_at, is_inline, members, members_nodes, nodes_of, parted}
use Rattle.pf_maps.specs.declared.specification.Group.{Group}
use Rattle.pf_maps.specs.declared.specification.SpecNode.{SpecNode}

-- the nodes of one text more
pub member_added : (nodes : List ℕ → Option (List SpecNode)) (prefix now : List SpecNode) (text : List ℕ) (texts : List (List ℕ))
    → behind prefix (nodes text) ≡ Some now → behind prefix (members_nodes nodes (text ∷ texts)) ≡ behind now (members_nodes nodes texts)
member_added nodes prefix now text texts added = by (nodes text) added
  where
    more : (first : List SpecNode) → prefix ++ first ≡ now → (rest : Option (List SpecNode))
        → behind prefix (rest >>= λ more. Some (first ++ more)) ≡ behind now rest
    more first e None = refl
    more first e (Some rest) = ap Some (sym (append_assoc prefix first rest) ∙ ap (λ xs. xs ++ rest) e)

    by : (o : Option (List SpecNode)) → behind prefix o ≡ Some now
        → behind prefix (o >>= λ first. members_nodes nodes texts >>= λ more. Some (first ++ more)) ≡ behind now (members_nodes nodes texts)
    by None e = cc
    by (Some first) e = let same : prefix ++ first ≡ now = cc in more first same (members_nodes nodes texts)

-- a text that names no table
pub member_refused : (nodes : List ℕ → Option (List SpecNode)) (prefix : List SpecNode) (text : List ℕ) (texts : List (List ℕ))
    → behind prefix (nodes text) ≡ None → behind prefix (members_nodes nodes (text ∷ texts)) ≡ None
member_refused nodes prefix text texts none = by (nodes text) none
  where
    by : (o : Option (List SpecNode)) → behind prefix o ≡ None
        → behind prefix (o >>= λ first. members_nodes nodes texts >>= λ more. Some (first ++ more)) ≡ None
    by None e = refl
    by (Some first) e = cc

-- no text is left
pub members_done : (prefix : List SpecNode) → Some (prefix ++ []) ≡ behind prefix (Some [])
members_done prefix = refl

-- unions and pipes
pub no_level : (group : Group) (name : List ℕ) → groups_at 0 group name ≡ None
unfolding groups_at
no_level group name = refl

pub a_level : (levels : ℕ) (group : Group) (name : List ℕ) → levels ≢ 0 → groups_at levels group name ≡ group_of (nodes_of (levels - 1)) group name
unfolding groups_at
a_level zero group name h = absurd (h refl)
a_level (suc levels) group name h = let e : levels ≡ suc levels - 1 = omega arith in ap (λ n. group_of (nodes_of n) group name) e

pub no_members : (nodes : List ℕ → Option (List SpecNode)) (group : Group) (name : List ℕ) → members name ≡ None → group_of nodes group name ≡ None
no_members nodes group name none = rw none refl

pub group_added : (nodes : List ℕ → Option (List SpecNode)) (group : Group) (name : List ℕ) (prefix : List SpecNode) (texts : List (List ℕ)) → members name ≡ Some texts
    → behind prefix (group_of nodes group name) ≡ behind (prefix ++ group_node group (length texts) ∷ []) (members_nodes nodes texts)
group_added nodes group name prefix texts some = rw some (by (members_nodes nodes texts))
  where
    by : (o : Option (List SpecNode)) → behind prefix (o >>= λ more. Some (group_node group (length texts) ∷ more)) ≡ behind (prefix ++ group_node group (length texts) ∷ []) o
    by None = refl
    by (Some more) = ap Some (sym (append_assoc prefix (group_node group (length texts) ∷ []) more))

pub by_levels : (levels : ℕ) (text : List ℕ) → nodes_of levels text ≡ parted (groups_at levels) text
unfolding nodes_of groups_at
by_levels zero text = refl
by_levels (suc levels) text = refl

-- all that is left
pub all_behind : (text : List ℕ) (n : ℕ) → take (length text - n) (drop n text) ≡ drop n text
all_behind text n = take_all (length text - n) (drop n text) (omega (arith, length-drop n text))

-- a text is parted at its first colon
pub no_colon : (groups : Group → List ℕ → Option (List SpecNode)) (text : List ℕ) → position (λ b. b == ascii.colon) text ≡ None → parted groups text ≡ None
no_colon groups text none = rw none refl

pub group_there : (groups : Group → List ℕ → Option (List SpecNode)) (text : List ℕ) (place : ℕ) (group : Group) → position (λ b. b == ascii.colon) text ≡ Some place
    → group_named (take place text) ≡ Some group → parted groups text ≡ groups group (drop (place + 1) text)
group_there groups text place group at is = rw (at, is) refl

pub leaf_there : (groups : Group → List ℕ → Option (List SpecNode)) (text : List ℕ) (place : ℕ) → position (λ b. b == ascii.colon) text ≡ Some place
    → group_named (take place text) ≡ None → parted groups text ≡ leaf_nodes (take place text) (drop (place + 1) text)
leaf_there groups text place at is = rw (at, is) refl

-- the name of a file
pub file_named : (name : List ℕ) → IsUtf8 name → Some name ≡ file_name name
file_named name text = ap (λ t. if t then Some name else None) (sym (is_utf8-from_IsUtf8 name text))

pub file_unnamed : (name : List ℕ) → ¬ (IsUtf8 name) → None ≡ file_name name
file_unnamed name no_text = by_test (is_utf8 name) refl
  where
    by_test : (t : Bool) → is_utf8 name ≡ t → None ≡ (if t then Some name else None)
    by_test true is = absurd (no_text (IsUtf8-from_is_utf8 name is))
    by_test false is = refl

-- the text of an inline table
pub inline_there : (text : List ℕ) (table : Keyed) → Ok table ≡ as_fault (inline_of [] 0 false text) → true ≡ is_inline text
inline_there text table is = by (inline_pairs false text) is
  where
    by : (o : Option (List Pair)) → Ok table ≡ as_fault (inline.or_refused [] 0 false text o) → true ≡ is_some o
    by None e = cc
    by (Some pairs) e = refl

pub inline_refused : (text : List ℕ) (refusal : Refused) → Err (conf_fault.Refused refusal) ≡ as_fault (inline_of [] 0 false text) → false ≡ is_inline text
inline_refused text refusal is = by (inline_pairs false text) is
  where
    by : (o : Option (List Pair)) → Err (conf_fault.Refused refusal) ≡ as_fault (inline.or_refused [] 0 false text o) → false ≡ is_some o
    by None e = refl
    by (Some pairs) e = cc

-- the rest of a list begins with the item at its place
pub item_drop : {A : Type 0} (xs : List A) (i : ℕ) (x : A) → i < length xs → x ≡ get_or xs i x → drop i xs ≡ x ∷ drop (i + 1) xs
item_drop xs i x lt item = at_drop_more (λ ys. ys) xs i x lt ∙ ap (λ first. first ∷ drop (i + 1) xs) (sym item)

-- A walk over the lines of a table finds the first rule that applies.
use Rattle.std.proofs.Common.{◌≡◌, ℕ, zero, suc, ◌+◌, ◌<◌, ◌≤◌, true, false, List, [], ◌∷◌, length, get_or, drop, Option, Some, None, refl, sym, ap, ◌∙◌}
use Rattle.std.specs.Prelude.{if◌then◌else◌}
use Rattle.std.proofs.lemmas.Bool.{and_parts}
use Rattle.std.proofs.lemmas.List.{drop_all, drop_more}
use Rattle.std.specs.List.{list_all, position_from}
use Rattle.pf_cidr.specs.Tables.{applies, first_rule, matches, rules_of}
use Rattle.pf_cidr.specs.declared.address.Addr.{Addr}
use Rattle.pf_cidr.specs.declared.entry.Entry.{Entry}
use Rattle.pf_cidr.specs.declared.entry.Entry.TheVariants.{Endif, If, Rule}
use Rattle.pf_cidr.specs.declared.entry.Pattern.{Pattern}
use Rattle.pf_cidr.proofs.Cases.{either_way}

-- the first rule from a place on, where so many of the open conditions are passed over
abbrev pub walk : Addr → ℕ → ℕ → List Entry → Option ℕ
walk addr skipped rule [] = None
walk addr zero rule (Rule pattern ∷ entries) = if matches addr pattern then Some rule else walk addr zero (rule + 1) entries
walk addr (suc skipped) rule (Rule pattern ∷ entries) = walk addr (suc skipped) (rule + 1) entries
walk addr zero rule (If pattern ∷ entries) = if matches addr pattern then walk addr zero rule entries else walk addr 1 rule entries
walk addr (suc skipped) rule (If pattern ∷ entries) = walk addr (suc (suc skipped)) rule entries
walk addr zero rule (Endif ∷ entries) = walk addr zero rule entries
walk addr (suc skipped) rule (Endif ∷ entries) = walk addr skipped rule entries

-- of these conditions, the innermost first, so many are passed over: the last of them does not match, and those round it do
abbrev Skips : Addr → ℕ → List Pattern → Type 0
Skips addr zero conditions = list_all (matches addr) conditions ≡ true
Skips addr (suc skipped) conditions = (list_all (matches addr) conditions ≡ false) × Skips addr skipped (drop 1 conditions)

-- what does not hold of the outer conditions holds of no inner ones
none_within : (addr : Addr) (pattern : Pattern) (conditions : List Pattern) → list_all (matches addr) conditions ≡ false
    → applies addr (pattern ∷ conditions) ≡ false
none_within addr pattern conditions none = either_way (matches addr pattern) (λ h. rw (h, none)) (λ h. rw h)

all_outer : (addr : Addr) (conditions : List Pattern) → list_all (matches addr) conditions ≡ true → list_all (matches addr) (drop 1 conditions) ≡ true
all_outer addr [] all = refl
all_outer addr (pattern ∷ conditions) all = (and_parts _ _ all).1

walks : (addr : Addr) (skipped rule : ℕ) (conditions : List Pattern) (entries : List Entry) → Skips addr skipped conditions
    → position_from (applies addr) rule (rules_of conditions entries) ≡ walk addr skipped rule entries
walks addr skipped rule conditions [] skips = refl
walks addr zero rule conditions (Rule pattern ∷ entries) skips =
    either_way (matches addr pattern)
    (λ h. rw (h, skips))
    (λ h. rw h (walks addr zero (rule + 1) conditions entries skips))
walks addr (suc skipped) rule conditions (Rule pattern ∷ entries) skips =
    rw (none_within addr pattern conditions skips.0) (walks addr (suc skipped) (rule + 1) conditions entries skips)
walks addr zero rule conditions (If pattern ∷ entries) skips =
    either_way (matches addr pattern)
    (λ h. rw h (walks addr zero rule (pattern ∷ conditions) entries (rw (h, skips))))
    (λ h. rw h (walks addr 1 rule (pattern ∷ conditions) entries (rw h, skips)))
walks addr (suc skipped) rule conditions (If pattern ∷ entries) skips =
    walks addr (suc (suc skipped)) rule (pattern ∷ conditions) entries (none_within addr pattern conditions skips.0, skips)
walks addr zero rule conditions (Endif ∷ entries) skips = walks addr zero rule (drop 1 conditions) entries (all_outer addr conditions skips)
walks addr (suc skipped) rule conditions (Endif ∷ entries) skips = walks addr skipped rule (drop 1 conditions) entries skips.1

pub walk_is_first : (addr : Addr) (entries : List Entry) → position_from (applies addr) 0 (rules_of [] entries) ≡ walk addr 0 0 entries
walk_is_first addr entries = walks addr 0 0 [] entries refl

-- where a rule applies, its number is the answer
pub found : (addr : Addr) (entries items : List Entry) (i skipped rule : ℕ) (item : Entry) (pattern : Pattern) → i < length items → item ≡ get_or items i item
    → item ≡ Rule pattern → skipped ≡ 0 → matches addr pattern ≡ true → walk addr skipped rule (drop i items) ≡ walk addr 0 0 entries
    → Some rule ≡ first_rule entries addr
unfolding first_rule
found addr entries items i skipped rule item pattern within at is none here led =
    let first : drop i items ≡ Rule pattern ∷ drop (i + 1) items = drop_more items i item within ∙ ap (λ e. e ∷ drop (i + 1) items) (sym at ∙ is) in
    sym (walk_is_first addr entries ∙ sym led ∙ rw (none, first, here))

-- where none does, there is no answer
pub not_found : (addr : Addr) (entries items : List Entry) (i skipped rule : ℕ) → length items ≤ i → walk addr skipped rule (drop i items) ≡ walk addr 0 0 entries
    → None ≡ first_rule entries addr
unfolding first_rule
not_found addr entries items i skipped rule past led =
    sym (walk_is_first addr entries ∙ sym led ∙ rw (drop_all i items past))

-- Parts are asked as the entries that they say.
use Rattle.std.proofs.Common.{◌≡◌, ℕ, zero, suc, ◌+◌, ◌<◌, ◌++◌, true, false, List, [], ◌∷◌, drop, map, length, get_or, Option, refl, sym, ap, ◌∙◌, arith, append_assoc}
use Rattle.std.proofs.lemmas.List.{append-nil, at_drop_more, map-append}
use Rattle.std.specs.Prelude.{if◌then◌else◌}
use Rattle.pf_asks.specs.declared.lookup.Results.TheVariants.{Anything, Listed}
use Rattle.std.specs.List.{flat_map, list_any}
use Rattle.std.proofs.lemmas.Bool.{ne_eqb}
use Rattle.pf_pcre.specs.Clauses.Runs.{first_rule}
use Rattle.pf_pcre.specs.Clauses.Steps.{all_said, results_behind, results_if, said_of, stepped_over, unless_found}
use Rattle.pf_pcre.specs.Tables.{entry_values, has_group, names_group, plain_value, rule_value}
use Rattle.pf_pcre.specs.declared.entry.Entry.{Entry}
use Rattle.pf_pcre.specs.declared.entry.Entry.TheVariants.{Rule}
use Rattle.pf_pcre.specs.declared.entry.Rule as rules
use Rattle.pf_pcre.specs.declared.parts.Step.{Step}
use Rattle.pf_pcre.specs.declared.parts.Part.{Part}
use Rattle.pf_pcre.specs.declared.parts.Part.TheVariants as part
use Rattle.pf_pcre.proofs.Cases.{either_option}
use Rattle.pf_pcre.proofs.FindLaws.{goes_on, walk}

passed_over : (text : List ℕ) (skipped : ℕ) (run : List rules.Rule) (rest : List Entry) → walk text (suc skipped) (map Rule run ++ rest) ≡ walk text (suc skipped) rest
passed_over text skipped [] rest = refl
passed_over text skipped (rule ∷ run) rest = rw (ne_eqb (suc skipped) 0 (omega arith)) (passed_over text skipped run rest)

asked : (text : List ℕ) (run : List rules.Rule) (rest : List Entry)
    → walk text zero (map Rule run ++ rest) ≡ goes_on (λ next. walk text next rest) (unless_found (first_rule text run))
asked text [] rest = refl
asked text (rule ∷ run) rest =
    either_option (rule_value text rule)
    (λ h. rw h (asked text run rest))
    (λ value h. rw h refl)

pub walk_over : (text : List ℕ) (skipped : ℕ) (part : Part) (rest : List Entry)
    → walk text skipped (said_of part ++ rest) ≡ goes_on (λ next. walk text next rest) (stepped_over text skipped part)
walk_over text zero (part.Run run) rest = asked text run rest
walk_over text (suc skipped) (part.Run run) rest = rw (ne_eqb (suc skipped) 0 (omega arith)) (passed_over text skipped run rest)
walk_over text skipped (part.If condition) rest = refl
walk_over text skipped part.Endif rest = refl

-- one part of a walk
pub walk_more : (text : List ℕ) (skipped place : ℕ) (parts : List Part) (d : Part) → place < length parts
    → walk text skipped (all_said (drop place parts)) ≡ goes_on (λ next. walk text next (all_said (drop (place + 1) parts))) (stepped_over text skipped (get_or parts place d))
walk_more text skipped place parts d within =
    at_drop_more (λ left. walk text skipped (all_said left)) parts place d within
    ∙ walk_over text skipped (get_or parts place d) (all_said (drop (place + 1) parts))

-- what a walk led to, and where one part more leads
pub walk_on : (text : List ℕ) (skipped place : ℕ) (parts : List Part) (all : Option (List ℕ)) (step : Step) → place < length parts
    → all ≡ walk text skipped (all_said (drop place parts)) → step ≡ stepped_over text skipped (get_or parts place part.Endif)
    → all ≡ goes_on (λ next. walk text next (all_said (drop (place + 1) parts))) step
walk_on text skipped place parts all step within led is =
    led ∙ walk_more text skipped place parts part.Endif within ∙ ap (goes_on (λ next. walk text next (all_said (drop (place + 1) parts)))) (sym is)

-- a part more, and a rule more
pub said_more : (parts : List Part) (part : Part) → all_said (parts ++ (part ∷ [])) ≡ all_said parts ++ said_of part
said_more [] part = append-nil (said_of part)
said_more (first ∷ parts) part = ap (λ rest. said_of first ++ rest) (said_more parts part) ∙ sym (append_assoc (said_of first) (all_said parts) (said_of part))

pub rule_more : (parts : List Part) (waiting : List rules.Rule) (rule : rules.Rule)
    → all_said parts ++ map Rule (waiting ++ (rule ∷ [])) ≡ (all_said parts ++ map Rule waiting) ++ (Rule rule ∷ [])
rule_more parts waiting rule = ap (λ rest. all_said parts ++ rest) (map-append Rule waiting (rule ∷ [])) ∙ sym (append_assoc (all_said parts) (map Rule waiting) (Rule rule ∷ []))

-- the result of a rule
pub named : (values : List (List ℕ)) (rule : rules.Rule) (rest : List Entry) → names_group rule.pieces ≡ true
    → results_behind values (Rule rule ∷ rest) ≡ results_if false values rest
named values rule rest is = rw is refl

pub listed : (values : List (List ℕ)) (rule : rules.Rule) (rest : List Entry) → names_group rule.pieces ≡ false
    → results_behind values (Rule rule ∷ rest) ≡ results_if true (values ++ (plain_value rule.pieces ∷ [])) rest
listed values rule rest is =
    rw is (ap (λ v. if list_any has_group rest then Anything else Listed v) (sym (append_assoc values (plain_value rule.pieces ∷ []) (flat_map entry_values rest))))

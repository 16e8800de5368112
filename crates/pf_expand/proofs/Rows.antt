-- Worked examples of the definitions, each by computation.
use Rattle.std.proofs.Common.{◌≡◌, ℕ, List, [], ◌∷◌, None, Some, Ok, Err, map, refl, codes, if◌then◌else◌}
use Rattle.std.specs.Str.{bytes_eq}
use Rattle.pf_base.specs.Meanings.{Source}
use Rattle.pf_base.specs.declared.meaning.Meaning.TheVariants.{Is, DomainOf}
use Rattle.pf_expand.specs.Expansion.{Answer, first_flaw, parts, text_value}
use Rattle.pf_expand.specs.Forms.{first_part, form_of}
use Rattle.pf_expand.specs.Forms.{Part as part}
use Rattle.pf_expand.specs.Names.{domain_in, expanded, name_value, with_source}
use Rattle.pf_expand.specs.declared.flaw.Flaw.TheVariants.{BadForm, TooDeep, TooLong}

-- parts
plain_prefix : first_part (codes "ab$c") ≡ Some (part.literal (codes "ab"), codes "$c")
unfolding first_part
plain_prefix = refl

a_name : first_part (codes "$a_1-b") ≡ Some (part.name (codes "a_1"), codes "-b")
unfolding first_part form_of
a_name = refl

two_dollars : first_part (codes "$$a") ≡ Some (part.literal (codes "$"), codes "a")
unfolding first_part form_of
two_dollars = refl

a_choice : first_part (codes "${ a ? {x} : {y} }z") ≡ Some (part.choice (codes "a") (codes "x") (codes "y"), codes "z")
unfolding first_part form_of
a_choice = refl

no_form : first_part (codes "$-") ≡ None
unfolding first_part form_of
no_form = refl

-- names: a text, an empty one, two that name each other, and a domain
abbrev sources : List ℕ → Source
sources name =
    if bytes_eq name (codes "x") then Is (codes "X y")
    else if bytes_eq name (codes "y") then Is (codes "<$x>")
    else if bytes_eq name (codes "a") then Is (codes "$b")
    else if bytes_eq name (codes "b") then Is (codes "$a")
    else if bytes_eq name (codes "host") then Is (codes "mx.${x:none}example.com")
    else if bytes_eq name (codes "domain") then DomainOf (codes "host")
    else Is []

one_changed : map (with_source sources (codes "x") (DomainOf (codes "y"))) (codes "x" ∷ codes "y" ∷ codes "xx" ∷ [])
    ≡ DomainOf (codes "y") ∷ Is (codes "<$x>") ∷ Is [] ∷ []
one_changed = refl

abbrev value : List ℕ → Answer
value bytes = expanded sources bytes

no_dollar : value (codes "a {b} c") ≡ Ok (codes "a {b} c")
unfolding text_value parts first_part
no_dollar = refl

each_form_of_a_name : value (codes "$x,${x},$(x),${ x },$( x )") ≡ Ok (codes "X y,X y,X y,X y,X y")
unfolding text_value parts first_part form_of name_value
each_form_of_a_name = refl

a_name_in_a_name : value (codes "$y$nosuch.") ≡ Ok (codes "<X y>.")
unfolding text_value parts first_part form_of name_value
a_name_in_a_name = refl

dollars : value (codes "$$x$$") ≡ Ok (codes "$x$")
unfolding text_value parts first_part form_of name_value
dollars = refl

if_not_empty : value (codes "${x?full}${e?full}${x?{full}}${e?{full}}") ≡ Ok (codes "fullfull")
unfolding text_value parts first_part form_of name_value
if_not_empty = refl

if_empty : value (codes "${x:none}${e:none}${e:{none}}") ≡ Ok (codes "nonenone")
unfolding text_value parts first_part form_of name_value
if_empty = refl

either : value (codes "${x?{one}:{two}}${e?{one}:{two}}") ≡ Ok (codes "onetwo")
unfolding text_value parts first_part form_of name_value
either = refl

space_in_braces_stays : value (codes "[${x?{ a }}][${x? a }][${x?a:b}]") ≡ Ok (codes "[ a ][ a ][a:b]")
unfolding text_value parts first_part form_of name_value
space_in_braces_stays = refl

a_choice_in_a_choice : value (codes "${e?{1}:{${x?{[$x]}:{2}}}}") ≡ Ok (codes "[X y]")
unfolding text_value parts first_part form_of name_value
a_choice_in_a_choice = refl

a_domain : value (codes "$domain") ≡ Ok (codes "example.com")
unfolding text_value parts first_part form_of name_value
a_domain = refl

no_dot : domain_in (codes "mx") ≡ codes "localdomain"
no_dot = refl

past_the_first_dot : domain_in (codes "mx.example.com") ≡ codes "example.com"
past_the_first_dot = refl

-- a name takes a level, and so does each name in its text
levels_of_a_name : map (λ n. name_value sources n (codes "y")) (0 ∷ 1 ∷ 2 ∷ []) ≡ Err TooDeep ∷ Err TooDeep ∷ Ok (codes "<X y>") ∷ []
unfolding text_value parts first_part form_of name_value
levels_of_a_name = refl

-- flaws
a_dollar_alone : value (codes "a$") ≡ Err BadForm
unfolding text_value parts first_part form_of name_value
a_dollar_alone = refl

an_open_brace : value (codes "${x") ≡ Err BadForm
unfolding text_value parts first_part form_of name_value
an_open_brace = refl

an_empty_name : value (codes "${}") ≡ Err BadForm
unfolding text_value parts first_part form_of name_value
an_empty_name = refl

text_behind_a_brace : value (codes "${x?{a}b}") ≡ Err BadForm
unfolding text_value parts first_part form_of name_value
text_behind_a_brace = refl

no_choice_in_parentheses : value (codes "$(x?a)") ≡ Err BadForm
unfolding text_value parts first_part form_of name_value
no_choice_in_parentheses = refl

bad_form_that_is_not_chosen : value (codes "${e?$-}") ≡ Err BadForm
unfolding text_value parts first_part form_of name_value
bad_form_that_is_not_chosen = refl

names_in_a_circle : value (codes "x$a") ≡ Err TooDeep
unfolding text_value parts first_part form_of name_value
names_in_a_circle = refl

bad_form_before_depth : value (codes "$a$") ≡ Err BadForm
unfolding text_value parts first_part form_of name_value
bad_form_before_depth = refl

depth_before_length : first_flaw TooLong TooDeep ≡ TooDeep
depth_before_length = refl

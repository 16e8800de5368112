-- Worked examples of the definitions, each by computation.
use Rattle.std.proofs.Common.{◌≡◌, ℕ, List, [], ◌∷◌, None, Some, Ok, Err, map, refl, codes}
use Rattle.std.specs.List.{fold}
use Rattle.pf_base.specs.declared.meaning.Meaning.TheVariants.{Is, DomainOf}
use Rattle.pf_base.specs.TableTexts.{TableTexts}
use Rattle.pf_base.specs.Text.Words.{words_of}
use Rattle.pf_base.specs.declared.refused.Cause.{Cause}
use Rattle.pf_base.specs.declared.refused.Cause.TheVariants.{C4, C5, C6, C14, C16}
use Rattle.pf_base.specs.declared.refused.Refused.{Refused}
use Rattle.pf_base.specs.declared.table_texts.TableText.{TableText}
use Rattle.pf_catalogue.specs.Catalogue.{Row, catalogue, row}
use Rattle.pf_catalogue.specs.declared.kind.Kind.TheVariants as kind
use Rattle.pf_catalogue.specs.declared.value.Value.TheVariants.{Text, Number}
use Rattle.pf_expand.specs.Expansion.{parts, text_value}
use Rattle.pf_expand.specs.Forms.{first_part, form_of}
use Rattle.pf_expand.specs.Names.{name_value}
use Rattle.pf_expand.specs.declared.flaw.Flaw.TheVariants.{BadForm, TooDeep, TooLong}
use Rattle.pf_maincf.specs.Settings.{Conf, line_of}
use Rattle.pf_maincf.specs.declared.setting.Setting.{Setting}
use Rattle.pf_params.specs.Accepted.{restriction_lists, with_class, with_named, with_plain}
use Rattle.pf_params.specs.Classes.{class_names, class_rows, classes_of}
use Rattle.pf_params.specs.Clauses.Readings.{readings_of}
use Rattle.pf_params.specs.Parameters.{raw_text, reading_of, refusal_of, refusals, with_lesser}
use Rattle.pf_params.specs.Sources.{default_value_of}
use Rattle.pf_params.specs.Settled.{cause_of, settled, settled_source, value_in}

-- each parameter stands for the default of its own row
defaults_agree : map (λ (r : Row). default_value_of r.name) catalogue ≡ map (λ (r : Row). r.default_value) catalogue
unfolding catalogue
defaults_agree = refl

-- settings of a main.cf, and one after them that is in no file
abbrev set : ℕ → List ℕ → List ℕ → Setting
set line name value = record { line = line; name = name; value = value }

abbrev s : Conf
s = settled (record {
  file = codes "main.cf";
  settings = set 1 (codes "myhostname") (codes "mx.example.com") ∷ set 2 (codes "reject_code") (codes "550") ∷ set 3 (codes "reject_code") (codes "$asked")
      ∷ set 4 (codes "asked") (codes "571") ∷ set 5 (codes "defer_code") (codes "4$") ∷ set 6 (codes "smtpd_delay_reject") (codes "no")
      ∷ set 7 (codes "parent_domain_matches_subdomains") [] ∷ set 8 (codes "local") (codes "check_client_access hash:a, permit") ∷ set 9 (codes "open") (codes "{ permit")
      ∷ set 10 (codes "smtpd_restriction_classes") (codes "open, nosuch local") ∷ set 11 (codes "smtpd_helo_restrictions") (codes "check_helo_access hash:a, check_helo_access hash:b")
      ∷ set 12 (codes "smtpd_client_restrictions") (codes "check_client_access hash:c, reject") ∷ set 13 (codes "alias_maps") (codes "hash:b hash:d") ∷ [];
}) (set 14 (codes "unknown_address_reject_code") (codes "452") ∷ [])

in_order : map (λ (x : Setting). x.line) s.settings ≡ 1 ∷ 2 ∷ 3 ∷ 4 ∷ 5 ∷ 6 ∷ 7 ∷ 8 ∷ 9 ∷ 10 ∷ 11 ∷ 12 ∷ 13 ∷ 0 ∷ []
in_order = refl

-- what names stand for: the last setting, a default, the domain in another value, and nothing
sources : map (settled_source s) (codes "reject_code" ∷ codes "mail_name" ∷ codes "mydomain" ∷ codes "nosuch" ∷ [])
    ≡ Is (codes "$asked") ∷ Is (codes "Postfix") ∷ DomainOf (codes "myhostname") ∷ Is [] ∷ []
unfolding catalogue
sources = refl

-- lines: of the last setting, of one in no file, and of a default
lines : map (line_of s) (codes "reject_code" ∷ codes "unknown_address_reject_code" ∷ codes "mail_name" ∷ []) ≡ 3 ∷ 0 ∷ 0 ∷ []
lines = refl

abbrev reject_code : Row
reject_code = row (codes "reject_code") kind.Code (Is (codes "554"))

abbrev mail_name : Row
mail_name = row (codes "mail_name") kind.Text (Is (codes "Postfix"))

abbrev mydomain : Row
mydomain = row (codes "mydomain") kind.Text (DomainOf (codes "myhostname"))

abbrev defer_code : Row
defer_code = row (codes "defer_code") kind.Code (Is (codes "450"))

abbrev delay_reject : Row
delay_reject = row (codes "smtpd_delay_reject") kind.FixedYes (Is (codes "yes"))

abbrev subdomains : Row
subdomains = row (codes "parent_domain_matches_subdomains") kind.Unset (Is [])

-- texts before the values of names are in them: as set, as the default is there, and the value where that is taken out of another one
raw_texts : map (λ (r : Row). raw_text s r (codes "value")) (reject_code ∷ mail_name ∷ mydomain ∷ []) ≡ codes "$asked" ∷ codes "Postfix" ∷ codes "value" ∷ []
raw_texts = refl

-- what is read: a set parameter, a default, and one that may not be set and is not
read_parameters : readings_of s (reject_code ∷ mydomain ∷ row (codes "nosuch") kind.Unset (Is []) ∷ [])
    ≡ Ok (record { line = 3; raw = codes "$asked"; text = codes "571"; value = Number 571 }
    ∷ record { line = 0; raw = codes "example.com"; text = codes "example.com"; value = Text }
    ∷ record { line = 0; raw = []; text = []; value = Text } ∷ [])
unfolding catalogue reading_of text_value parts first_part form_of name_value
read_parameters = refl

-- refusals: a text of no form, a value of another kind, a fixed one that is set to something else, and one that may not be set
refused_parameters : map (reading_of s) (defer_code ∷ row (codes "myhostname") kind.Code (Is []) ∷ delay_reject ∷ subdomains ∷ [])
    ≡ Err C5 ∷ Err C6 ∷ Err C14 ∷ Err C14 ∷ []
unfolding catalogue reading_of text_value parts first_part form_of name_value
refused_parameters = refl

first_refused : readings_of s (reject_code ∷ subdomains ∷ defer_code ∷ []) ≡ Err (record { file = codes "main.cf"; line = 7; cause = C14; name = codes "parent_domain_matches_subdomains" })
unfolding catalogue reading_of text_value parts first_part form_of name_value
first_refused = refl

causes : map cause_of (BadForm ∷ TooDeep ∷ TooLong ∷ []) ≡ C5 ∷ C4 ∷ C16 ∷ []
causes = refl

-- of two refusals the one with the lesser name, and the first at equal names
abbrev refusal : List ℕ → Cause → Refused
refusal name cause = refusal_of s name cause

lesser : map (with_lesser (Some (refusal (codes "b") C5))) (refusal (codes "a") C6 ∷ refusal (codes "c") C6 ∷ refusal (codes "b") C6 ∷ refusal (codes "bb") C6 ∷ [])
    ≡ Some (refusal (codes "a") C6) ∷ Some (refusal (codes "b") C5) ∷ Some (refusal (codes "b") C5) ∷ Some (refusal (codes "b") C5) ∷ []
lesser = refl

the_only_one : with_lesser None (refusal (codes "b") C6) ≡ Some (refusal (codes "b") C6)
the_only_one = refl

-- the names of classes, in their order
class_names_read : class_names s ≡ codes "open" ∷ codes "nosuch" ∷ codes "local" ∷ []
unfolding catalogue reading_of text_value parts first_part form_of name_value words_of
class_names_read = refl

-- classes: one that is set, one that is not, and one whose brace has no partner
classes_held : classes_of s (class_rows s (codes "open" ∷ codes "nosuch" ∷ codes "local" ∷ []))
    ≡ record { name = codes "local"; line = 8; items = codes "check_client_access" ∷ codes "hash:a" ∷ codes "permit" ∷ [] } ∷ []
unfolding catalogue reading_of text_value parts first_part form_of name_value words_of
classes_held = refl

class_refused : fold with_lesser (Some (refusal (codes "reject_code") C6)) (refusals s (class_rows s (codes "nosuch" ∷ codes "open" ∷ codes "local" ∷ [])))
    ≡ Some (record { file = codes "main.cf"; line = 9; cause = C6; name = codes "open" })
unfolding catalogue reading_of text_value parts first_part form_of name_value words_of
class_refused = refl

-- the value of a text, and its refusal, which has no line and no name
a_text : value_in s (codes "<$reject_code>") ≡ Ok (codes "<571>")
unfolding catalogue text_value parts first_part form_of name_value
a_text = refl

refused_text : value_in s (codes "${reject_code") ≡ Err (record { file = codes "main.cf"; line = 0; cause = C5; name = [] })
unfolding catalogue text_value parts first_part form_of name_value
refused_text = refl

-- table texts: of a parameter that is no restriction list, and of one that is
abbrev no_texts : TableTexts
no_texts = record { file = codes "main.cf"; texts = [] }

abbrev text_at : ℕ → List ℕ → TableText
text_at line text = record { line = line; text = text }

abbrev alias_maps : Row
alias_maps = row (codes "alias_maps") kind.Maps (Is [])

abbrev helo_restrictions : Row
helo_restrictions = row (codes "smtpd_helo_restrictions") kind.Restrictions (Is [])

plain_texts : fold (with_plain s) no_texts (alias_maps ∷ helo_restrictions ∷ []) ≡ record no_texts { texts = text_at 13 (codes "hash:b") ∷ text_at 13 (codes "hash:d") ∷ [] }
unfolding catalogue text_value parts first_part form_of name_value words_of
plain_texts = refl

-- of the restriction lists in the order in which they are judged, each text at the line that names it first
listed_texts : fold (with_named s) (record no_texts { texts = text_at 13 (codes "hash:b") ∷ [] }) restriction_lists
    ≡ record no_texts { texts = text_at 13 (codes "hash:b") ∷ text_at 12 (codes "hash:c") ∷ text_at 11 (codes "hash:a") ∷ [] }
unfolding catalogue text_value parts first_part form_of name_value words_of
listed_texts = refl

class_texts : with_class no_texts (record { name = codes "local"; line = 8; items = codes "check_client_access" ∷ codes "hash:a" ∷ codes "permit" ∷ [] })
    ≡ record no_texts { texts = text_at 8 (codes "hash:a") ∷ [] }
class_texts = refl

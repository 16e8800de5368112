-- The settings of a main.cf that are accepted, what is read of them, and their table texts (postconf(5)). Parameters and classes are looked at in
-- byte order of their names, which is the order of the table; that order, and the order in which tables are opened, are postgate's own.
use Rattle.std.specs.Prelude.{ℕ, ◌++◌, Bool, true, false, List, [], ◌∷◌, Option, None, Some, Result, Ok, Err, codes, if◌then◌else◌}
use Rattle.std.specs.List.{fold}
use Rattle.std.specs.Option.{option_map_or}
use Rattle.pf_base.specs.TableTexts.{TableTexts}
use Rattle.pf_base.specs.declared.refused.Refused.{Refused}
use Rattle.pf_catalogue.specs.Catalogue.{Row, catalogue, place_of, row_at}
use Rattle.pf_catalogue.specs.Tables.{tables_of, with_texts}
use Rattle.pf_catalogue.specs.Values.{items_in, value_of}
use Rattle.pf_catalogue.specs.declared.kind.Kind.{Kind}
use Rattle.pf_catalogue.specs.declared.kind.Kind.TheVariants.{Number, Code, Maps, Domains, Networks, Hosts, Restrictions, AddressKinds, Extensions, Interfaces, RewriteClients, Names}
use Rattle.pf_catalogue.specs.declared.value.Value.{Value}
use Rattle.pf_expand.specs.Expansion.{content}
use Rattle.pf_maincf.specs.Settings.{Conf, line_of}
use Rattle.pf_maincf.specs.declared.setting.Setting.{Setting}
use Rattle.pf_params.specs.Classes.{class_named, class_names, class_rows, classes_of}
use Rattle.pf_params.specs.Parameters.{raw_text, refusals, with_lesser}
use Rattle.pf_params.specs.Settled.{settled, value_alone}
use Rattle.pf_params.specs.declared.classes.Class.{Class}

-- what is looked at: the parameters, and the classes that are set
abbrev pub rows_of : Conf → List Row
rows_of s = catalogue ++ class_rows s (class_names s)

-- the refusal of settings: of all that are refused the one whose name is least in byte order, a parameter before a class of its name
abbrev pub refusal_in : Conf → Option Refused
refusal_in s = fold with_lesser None (refusals s (rows_of s))

-- the settings of a main.cf with those that count after them, or their first refusal
unfoldable pub accepted : Conf → List Setting → Result Conf Refused
accepted conf over = option_map_or Err (refusal_in (settled conf over)) (Ok (settled conf over))

-- the value of a parameter, and its text before the values of names are in it
abbrev pub text_of : Conf → Row → List ℕ
text_of s row = content (value_alone s row.name)

abbrev pub raw_of : Conf → Row → List ℕ
raw_of s row = raw_text s row (text_of s row)

-- what the value of a parameter says
abbrev pub said_by : Conf → Row → Option Value
said_by s row = value_of row.kind (text_of s row)

-- the items of a list
abbrev pub items_of : Conf → Row → List (List ℕ)
items_of s row = option_map_or items_in (said_by s row) []

-- the classes that are set, and the items of one
abbrev pub classes_in : Conf → List Class
classes_in s = classes_of s (class_rows s (class_names s))

abbrev pub class_in : Conf → List ℕ → Option Class
class_in s name = class_named (classes_in s) name

-- table texts with those of a parameter
abbrev pub with_parameter : Conf → TableTexts → Row → TableTexts
with_parameter s specs row = with_texts (line_of s row.name) specs (tables_of row.kind (items_of s row))

-- and with those of a parameter that is no restriction list
abbrev pub is_restrictions : Kind → Bool
is_restrictions Restrictions = true
is_restrictions kind = false

abbrev pub with_plain : Conf → TableTexts → Row → TableTexts
with_plain s specs row = if is_restrictions row.kind then specs else with_parameter s specs row

-- and with those of a class
abbrev pub with_class : TableTexts → Class → TableTexts
with_class specs class = with_texts class.line specs (tables_of Restrictions class.items)

-- the restriction lists in the order in which they are judged
abbrev pub restriction_lists : List (List ℕ)
restriction_lists =
    codes "smtpd_client_restrictions" ∷ codes "smtpd_helo_restrictions" ∷ codes "smtpd_sender_restrictions" ∷ codes "smtpd_relay_restrictions"
    ∷ codes "smtpd_recipient_restrictions" ∷ codes "smtpd_data_restrictions" ∷ codes "smtpd_end_of_data_restrictions" ∷ []

abbrev pub with_named : Conf → TableTexts → List ℕ → TableTexts
with_named s specs name = option_map_or (λ place. with_parameter s specs (row_at place)) (place_of name) specs

-- the table texts in the order in which tables are opened: of the parameters that are no restriction lists in byte order, then of the restriction
-- lists in the order in which they are judged, then of the classes in their order
abbrev pub plain_texts : Conf → TableTexts
plain_texts s = fold (with_plain s) (record { file = s.file; texts = [] }) catalogue

abbrev pub listed_texts : Conf → TableTexts
listed_texts s = fold (with_named s) (plain_texts s) restriction_lists

abbrev pub table_texts : Conf → TableTexts
table_texts s = fold with_class (listed_texts s) (classes_in s)

-- kinds of lists, and of numbers
abbrev pub is_list : Kind → Bool
is_list Maps = true
is_list Domains = true
is_list Networks = true
is_list Hosts = true
is_list Restrictions = true
is_list AddressKinds = true
is_list Extensions = true
is_list Interfaces = true
is_list RewriteClients = true
is_list Names = true
is_list kind = false

abbrev pub is_numeric : Kind → Bool
is_numeric (Number least most) = true
is_numeric Code = true
is_numeric kind = false

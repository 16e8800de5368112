-- The tables and files that a list names (DATABASE_README; postconf(5)).
use Rattle.std.specs.Prelude.{ℕ, List, [], ◌∷◌}
use Rattle.std.specs.List.{filter_map, fold}
use Rattle.pf_base.specs.TableTexts.{TableTexts, place_of, with_text}
use Rattle.pf_catalogue.specs.Arguments.{argument_of}
use Rattle.pf_catalogue.specs.Lists.{table_in}
use Rattle.pf_catalogue.specs.declared.arguments.Argument.{Argument}
use Rattle.pf_catalogue.specs.declared.arguments.Argument.TheVariants.{Nothing, Table, Text}
use Rattle.pf_catalogue.specs.declared.kind.Kind.{Kind}
use Rattle.pf_catalogue.specs.declared.kind.Kind.TheVariants.{Maps, Domains, Networks, Hosts, Restrictions, RewriteClients}

-- the tables and files that the items of a list of domains, networks or hosts name
abbrev pub tables_named : List (List ℕ) → List (List ℕ)
tables_named items = filter_map table_in items

-- what is after the words that take a table; before the items this is wanted
abbrev pub table_arguments : Kind → Argument → List (List ℕ) → List (List ℕ)
table_arguments kind wanted [] = []
table_arguments kind Nothing (item ∷ items) = table_arguments kind (argument_of kind item) items
table_arguments kind Text (item ∷ items) = table_arguments kind Nothing items
table_arguments kind Table (item ∷ items) = item ∷ table_arguments kind Nothing items

-- the tables and files that the items of a list of a kind name, in order
abbrev pub tables_of : Kind → List (List ℕ) → List (List ℕ)
tables_of Maps items = items
tables_of Domains items = tables_named items
tables_of Networks items = tables_named items
tables_of Hosts items = tables_named items
tables_of Restrictions items = table_arguments Restrictions Nothing items
tables_of RewriteClients items = table_arguments RewriteClients Nothing items
tables_of kind items = []

-- table texts with one more, if it is new
abbrev pub with_one : ℕ → TableTexts → List ℕ → TableTexts
with_one line specs text = record specs { texts = with_text specs.texts (place_of specs.texts text) line text }

-- and with some more in order
abbrev pub with_texts : ℕ → TableTexts → List (List ℕ) → TableTexts
with_texts line specs texts = fold (with_one line) specs texts

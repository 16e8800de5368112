-- Membership in lists (ADDRESS_CLASS_README; postconf(5), mydestination, relay_domains, mynetworks): a list is read from the left, and the
-- first item that matches decides.
use Rattle.std.specs.Prelude.{ℕ, ◌==◌, ◌&&◌, ◌||◌, Bool, true, false, not, List, [], ◌∷◌, ◌++◌, Option, None, Some, Result, Ok, Err, codes, flat_map, if◌then◌else◌}
use Rattle.std.specs.List.{list_any}
use Rattle.std.specs.Option.{option_map}
use Rattle.std.specs.Str.{bytes_eq}
use Rattle.pf_asks.specs.Looking.{Looked}
use Rattle.pf_asks.specs.Questions as questions
use Rattle.pf_asks.specs.Questions.{done, look}
use Rattle.pf_asks.specs.Tries.{Try, ok, ◌>>=◌}
use Rattle.pf_asks.specs.declared.lookup.Found.{Found}
use Rattle.pf_asks.specs.declared.lookup.Found.TheVariants.{Value, Absent}
use Rattle.pf_base.specs.Text.Ascii as ascii
use Rattle.pf_base.specs.declared.table_texts.TableId.{TableId}
use Rattle.pf_cidr.specs.Nets.{Network, net_has}
use Rattle.pf_cidr.specs.declared.address.Addr.{Addr}
use Rattle.pf_class.specs.declared.fault.ClassFault.{ClassFault}
use Rattle.pf_class.specs.declared.fault.ClassFault.TheVariants.{LookupFailed}
use Rattle.pf_class.specs.declared.item.Item.{Item}
use Rattle.pf_class.specs.declared.item.Pattern.{Pattern}
use Rattle.pf_class.specs.declared.item.Pattern.TheVariants.{Names, Net, Table, File}
use Rattle.pf_class.specs.declared.subject.Subject.{Subject}

-- a name is among names
abbrev pub is_among : List (List ℕ) → List ℕ → Bool
is_among names name = list_any (bytes_eq name) names

abbrev pub begins_with_dot : List ℕ → Bool
begins_with_dot [] = false
begins_with_dot (b ∷ name) = b == ascii.dot

-- a domain is among names, or a parent of it is that begins with no dot: `name` has the domains below it, and `.name` is itself alone
abbrev pub names_domain : List (List ℕ) → List (List ℕ) → Bool
names_domain names [] = false
names_domain names (domain ∷ parents) =
    is_among names domain || list_any (λ parent. not (begins_with_dot parent) && is_among names parent) parents

-- a name more, unless it is there
abbrev pub with_name : List (List ℕ) → List ℕ → List (List ℕ)
with_name names name = if is_among names name then names else names ++ name ∷ []

-- a lookup that fails, by what the table means or from outside, ends the question
abbrev pub as_answer : Looked → Result Found ClassFault
as_answer (Ok found) = Ok found
as_answer (Err fault) = Err LookupFailed

unfoldable pub looked : ℕ → List ℕ → Try ClassFault Found
looked id key = questions.◌>>=◌ (look id key) (λ answer. done (as_answer answer))

-- a value ends a search, and where there is none it goes on
abbrev pub or_else : Found → Try ClassFault Found → Try ClassFault Found
or_else (Value bytes) behind = ok (Value bytes)
or_else Absent behind = behind

-- a table is asked for keys in turn, up to one that has a value
unfoldable pub first_value : ℕ → List (List ℕ) → Try ClassFault Found
first_value id [] = ok Absent
first_value id (key ∷ keys) = do
  found ← looked id key
  or_else found (first_value id keys)

-- what matches is a member
abbrev pub if_matched : Bool → Option Bool
if_matched matched = if matched then Some true else None

-- an address is in a net
abbrev pub is_in_net : Network → Option Addr → Bool
is_in_net net None = false
is_in_net net (Some address) = net_has net address

-- what a table has a value for is a member
abbrev pub table_says : Found → Option Bool
table_says (Value value) = Some true
table_says Absent = None

-- what a list file has a value for is a member where that is `yes`
abbrev pub file_says : Found → Option Bool
file_says (Value value) = Some (bytes_eq value (codes "yes"))
file_says Absent = None

-- whether a subject that matches a pattern is a member
unfoldable pub pattern_says : Pattern → Subject → Try ClassFault (Option Bool)
pattern_says (Names names) subject = ok (if_matched (names_domain names subject.keys))
pattern_says (Net net) subject = ok (if_matched (is_in_net net subject.address))
pattern_says (Table id) subject = do
  found ← first_value id.0 subject.keys
  ok (table_says found)
pattern_says (File id) subject = do
  found ← first_value id.0 subject.file_keys
  ok (file_says found)

-- `!` turns it round
abbrev pub turned : Bool → Bool → Bool
turned excludes member = if excludes then not member else member

unfoldable pub item_says : Item → Subject → Try ClassFault (Option Bool)
item_says item subject = do
  says ← pattern_says item.pattern subject
  ok (option_map (turned item.excludes) says)

-- the first item that matches decides
abbrev pub or_next : Option Bool → Try ClassFault Bool → Try ClassFault Bool
or_next (Some member) behind = ok member
or_next None behind = behind

unfoldable pub is_member : List Item → Subject → Try ClassFault Bool
is_member [] subject = ok false
is_member (item ∷ items) subject = do
  says ← item_says item subject
  or_next says (is_member items subject)

-- the table or list file of a pattern
abbrev pub table_of : Pattern → List TableId
table_of (Names names) = []
table_of (Net net) = []
table_of (Table id) = id ∷ []
table_of (File id) = id ∷ []

-- those of a list
abbrev pub tables_of : List Item → List TableId
tables_of items = flat_map (λ item. table_of item.pattern) items

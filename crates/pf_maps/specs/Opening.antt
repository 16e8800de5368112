-- How tables are opened (DATABASE_README): what their texts name, and what their files hold. A file is read where its table is opened, after the
-- refusals of those before it. The refusals and their order are postgate's own.
use Rattle.std.specs.Prelude.{ℕ, zero, suc, ◌++◌, Bool, true, false, List, [], ◌∷◌, codes, Option, None, Some, Result, Ok, Err, if◌then◌else◌}
use Rattle.std.specs.Str.{is_utf8}
use Rattle.pf_base.specs.Outside.FileList.{file_of, whole_file}
use Rattle.pf_base.specs.Refusal.{refused}
use Rattle.pf_base.specs.Results.{◌>>=◌}
use Rattle.pf_base.specs.TableTexts.{TableTexts}
use Rattle.pf_base.specs.declared.pair.Pair.{Pair}
use Rattle.pf_base.specs.declared.outside.reading.ReadFault.{ReadFault}
use Rattle.pf_base.specs.declared.refused.Cause.TheVariants.{C10, C15}
use Rattle.pf_base.specs.declared.refused.Refused.{Refused}
use Rattle.pf_base.specs.declared.table_texts.TableText.{TableText}
use Rattle.pf_cidr.specs.Tables.{table_of}
use Rattle.pf_listfile.specs.ListFile.{items_of}
use Rattle.pf_pcre.specs.Tables as pcre
use Rattle.pf_table.specs.Inline.{inline_of}
use Rattle.pf_table.specs.Text.{text_read}
use Rattle.pf_table.specs.declared.pairs.Repeats.TheVariants.{First}
use Rattle.pf_maps.specs.Cdb.{cdb_read}
use Rattle.pf_maps.specs.Specification.{spec_of}
use Rattle.pf_maps.specs.declared.node.Node.{Node}
use Rattle.pf_maps.specs.declared.node.Node.TheVariants as node
use Rattle.pf_maps.specs.declared.opening.Place.{Place}
use Rattle.pf_maps.specs.declared.specification.SpecNode.{SpecNode}
use Rattle.pf_maps.specs.declared.specification.SpecNode.TheVariants as spec_node

-- why a table is not opened: it is refused, or the file of this name is not read
pub data Unopened : Type 0 where
  refuses : Refused → Unopened
  fails : List ℕ → Unopened

-- what may happen at one table that its file does not say: the pattern of the line at this place, from 0, is refused for its size, or the
-- file is not read
pub data Event : Type 0 where
  too_large : ℕ → Event
  read_fails : Event

abbrev pub has_failed : Option Event → Bool
has_failed None = false
has_failed (Some (too_large line)) = false
has_failed (Some read_fails) = true

abbrev pub large_line : Option Event → Option ℕ
large_line None = None
large_line (Some (too_large line)) = Some line
large_line (Some read_fails) = None

-- what is there, or its refusal
abbrev pub refusing : {A : Type 0} → Result A Refused → Result A Unopened
refusing (Ok x) = Ok x
refusing (Err refusal) = Err (refuses refusal)

-- a file that is read whole, if it is there and no larger than the limit
abbrev pub text_or_refused : Place → List ℕ → Result (Option (List ℕ)) ReadFault → Result (List ℕ) Refused
text_or_refused place name (Ok (Some text)) = Ok text
text_or_refused place name (Ok None) = Err (refused place.file place.line C10 name)
text_or_refused place name (Err fault) = Err (refused place.file place.line C15 name)

-- the text of a file, unless the read fails
abbrev pub unless_failed : Bool → List Pair → Place → List ℕ → Result (List ℕ) Unopened
unless_failed true files place name = Err (fails name)
unless_failed false files place name = refusing (text_or_refused place name (whole_file (file_of files name)))

-- the text of the file of a table; no file has a name that is no UTF-8
abbrev pub table_text : Bool → List Pair → Place → List ℕ → Result (List ℕ) Unopened
table_text failed files place name = if is_utf8 name then unless_failed failed files place name else Err (refuses (refused place.file place.line C10 name))

-- texthash, cdb and cidr: the table of the file's text
abbrev pub text_opened : Bool → List Pair → Place → Bool → List ℕ → Result Node Unopened
text_opened failed files place folds name = do
  text ← table_text failed files place name
  read ← refusing (text_read name folds First text)
  Ok (node.Text read.table)

-- the file of `cdb:NAME` is `NAME.cdb`
abbrev pub cdb_name : List ℕ → List ℕ
cdb_name name = name ++ codes ".cdb"

abbrev pub cdb_file_opened : Bool → List Pair → Place → Bool → List ℕ → Result Node Unopened
cdb_file_opened failed files place folds file = do
  bytes ← table_text failed files place file
  table ← refusing (cdb_read file folds bytes)
  Ok (node.Cdb table)

abbrev pub cdb_opened : Bool → List Pair → Place → Bool → List ℕ → Result Node Unopened
cdb_opened failed files place folds name = cdb_file_opened failed files place folds (cdb_name name)

abbrev pub cidr_opened : Bool → List Pair → Place → List ℕ → Result Node Unopened
cidr_opened failed files place name = do
  text ← table_text failed files place name
  table ← refusing (table_of name text)
  Ok (node.Cidr table)

-- pcre
abbrev pub pcre_opened : Option Event → List Pair → Place → List ℕ → Result Node Unopened
pcre_opened event files place name = do
  text ← table_text (has_failed event) files place name
  table ← refusing (pcre.table_of (large_line event) name text)
  Ok (node.Pcre table)

-- a list file: its items
abbrev pub list_opened : Bool → List Pair → Place → List ℕ → Result Node Unopened
list_opened failed files place name = do
  text ← table_text failed files place name
  items ← refusing (items_of name text)
  Ok (node.ListFile items)

-- inline: the table of the text between the braces
abbrev pub inline_opened : Place → Bool → List ℕ → Result Node Refused
inline_opened place folds text = do
  table ← inline_of place.file place.line folds text
  Ok (node.Inline table)

abbrev pub node_opened : Option Event → List Pair → Place → Bool → SpecNode → Result Node Unopened
node_opened event files place folds (spec_node.Text name) = text_opened (has_failed event) files place folds name
node_opened event files place folds (spec_node.Cdb name) = cdb_opened (has_failed event) files place folds name
node_opened event files place folds (spec_node.Cidr name) = cidr_opened (has_failed event) files place name
node_opened event files place folds (spec_node.Pcre name) = pcre_opened event files place name
node_opened event files place folds (spec_node.Inline text) = refusing (inline_opened place folds text)
node_opened event files place folds (spec_node.Fixed value) = Ok (node.Fixed value)
node_opened event files place folds spec_node.Fail = Ok node.Fail
node_opened event files place folds (spec_node.ListFile name) = list_opened (has_failed event) files place name
node_opened event files place folds (spec_node.Union count) = Ok (node.Union count)
node_opened event files place folds (spec_node.Pipe count) = Ok (node.Pipe count)

-- of tables that are opened in turn, the event of the first one, and those of the others, where there is one at a place
abbrev pub first_at : {L : Type 0} → ℕ → L → Option L
first_at zero event = Some event
first_at (suc place) event = None

abbrev pub at_first : {L : Type 0} → Option (ℕ × L) → Option L
at_first None = None
at_first (Some event) = first_at event.0 event.1

abbrev pub other_at : {L : Type 0} → ℕ → L → Option (ℕ × L)
other_at zero event = None
other_at (suc place) event = Some (place, event)

abbrev pub at_others : {L : Type 0} → Option (ℕ × L) → Option (ℕ × L)
at_others None = None
at_others (Some event) = other_at event.0 event.1

-- all in turn, or why the first one is not opened that is not
abbrev pub in_turn : {A B L : Type 0} → (Option L → A → Result B Unopened) → Option (ℕ × L) → List A → Result (List B) Unopened
in_turn opens_one event [] = Ok []
in_turn opens_one event (one ∷ others) = do
  opened ← opens_one (at_first event) one
  more ← in_turn opens_one (at_others event) others
  Ok (opened ∷ more)

abbrev pub nodes_opened : Option (ℕ × Event) → List Pair → Place → Bool → List SpecNode → Result (List Node) Unopened
nodes_opened event files place folds nodes = in_turn (λ here. node_opened here files place folds) event nodes

-- the table of a text that is at this place
abbrev pub table_opened : Option (ℕ × Event) → List Pair → Bool → Place → List ℕ → Result (List Node) Unopened
table_opened event files folds place text = do
  nodes ← refusing (spec_of place.file place.line text)
  nodes_opened event files place folds nodes

abbrev pub text_table_opened : List Pair → Bool → List ℕ → Option (ℕ × Event) → TableText → Result (List Node) Unopened
text_table_opened files folds file event one = table_opened event files folds (record { file = file; line = one.line }) one.text

-- the tables of all texts; the event has the place of the text, and that of the node in it
abbrev pub tables_opened : Option (ℕ × (ℕ × Event)) → List Pair → Bool → TableTexts → Result (List (List Node)) Unopened
tables_opened event files folds specs = in_turn (text_table_opened files folds specs.file) event specs.texts

-- What postmap has to do by its words and the files (postmap(1)). The refusals are postgate's own.
use Rattle.std.specs.Prelude.{ℕ, ◌++◌, ◌==◌, ◌&&◌, Bool, true, false, List, [], ◌∷◌, Option, Some, None, Result, Ok, Err, codes, slice_get, if◌then◌else◌}
use Rattle.std.specs.List.{list_any}
use Rattle.pf_base.specs.Refusal.{refused}
use Rattle.pf_base.specs.Results.{◌>>=◌}
use Rattle.pf_base.specs.TableTexts.{TableTexts}
use Rattle.pf_base.specs.Text.Ascii as ascii
use Rattle.pf_base.specs.declared.pair.Pair.{Pair}
use Rattle.pf_base.specs.declared.refused.Cause.TheVariants.{C9}
use Rattle.pf_base.specs.declared.refused.Refused.{Refused}
use Rattle.pf_asks.specs.Looking.{Meaning}
use Rattle.pf_maps.specs.Clauses.Seen.{listed, meaning_in}
use Rattle.pf_maps.specs.Opening.{Event, Unopened, has_failed, tables_opened}
use Rattle.pf_maps.specs.Opening.{Event as event}
use Rattle.pf_maps.specs.Opening.{Unopened as unopened}
use Rattle.pf_maps.specs.Specification.{is_list_file}
use Rattle.pf_maps.specs.declared.node.Node.{Node}
use Rattle.pf_tools.specs.Map.Built.{built_in}
use Rattle.pf_tools.specs.Map.Lines.{value_at}
use Rattle.pf_tools.specs.declared.map.build.Built.{Built}
use Rattle.pf_words.specs.declared.postmap.MapJob.{MapJob}
use Rattle.pf_words.specs.declared.postmap.MapJob.TheVariants as job
use Rattle.pf_words.specs.declared.postmap.MapWords.{MapWords}

-- a type is before a colon
abbrev pub has_type : List ℕ → Bool
has_type table = list_any (λ b. b == ascii.colon) table

-- a text without a type names a cdb
abbrev pub text_of : List ℕ → List ℕ
text_of table = if has_type table then table else codes "cdb:" ++ table

-- no type begins with a slash: only a list in main.cf names a list file
abbrev pub is_no_table : List ℕ → Bool
is_no_table table = has_type table && is_list_file table

abbrev pub no_table : List ℕ → Refused
no_table table = refused (codes "words") 0 C9 table

-- the text of the table as one that words name
abbrev pub specs_of : List ℕ → TableTexts
specs_of table = record { file = codes "words"; texts = record { line = 0; text = text_of table } ∷ [] }

-- what may happen that the files do not say: at the place of a text, of which there is one, and at that of a table in it. A build
-- has one file, and a read that failed is that file's, whatever the place.
abbrev pub Happening : Type 0
Happening = Option (ℕ × (ℕ × Event))

abbrev pub read_at_first : Happening
read_at_first = Some (0, (0, event.read_fails))

abbrev pub is_unread : Happening → Bool
is_unread None = false
is_unread (Some (text, (table, event))) = has_failed (Some event)

-- the tables that are opened, or why they are not
abbrev pub tables_in : Happening → MapWords → List Pair → Result (List (List Node)) Unopened
tables_in happening words files =
    if is_no_table words.table then Err (unopened.refuses (no_table words.table)) else tables_opened happening files words.folded (specs_of words.table)

-- the table that is opened, or why it is not
abbrev pub table_in : Happening → MapWords → List Pair → Result (Option (List Node)) Unopened
table_in happening words files = do
  tables ← tables_in happening words files
  Ok (slice_get tables 0)

-- what there is to do: to put a cdb in its place and warn of repeated keys, to say the value of a key, to answer the keys of the input by a table,
-- or to print pairs
pub data Task : Type 0 where
  builds : Built → Task
  answers : Option (List ℕ) → Task
  serves : Meaning → Task
  lists : List Pair → Task

-- what there is to do by a job
abbrev pub task_by : MapJob → Happening → MapWords → List Pair → Result Task Unopened
task_by (job.Build repeats warned) happening words files = do
  built ← built_in (is_unread happening) words.table words.folded repeats warned files
  Ok (builds built)
task_by (job.Query key) happening words files = do
  table ← table_in happening words files
  Ok (answers (value_at (meaning_in table) key))
task_by job.QueryInput happening words files = do
  table ← table_in happening words files
  Ok (serves (meaning_in table))
task_by job.Elements happening words files = do
  table ← table_in happening words files
  Ok (lists (listed table))

-- what there is to do by words, or why there is nothing
abbrev pub task_in : Happening → MapWords → List Pair → Result Task Unopened
task_in happening words files = task_by words.job happening words files

-- a task is one of a job
abbrev pub is_of : MapJob → Task → Bool
is_of (job.Build repeats warned) (builds built) = true
is_of (job.Query key) (answers value) = true
is_of job.QueryInput (serves meaning) = true
is_of job.Elements (lists pairs) = true
is_of other task = false

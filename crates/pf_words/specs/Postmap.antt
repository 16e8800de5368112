-- The words of postmap (postmap(1)): postmap [-r or -w] [-f] [cdb:]name, postmap -q key [-f] type:name, postmap -q - [-f] [-b budget] type:name and
-- postmap -s [-f] type:name. Which options are beside which, -b, and that a text without a type names a cdb, is postgate's own.
use Rattle.std.specs.Prelude.{ℕ, ◌==◌, ◌&&◌, ◌||◌, Bool, true, false, not, List, [], ◌∷◌, Option, Some, None, codes, is_some, take, if◌then◌else◌}
use Rattle.std.specs.List.{position}
use Rattle.std.specs.Option.{option_and_then, option_map, option_map_or}
use Rattle.std.specs.Str.{bytes_eq}
use Rattle.clap.specs.Words.{Row}
use Rattle.pf_base.specs.Options.{◌>>=◌}
use Rattle.pf_base.specs.Text.Ascii as ascii
use Rattle.pf_table.specs.declared.pairs.Repeats.TheVariants.{First, Last}
use Rattle.pf_words.specs.Commands.{postmap_app}
use Rattle.pf_words.specs.Found.{has_flag, rest_in, rows_in, value_in}
use Rattle.pf_words.specs.Smtpd.{budget_in}
use Rattle.pf_words.specs.declared.postmap.MapJob.{MapJob}
use Rattle.pf_words.specs.declared.postmap.MapJob.TheVariants as job
use Rattle.pf_words.specs.declared.postmap.MapWords.{MapWords}

-- the type of a table: what is before the first colon of its text, if it has one
abbrev pub kind_of : List ℕ → Option (List ℕ)
kind_of table = option_map (λ n. take n table) (position (λ b. b == ascii.colon) table)

-- a cdb can be built
abbrev pub can_build : List ℕ → Bool
can_build table = option_map_or (λ kind. bytes_eq kind (codes "cdb")) (kind_of table) true

-- the pairs of a text table, a cdb and an inline table can be printed
abbrev pub can_list : List ℕ → Bool
can_list table =
    option_map_or (λ kind. bytes_eq kind (codes "texthash") || bytes_eq kind (codes "cdb") || bytes_eq kind (codes "inline")) (kind_of table) true

-- a table is one that a job is for
abbrev pub fits : MapJob → List ℕ → Bool
fits (job.Build repeats warned) table = can_build table
fits (job.Query key) table = true
fits job.QueryInput table = true
fits job.Elements table = can_list table

-- something is said of how to build
abbrev pub has_build_option : List Row → Bool
has_build_option rows = has_flag (codes "replace") rows || has_flag (codes "quiet") rows

-- something is said of what to print
abbrev pub has_print_option : List Row → Bool
has_print_option rows = is_some (value_in (codes "query") rows) || has_flag (codes "elements") rows

-- keys are read from the input
abbrev pub is_input : List ℕ → Bool
is_input key = bytes_eq key (codes "-")

abbrev pub reads_input : List Row → Bool
reads_input rows = option_map_or is_input (value_in (codes "query") rows) false

-- at most one of -r and -w, at most one of -q and -s, nothing of how to build beside these, and -b beside -q - alone
abbrev pub options_agree : List Row → Bool
options_agree rows =
    not (has_flag (codes "replace") rows && has_flag (codes "quiet") rows)
    && not (is_some (value_in (codes "query") rows) && has_flag (codes "elements") rows)
    && not (has_build_option rows && has_print_option rows)
    && (reads_input rows || not (is_some (value_in (codes "budget") rows)))

-- what is asked: the values of the keys of the input, or the value of a key
abbrev pub query_of : List ℕ → MapJob
query_of key = if is_input key then job.QueryInput else job.Query key

-- a build: with -r the last of repeated keys counts, with -w nothing is said of them, and else they are warned of
abbrev pub build_in : List Row → MapJob
build_in rows =
    if has_flag (codes "replace") rows then job.Build Last false else job.Build First (not (has_flag (codes "quiet") rows))

-- all pairs, or a build
abbrev pub other_job_in : List Row → MapJob
other_job_in rows = if has_flag (codes "elements") rows then job.Elements else build_in rows

abbrev pub job_in : List Row → MapJob
job_in rows = option_map_or query_of (value_in (codes "query") rows) (other_job_in rows)

-- the one of a list that has just one
abbrev pub only : List (List ℕ) → Option (List ℕ)
only [] = None
only (one ∷ []) = Some one
only (one ∷ other ∷ more) = None

-- what the options and the text of the table say, where the table is one that the job is for
abbrev pub map_with : List Row → List ℕ → ℕ → MapJob → Option MapWords
map_with rows table budget asked =
    if fits asked table then Some (record { job = asked; folded = not (has_flag (codes "unfolded") rows); table = table; budget = budget }) else None

-- what the options and the one word that is none say
abbrev pub map_by : List Row → Option MapWords
map_by rows = do
  table ← only (rest_in rows)
  budget ← budget_in (value_in (codes "budget") rows)
  map_with rows table budget (job_in rows)

-- what they say, where the options agree
unfoldable pub map_in : List Row → Option MapWords
map_in rows = if options_agree rows then map_by rows else None

-- what the words of postmap say; none where they are not of its forms
unfoldable pub map_of : List (List ℕ) → Option MapWords
map_of words = option_and_then map_in (rows_in postmap_app words)

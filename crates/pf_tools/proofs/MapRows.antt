-- Worked examples of what postmap prints, each by computation.
use Rattle.std.proofs.Common.{◌≡◌, true, false, List, [], ◌∷◌, map, None, Some, Ok, Err, refl, codes}
use Rattle.std.specs.Fmt.{digits}
use Rattle.pf_base.specs.Text.Lines.{lines, rest}
use Rattle.pf_base.specs.Text.Printing.{printed_line}
use Rattle.pf_base.specs.declared.pair.Pair.{Pair}
use Rattle.pf_asks.specs.Looking.{Meaning}
use Rattle.pf_table.specs.Tables.{fail_meaning, keyed_meaning}
use Rattle.pf_table.specs.declared.text.Repeated.{Repeated}
use Rattle.pf_tools.specs.Map.Built.{cdb_name, text_name, warnings_of}
use Rattle.pf_tools.specs.Map.Course.{keys_status, value_status}
use Rattle.pf_tools.specs.Map.Keys.{keys_of, whole_keys}
use Rattle.pf_tools.specs.Map.Lines.{has_value, key_lines, pair_lines, value_at, value_line}
use Rattle.pf_tools.specs.Map.Said.{text_of}
use Rattle.pf_tools.specs.declared.map.keys.Ended.TheVariants as ended
use Rattle.pf_tools.specs.declared.map.keys.KeysFault.TheVariants as fault
use Rattle.pf_base.specs.declared.outside.texts.SinkFault.TheVariants as sink

abbrev pairs : List Pair
pairs = record { key = codes "b"; value = codes "x" } ∷ record { key = codes "c d"; value = codes "z" } ∷ []

abbrev table : Meaning
table = keyed_meaning (record { folds = true; pairs = pairs })

values : map (value_at table) (codes "B" ∷ codes "c d" ∷ codes "q" ∷ [] ∷ []) ≡ Some (codes "x") ∷ Some (codes "z") ∷ None ∷ None ∷ []
values = refl

-- a table that fails at a key has no value for it
failing : value_at fail_meaning (codes "b") ≡ None
failing = refl

lines_of_values : map value_line (Some (codes "x") ∷ Some [] ∷ None ∷ []) ≡ codes "x\n" ∷ codes "\n" ∷ [] ∷ []
lines_of_values = refl

lines_of_pairs : pair_lines pairs ≡ codes "b\tx\nc d\tz\n"
lines_of_pairs = refl

-- the keys of an input: a carriage return before a line feed is none of a key, an empty line is a key, and so is what no line feed ends
keys_at_the_end : map keys_of (codes "B\r\n\nq" ∷ codes "B\n" ∷ codes "B\r" ∷ [] ∷ [])
    ≡ (codes "B" ∷ [] ∷ codes "q" ∷ []) ∷ (codes "B" ∷ []) ∷ (codes "B\r" ∷ []) ∷ [] ∷ []
unfolding lines rest
keys_at_the_end = refl

keys_at_the_budget : whole_keys (codes "B\r\n\nq") ≡ codes "B" ∷ [] ∷ []
unfolding lines
keys_at_the_budget = refl

-- a key as it is in the input is printed with the value of the table
answers : key_lines table (codes "B" ∷ codes "q" ∷ codes "C d" ∷ []) ≡ codes "B\tx\nC d\tz\n"
answers = refl

found : map (has_value table) ((codes "q" ∷ codes "B" ∷ []) ∷ (codes "q" ∷ []) ∷ [] ∷ []) ≡ true ∷ false ∷ false ∷ []
found = refl

statuses_of_values : map value_status (Some (codes "x") ∷ None ∷ []) ≡ 0 ∷ 1 ∷ []
statuses_of_values = refl

statuses_of_keys : map keys_status (Ok (ended.AtEnd true) ∷ Ok (ended.AtEnd false) ∷ Ok ended.AtBudget ∷ Err fault.Input ∷ Err (fault.Sink sink.Out) ∷ Err (fault.Sink sink.NoMemory) ∷ [])
    ≡ 0 ∷ 1 ∷ 10 ∷ 4 ∷ 5 ∷ 9 ∷ []
statuses_of_keys = refl

-- a text without a type names a cdb
types : map text_of (codes "t" ∷ codes "texthash:t" ∷ codes ":" ∷ []) ≡ codes "cdb:t" ∷ codes "texthash:t" ∷ codes ":" ∷ []
types = refl

-- the names of a text and of the cdb that is built of it
names : map text_name (codes "t" ∷ codes "cdb:t" ∷ codes "cdb:a:b" ∷ codes "cdb:" ∷ []) ≡ codes "t" ∷ codes "t" ∷ codes "a:b" ∷ [] ∷ []
names = refl

cdb_names : map cdb_name (codes "t" ∷ codes "cdb:t" ∷ []) ≡ codes "t.cdb" ∷ codes "t.cdb" ∷ []
cdb_names = refl

abbrev repeated : List Repeated
repeated = record { line = 2; key = codes "b" } ∷ record { line = 12; key = codes "c\td" } ∷ []

warnings : map (λ warned. warnings_of (codes "t") warned repeated) (true ∷ false ∷ [])
    ≡ codes "postgate: warning: t:2: duplicate entry: b\npostgate: warning: t:12: duplicate entry: c?d\n" ∷ [] ∷ []
unfolding printed_line digits
warnings = refl

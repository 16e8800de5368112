-- Worked examples of the definitions, each by computation.
use Rattle.std.proofs.Common.{◌≡◌, ℕ, true, false, List, [], ◌∷◌, Ok, Err, refl, codes}
use Rattle.pf_base.specs.declared.pair.Pair.{Pair}
use Rattle.pf_base.specs.Text.Words.{words_of}
use Rattle.pf_base.specs.declared.refused.Cause.TheVariants.{C1, C11}
use Rattle.pf_base.specs.declared.table_texts.TableId.{TableId}
use Rattle.pf_asks.specs.Heard.{marked, nothing}
use Rattle.pf_asks.specs.Looking.{answer_of}
use Rattle.pf_asks.specs.Questions.{Means, done, look, ◌>>=◌}
use Rattle.pf_asks.specs.declared.lookup.Found.TheVariants.{Value, Absent}
use Rattle.pf_asks.specs.declared.lookup.TableFault.TheVariants.{Fails, Failed}
use Rattle.pf_table.specs.Clauses.Memory.{values_of}
use Rattle.pf_table.specs.First.{first_of}
use Rattle.pf_base.specs.Refusal.{refused}
use Rattle.pf_table.specs.Inline.{inline_of}
use Rattle.pf_table.specs.Inline as inline
use Rattle.pf_table.specs.Line.{pair_of}
use Rattle.pf_table.specs.Pairs.{pairs_of}
use Rattle.pf_table.specs.Tables.{Keyed, fail_meaning, keyed_meaning, static_meaning}
use Rattle.pf_table.specs.Text.{text_read}
use Rattle.pf_table.specs.declared.line.Reason.TheVariants.{NoValue, QuoteNotClosed}
use Rattle.pf_table.specs.declared.pairs.Repeats.TheVariants.{First, Last}

abbrev pair : List ℕ → List ℕ → Pair
pair key value = record { key = key; value = value }

-- lines
key_and_value : pair_of true (codes "Joe  a b ") ≡ Ok (pair (codes "joe") (codes "a b"))
key_and_value = refl

as_it_stands : pair_of false (codes "Joe a") ≡ Ok (pair (codes "Joe") (codes "a"))
as_it_stands = refl

quoted_key : pair_of true (codes "\"a b\"@c.test d") ≡ Ok (pair (codes "a b@c.test") (codes "d"))
quoted_key = refl

taken_quote : pair_of true (codes "\"a\\\"b\" c") ≡ Ok (pair (codes "a\"b") (codes "c"))
taken_quote = refl

no_value : pair_of true (codes "a ") ≡ Err NoValue
no_value = refl

not_closed : pair_of true (codes "\"a b") ≡ Err QuoteNotClosed
not_closed = refl

-- repeated keys
abbrev three : List Pair
three = pair (codes "a") (codes "1") ∷ pair (codes "b") (codes "2") ∷ pair (codes "a") (codes "3") ∷ []

first_counts : pairs_of First three ≡ pair (codes "a") (codes "1") ∷ pair (codes "b") (codes "2") ∷ []
first_counts = refl

last_counts : pairs_of Last three ≡ pair (codes "a") (codes "3") ∷ pair (codes "b") (codes "2") ∷ []
last_counts = refl

-- tables
text_table : text_read (codes "t") true First (codes "B x\nb y\n\"c d\" z\n") ≡ Ok (record {
  table = record { folds = true; pairs = pair (codes "b") (codes "x") ∷ pair (codes "c d") (codes "z") ∷ [] };
  repeated = record { line = 2; key = codes "b" } ∷ [];
})
unfolding text_read
text_table = refl

text_refused : text_read (codes "t") true First (codes "a b\n\nc\n") ≡ Err (refused (codes "t") 3 C11 (codes "no value"))
unfolding text_read
text_refused = refl

text_continued : text_read (codes "t") true First (codes " a b") ≡ Err (refused (codes "t") 1 C1 [])
unfolding text_read
text_continued = refl

abbrev table : Keyed
table = record { folds = true; pairs = pair (codes "b") (codes "x") ∷ [] }

in_any_case : answer_of (keyed_meaning table) (codes "B") ≡ Ok (Value (codes "x"))
in_any_case = refl

another_key : answer_of (keyed_meaning table) (codes "c") ≡ Ok Absent
another_key = refl

static_value : answer_of (static_meaning (codes "OK")) (codes "c") ≡ Ok (Value (codes "OK"))
static_value = refl

failing_table : answer_of fail_meaning (codes "c") ≡ Err Fails
failing_table = refl

inline_table : inline_of (codes "main.cf") 7 true (codes "A=b, {c d = e f} a=g")
    ≡ Ok (record { folds = true; pairs = pair (codes "a") (codes "b") ∷ pair (codes "c d") (codes "e f") ∷ [] })
unfolding words_of
inline_table = refl

space_without_braces : inline_of (codes "main.cf") 7 true (codes "a={b c}") ≡ Err (inline.text_refused (codes "main.cf") 7 (codes "a={b c}"))
unfolding words_of
space_without_braces = refl

-- searches in a table of one key, in another one, and in one that is not there, which fails
abbrev means : Means
means = record {
  values = values_of ((pair (codes "example.com") (codes "1") ∷ []) ∷ (pair (codes "relay.test") (codes "OK") ∷ []) ∷ []);
  rows = [];
}

abbrev at : ℕ → TableId
at n = record { 0 = n }

value_of_the_second_table : first_of (at 0 ∷ at 1 ∷ []) (codes "relay.test") means nothing ≡ record { answer = Ok (Value (codes "OK")); left = nothing; asked = [] }
unfolding first_of look done ◌>>=◌
value_of_the_second_table = refl

in_no_table : first_of (at 0 ∷ at 1 ∷ []) (codes "other.test") means nothing ≡ record { answer = Ok Absent; left = nothing; asked = [] }
unfolding first_of look done ◌>>=◌
in_no_table = refl

table_that_fails : first_of (at 2 ∷ at 1 ∷ []) (codes "relay.test") means nothing ≡ record { answer = Err Fails; left = nothing; asked = [] }
unfolding first_of look done ◌>>=◌
table_that_fails = refl

marked_lookup : first_of (at 0 ∷ at 1 ∷ []) (codes "example.com") means (marked (true ∷ [])) ≡ record { answer = Err Failed; left = nothing; asked = [] }
unfolding first_of look done ◌>>=◌
marked_lookup = refl

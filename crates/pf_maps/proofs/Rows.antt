-- Worked examples of the definitions, each by computation.
use Rattle.std.proofs.Common.{◌≡◌, ◌++◌, ℕ, true, false, List, [], ◌∷◌, None, Some, Ok, Err, refl, codes}
use Rattle.std.specs.Str.{chars, is_utf8}
use Rattle.pf_base.specs.TableTexts.{TableTexts}
use Rattle.pf_base.specs.Text.Words.{words_of}
use Rattle.pf_base.specs.declared.pair.Pair.{Pair}
use Rattle.pf_base.specs.declared.refused.Cause.TheVariants.{C9, C10, C11}
use Rattle.pf_base.specs.declared.table_texts.TableText.{TableText}
use Rattle.pf_asks.specs.Looking.{answer_of}
use Rattle.pf_asks.specs.declared.lookup.Found.TheVariants.{Value, Absent}
use Rattle.pf_asks.specs.declared.lookup.Results.TheVariants.{Listed, Anything}
use Rattle.pf_asks.specs.declared.lookup.TableFault.TheVariants.{Fails}
use Rattle.pf_base.specs.Refusal.{refused}
use Rattle.pf_cdb.specs.Asked.{ends_in_null, without_null}
use Rattle.pf_listfile.specs.ListFile.{items_of}
use Rattle.pf_listfile.specs.declared.item.Pattern.TheVariants as pattern
use Rattle.pf_maps.specs.Cdb.{cdb_read, damage_text, values_of}
use Rattle.pf_maps.specs.Meanings.{meaning_of}
use Rattle.pf_maps.specs.Opening.{at_first, at_others, pcre_opened, tables_opened}
use Rattle.pf_maps.specs.Opening.{Event as events}
use Rattle.pf_maps.specs.Opening.{Unopened as unopened}
use Rattle.pf_maps.specs.Specification.{group_named, leaf, nodes_of, spec_of}
use Rattle.pf_maps.specs.declared.node.Node.{Node}
use Rattle.pf_maps.specs.declared.node.Node.TheVariants as node
use Rattle.pf_maps.specs.declared.specification.SpecNode.TheVariants as spec_node

abbrev pair : List ℕ → List ℕ → Pair
pair key value = record { key = key; value = value }

-- what texts name
of_a_value : spec_of (codes "main.cf") 7 (codes "static:{ a b }") ≡ Ok (spec_node.Fixed (codes "a b") ∷ [])
unfolding nodes_of leaf group_named
of_a_value = refl

of_others : spec_of (codes "main.cf") 7 (codes "unionmap:{pipemap:{static:a,fail:f},inline:{a=b}}")
    ≡ Ok (spec_node.Union 2 ∷ spec_node.Pipe 2 ∷ spec_node.Fixed (codes "a") ∷ spec_node.Fail ∷ spec_node.Inline (codes "a=b") ∷ [])
unfolding nodes_of leaf group_named words_of
of_others = refl

of_no_known_type : spec_of (codes "main.cf") 7 (codes "hash:t") ≡ Err (refused (codes "main.cf") 7 C9 (codes "hash:t"))
unfolding nodes_of leaf group_named
of_no_known_type = refl

of_no_member : spec_of (codes "main.cf") 7 (codes "pipemap:{}") ≡ Err (refused (codes "main.cf") 7 C9 (codes "pipemap:{}"))
unfolding nodes_of leaf group_named words_of
of_no_member = refl

of_a_list_file : spec_of (codes "main.cf") 7 (codes "/a:b") ≡ Ok (spec_node.ListFile (codes "/a:b") ∷ [])
unfolding is_utf8 chars lib.Utf8.encode
of_a_list_file = refl

list_file_in_a_union : spec_of (codes "main.cf") 7 (codes "unionmap:{/a}") ≡ Err (refused (codes "main.cf") 7 C9 (codes "unionmap:{/a}"))
unfolding nodes_of leaf group_named words_of
list_file_in_a_union = refl

-- unions and pipes that may be nested once
once_alone : nodes_of 1 (codes "unionmap:{static:a}") ≡ Some (spec_node.Union 1 ∷ spec_node.Fixed (codes "a") ∷ [])
unfolding nodes_of leaf group_named words_of
once_alone = refl

once_in_another : nodes_of 1 (codes "unionmap:{pipemap:{static:a}}") ≡ None
unfolding nodes_of leaf group_named words_of
once_in_another = refl

-- what tables mean
abbrev inline : List ℕ → List ℕ → Node
inline key value = node.Inline (record { folds = true; pairs = pair key value ∷ [] })

joined_values : answer_of (meaning_of (node.Union 2 ∷ inline (codes "k") (codes "x") ∷ inline (codes "k") (codes "y") ∷ [])) (codes "k") ≡ Ok (Value (codes "x,y"))
joined_values = refl

union_with_one_that_fails : answer_of (meaning_of (node.Union 2 ∷ inline (codes "k") (codes "x") ∷ node.Fail ∷ [])) (codes "k") ≡ Err Fails
union_with_one_that_fails = refl

pipe_in_turn : answer_of (meaning_of (node.Pipe 2 ∷ inline (codes "a") (codes "b") ∷ inline (codes "b") (codes "c") ∷ [])) (codes "a") ≡ Ok (Value (codes "c"))
pipe_in_turn = refl

pipe_that_breaks : answer_of (meaning_of (node.Pipe 2 ∷ inline (codes "a") (codes "b") ∷ inline (codes "c") (codes "d") ∷ [])) (codes "a") ≡ Ok Absent
pipe_that_breaks = refl

pipe_that_ends_before_one_that_fails : answer_of (meaning_of (node.Pipe 2 ∷ inline (codes "a") (codes "b") ∷ node.Fail ∷ [])) (codes "q") ≡ Ok Absent
pipe_that_ends_before_one_that_fails = refl

union_in_a_pipe : answer_of (meaning_of (node.Pipe 2 ∷ node.Union 2 ∷ node.Fixed (codes "b") ∷ node.Fixed (codes "c") ∷ inline (codes "b,c") (codes "d") ∷ [])) (codes "q")
    ≡ Ok (Value (codes "d"))
union_in_a_pipe = refl

results_of_one : (meaning_of (node.Union 1 ∷ inline (codes "k") (codes "x") ∷ [])).results ≡ Listed (codes "x" ∷ [])
results_of_one = refl

results_of_more : (meaning_of (node.Union 2 ∷ node.Fixed (codes "a") ∷ node.Fixed (codes "b") ∷ [])).results ≡ Anything
results_of_more = refl

results_of_the_last : (meaning_of (node.Pipe 2 ∷ node.Fixed (codes "a") ∷ node.Fixed (codes "b") ∷ [])).results ≡ Listed (codes "b" ∷ [])
results_of_the_last = refl

-- what a pair of a cdb file may give
null_after_key_and_value : values_of (pair (codes "k" ++ 0 ∷ []) (codes "v" ++ 0 ∷ [])) ≡ (codes "v" ++ 0 ∷ []) ∷ codes "v" ∷ []
unfolding ends_in_null without_null
null_after_key_and_value = refl

null_after_value : values_of (pair (codes "k") (codes "v" ++ 0 ∷ [])) ≡ (codes "v" ++ 0 ∷ []) ∷ []
unfolding ends_in_null
null_after_value = refl

too_short_for_a_header : cdb_read (codes "t.cdb") true [] ≡ Err (refused (codes "t.cdb") 0 C11 (codes "cdb header"))
unfolding damage_text
too_short_for_a_header = refl

-- of tables in turn, what is said of the second one
first_of_second : at_first {L = ℕ} (Some (1, 5)) ≡ None
first_of_second = refl

others_of_second : at_others {L = ℕ} (Some (1, 5)) ≡ Some (0, 5)
others_of_second = refl

-- tables that are opened
abbrev text : ℕ → List ℕ → TableText
text line bytes = record { line = line; text = bytes }

pair_in_a_text : tables_opened None [] true (record { file = codes "main.cf"; texts = text 7 (codes "inline:{A=b}") ∷ [] }) ≡ Ok ((inline (codes "a") (codes "b") ∷ []) ∷ [])
unfolding nodes_of leaf group_named words_of
pair_in_a_text = refl

first_refusal : tables_opened None [] true (record { file = codes "main.cf"; texts = text 7 (codes "static:a") ∷ text 8 (codes "hash:t") ∷ text 9 (codes "btree:t") ∷ [] })
    ≡ Err (unopened.refuses (refused (codes "main.cf") 8 C9 (codes "hash:t")))
unfolding nodes_of leaf group_named
first_refusal = refl

-- the second of two files in a union is not read: that of a first one that is not there is refused before it
abbrev absent_and_unreadable : TableTexts
absent_and_unreadable = record { file = codes "main.cf"; texts = text 7 (codes "unionmap:{texthash:absent,texthash:unreadable}") ∷ [] }

refused_before_the_read : tables_opened (Some (0, (2, events.read_fails))) [] true absent_and_unreadable ≡ Err (unopened.refuses (refused (codes "main.cf") 7 C10 (codes "absent")))
unfolding nodes_of leaf group_named words_of is_utf8 chars lib.Utf8.encode
refused_before_the_read = refl

read_that_fails : tables_opened (Some (0, (1, events.read_fails))) [] true absent_and_unreadable ≡ Err (unopened.fails (codes "absent"))
unfolding nodes_of leaf group_named words_of is_utf8 chars lib.Utf8.encode
read_that_fails = refl

-- a list file, of which the first item that matches decides
abbrev list_file : Node
list_file =
    node.ListFile (
    record { pattern = pattern.Name (codes "a.test"); excludes = true }
    ∷ record { pattern = pattern.Below (codes "test"); excludes = false }
    ∷ []
    )

items_of_a_file : tables_opened None (pair (codes "/l") (codes "!a.test .test") ∷ []) true (record { file = codes "main.cf"; texts = text 7 (codes "/l") ∷ [] })
    ≡ Ok ((list_file ∷ []) ∷ [])
unfolding items_of words_of is_utf8 chars lib.Utf8.encode
items_of_a_file = refl

first_item_decides : answer_of (meaning_of (list_file ∷ [])) (codes "a.test") ≡ Ok (Value (codes "no"))
first_item_decides = refl

key_of_a_list_of_domains : answer_of (meaning_of (list_file ∷ [])) (codes "@b.test") ≡ Ok Absent
key_of_a_list_of_domains = refl

-- of the file of a table of patterns, no line of which is too large
no_such_file : pcre_opened None [] (record { file = codes "main.cf"; line = 7 }) (codes "t") ≡ Err (unopened.refuses (refused (codes "main.cf") 7 C10 (codes "t")))
unfolding is_utf8 chars lib.Utf8.encode
no_such_file = refl

-- Worked examples of the definitions, each by computation.
use Rattle.std.proofs.Common.{◌≡◌, ℕ, true, false, List, [], ◌∷◌, None, Some, Ok, Err, refl, codes, map}
use Rattle.pf_base.specs.Text.Braces.{lone_brace, partner}
use Rattle.pf_base.specs.Outside.Counts.{counted, counted_by}
use Rattle.pf_base.specs.Outside.FileList.{file_of, whole_file, with_file}
use Rattle.pf_base.specs.Clauses.Gathering.{followed_by}
use Rattle.pf_base.specs.Text.Lines.{is_feed, lines, parts, rest, without_return}
use Rattle.pf_base.specs.Text.Logical.{grouped, is_ignored, logical_lines_of, physical_lines, starts_with_space}
use Rattle.pf_base.specs.Clauses.Memory.{fails_next, greatest_read}
use Rattle.pf_base.specs.Text.Names.{folded, is_host_name, is_label, is_label_byte, same_in_any_case}
use Rattle.pf_base.specs.Outside.Objects.{appended, sink_status, sinks}
use Rattle.pf_base.specs.Clauses.Pieces.{onto_line, unless_line}
use Rattle.pf_base.specs.Text.Printing.{printable, printed_line}
use Rattle.pf_base.specs.Refusal.{cause_text, name_part, refusal_line}
use Rattle.std.specs.Fmt.{digits}
use Rattle.pf_base.specs.Text.Space.{is_space, trimmed, without_leading_space, without_trailing_space}
use Rattle.pf_base.specs.Outside.Statuses.{is_among, without_fault}
use Rattle.pf_base.specs.TableTexts.{place_of, place_or_next, with_text}
use Rattle.pf_base.specs.Outside.Known.{Output}
use Rattle.pf_base.specs.Text.Words.{words_of}
use Rattle.pf_base.specs.declared.text.logical.TextFault.TheVariants.{Continuation}
use Rattle.pf_base.specs.declared.pair.Pair.{Pair}
use Rattle.pf_base.specs.declared.refused.Cause.TheVariants.{C2, C14}
use Rattle.pf_base.specs.declared.table_texts.TableText.{TableText}
use Rattle.pf_base.specs.declared.outside.texts.SinkFault.TheVariants as fault
use Rattle.pf_base.specs.declared.text.words.WordsFault.TheVariants.{Unbalanced}

-- a count
count_rises : counted 0 ≡ 1
count_rises = refl

count_by_many : counted_by 4 3 ≡ 7
count_by_many = refl

count_by_too_many : counted_by 4 18446744073709551613 ≡ 18446744073709551615
count_by_too_many = refl

count_stays : counted 18446744073709551615 ≡ 18446744073709551615
count_stays = refl

-- lines
ends_a_line : map is_feed (10 ∷ 13 ∷ []) ≡ true ∷ false ∷ []
ends_a_line = refl

parted_at_line_feeds : parts (codes "HELO a\r\nQUIT\n") ≡ codes "HELO a\r" ∷ codes "QUIT" ∷ [] ∷ []
parted_at_line_feeds = refl

two_lines : lines (codes "HELO a\r\nQUIT\n") ≡ codes "HELO a\r" ∷ codes "QUIT" ∷ []
unfolding lines
two_lines = refl

no_line_end : lines (codes "QUIT") ≡ []
unfolding lines
no_line_end = refl

empty_line : lines (codes "\n\nQ") ≡ [] ∷ [] ∷ []
unfolding lines
empty_line = refl

joins_first_line : onto_line (codes "QU") (codes "IT" ∷ codes "HELO" ∷ []) ≡ codes "QUIT" ∷ codes "HELO" ∷ []
joins_first_line = refl

joins_no_line : onto_line (codes "QU") [] ≡ []
joins_no_line = refl

behind_last_line : rest (codes "HELO a\nQU") ≡ codes "QU"
unfolding rest
behind_last_line = refl

behind_line_end : rest (codes "QUIT\n") ≡ []
unfolding rest
behind_line_end = refl

all_is_rest : rest (codes "QUIT") ≡ codes "QUIT"
unfolding rest
all_is_rest = refl

belongs_to_no_line : unless_line [] (codes "QU") (codes "IT") ≡ codes "QU"
belongs_to_no_line = refl

belongs_to_a_line : unless_line (codes "HELO" ∷ []) (codes "QU") (codes "IT") ≡ codes "IT"
belongs_to_a_line = refl

one_return_is_dropped : without_return (codes "QUIT\r\r") ≡ codes "QUIT\r"
one_return_is_dropped = refl

return_inside_stays : without_return (codes "QU\rIT") ≡ codes "QU\rIT"
return_inside_stays = refl

return_of_empty_line : without_return [] ≡ []
return_of_empty_line = refl

-- logical lines
comment_is_ignored : is_ignored (codes " \t# x") ≡ true
comment_is_ignored = refl

space_is_ignored : is_ignored (codes "  ") ≡ true
space_is_ignored = refl

setting_is_not_ignored : is_ignored (codes "a = b # c") ≡ false
setting_is_not_ignored = refl

tab_starts_with_space : starts_with_space (codes "\tb") ≡ true
tab_starts_with_space = refl

text_starts_without_space : starts_with_space (codes "b ") ≡ false
text_starts_without_space = refl

nothing_starts_without_space : starts_with_space [] ≡ false
nothing_starts_without_space = refl

numbered_lines : physical_lines (codes "a\r\nb") ≡ record { number = 1; text = codes "a" } ∷ record { number = 2; text = codes "b" } ∷ []
numbered_lines = refl

line_behind_last_end : physical_lines (codes "a\n") ≡ record { number = 1; text = codes "a" } ∷ record { number = 2; text = [] } ∷ []
line_behind_last_end = refl

continued_over_a_comment : logical_lines_of (codes "a = b,\n# c\n d\ne = f\n")
    ≡ Ok (record { line = 1; last = 3; text = codes "a = b, d" } ∷ record { line = 4; last = 4; text = codes "e = f" } ∷ [])
continued_over_a_comment = refl

continues_nothing : logical_lines_of (codes "# c\n\n a = b\n") ≡ Err (Continuation 3)
continues_nothing = refl

no_logical_line : logical_lines_of (codes "\n# c\n") ≡ Ok []
no_logical_line = refl

leading_lines : (grouped (record { number = 1; text = codes " a" } ∷ record { number = 2; text = codes "b" } ∷ [])).leading
    ≡ record { number = 1; text = codes " a" } ∷ []
leading_lines = refl

line_behind_an_open_one : (followed_by [] (Some (record { line = 1; last = 1; text = codes "a" }))
    (record { leading = record { number = 2; text = codes " b" } ∷ []; logical = [] })).logical ≡ record { line = 1; last = 2; text = codes "a b" } ∷ []
line_behind_an_open_one = refl

-- space
tab_is_space : is_space 9 ≡ true
tab_is_space = refl

return_is_no_space : is_space 13 ≡ false
return_is_no_space = refl

space_at_the_prefix : without_leading_space (codes "\t a b ") ≡ codes "a b "
space_at_the_prefix = refl

space_at_the_end : without_trailing_space (codes " a b\t ") ≡ codes " a b"
space_at_the_end = refl

space_at_both_ends : trimmed (codes "\ta b  ") ≡ codes "a b"
space_at_both_ends = refl

space_alone : trimmed (codes " \t ") ≡ []
space_alone = refl

-- names
underscore_in_a_label : is_label_byte 95 ≡ true
underscore_in_a_label = refl

dot_in_no_label : is_label_byte 46 ≡ false
dot_in_no_label = refl

longest_label : is_label (codes "abcdefghijklmnopqrstuvwxyzabcdefghijklmnopqrstuvwxyz01234567890") ≡ true
longest_label = refl

label_too_long : is_label (codes "abcdefghijklmnopqrstuvwxyzabcdefghijklmnopqrstuvwxyz012345678901") ≡ false
label_too_long = refl

empty_label : is_label [] ≡ false
empty_label = refl

host_name : is_host_name (codes "mx-1.example.com") ≡ true
host_name = refl

closing_dot : is_host_name (codes "example.com.") ≡ false
closing_dot = refl

two_dots : is_host_name (codes "mx..example.com") ≡ false
two_dots = refl

either_case : same_in_any_case (codes "Example.COM") (codes "example.com") ≡ true
either_case = refl

other_name : same_in_any_case (codes "example.com") (codes "example.org") ≡ false
other_name = refl

folded_letters : folded (codes "A[Z") ≡ codes "a[z"
folded_letters = refl

-- files
abbrev files : List Pair
files = record { key = codes "a"; value = codes "1" } ∷ record { key = codes "b"; value = codes "2" } ∷ []

file_there : file_of files (codes "b") ≡ Some (codes "2")
file_there = refl

file_absent : file_of files (codes "B") ≡ None
file_absent = refl

file_replaced : with_file files (codes "b") (codes "3") ≡ record { key = codes "a"; value = codes "1" } ∷ record { key = codes "b"; value = codes "3" } ∷ []
file_replaced = refl

file_added : with_file [] (codes "c") (codes "4") ≡ record { key = codes "c"; value = codes "4" } ∷ []
file_added = refl

whole_file_absent : whole_file None ≡ Ok None
whole_file_absent = refl

whole_file_there : whole_file (Some (codes "ab")) ≡ Ok (Some (codes "ab"))
whole_file_there = refl

-- what is written
abbrev empty : Output
empty = record { written = Some []; faults = 0 }

each_sink_takes_its_text : appended (sinks empty (record empty { written = None }) empty) (record { out = codes "a"; mail = codes "b"; log = codes "c" })
    ≡ sinks (record empty { written = Some (codes "a") }) (record empty { written = None }) (record empty { written = Some (codes "c") })
each_sink_takes_its_text = refl

statuses_without_a_fault : map (is_among without_fault) (0 ∷ 1 ∷ 2 ∷ 3 ∷ 4 ∷ 5 ∷ 6 ∷ 7 ∷ 8 ∷ 9 ∷ 10 ∷ [])
    ≡ true ∷ true ∷ true ∷ true ∷ false ∷ false ∷ false ∷ false ∷ false ∷ false ∷ true ∷ []
statuses_without_a_fault = refl

statuses_of_faults : map sink_status (fault.Out ∷ fault.Mail ∷ fault.Log ∷ fault.NoMemory ∷ []) ≡ 5 ∷ 6 ∷ 7 ∷ 9 ∷ []
statuses_of_faults = refl

-- calls in memory
second_call_fails : fails_next (record { failing = 2 ∷ []; made = 1; faults = 0 }) ≡ true
second_call_fails = refl

first_call_does_not : fails_next (record { failing = 2 ∷ []; made = 0; faults = 0 }) ≡ false
first_call_does_not = refl

size_of_second_read : greatest_read (7 ∷ 13 ∷ []) 2 ≡ 13
size_of_second_read = refl

last_size_is_repeated : greatest_read (7 ∷ 13 ∷ []) 9 ≡ 13
last_size_is_repeated = refl

size_of_none_counts_as_one : greatest_read (0 ∷ []) 1 ≡ 1
size_of_none_counts_as_one = refl

-- refusals
control_byte : printable 10 ≡ 63
control_byte = refl

high_byte : printable 228 ≡ 228
high_byte = refl

line_of_the_log : printed_line (codes "a\tb\u{7f}\n") ≡ codes "a?b??\n"
unfolding printed_line
line_of_the_log = refl

named_part : name_part (codes "a\nb") ≡ codes ": a\nb"
named_part = refl

no_name : name_part [] ≡ []
no_name = refl

text_of_a_cause : cause_text C14 ≡ codes "C14 setting outside the profile"
unfolding cause_text
text_of_a_cause = refl

line_with_a_name : refusal_line (record { file = codes "main.cf"; line = 12; cause = C14; name = codes "mydomain" })
    ≡ codes "postgate: main.cf:12: C14 setting outside the profile: mydomain\n"
unfolding refusal_line printed_line cause_text digits
line_with_a_name = refl

line_without_a_name : refusal_line (record { file = codes "main.cf"; line = 5; cause = C2; name = [] }) ≡ codes "postgate: main.cf:5: C2 no equals sign\n"
unfolding refusal_line printed_line cause_text digits
line_without_a_name = refl

-- braces
partner_of_a_brace : partner 0 (codes "a{b}c}d") ≡ Some 5
partner_of_a_brace = refl

no_partner : partner 0 (codes "a{b}") ≡ None
no_partner = refl

first_lone_brace : lone_brace 0 (codes "{a}{b{c}") ≡ Some 3
first_lone_brace = refl

lone_closing_brace : lone_brace 0 (codes "{a}} {") ≡ Some 3
lone_closing_brace = refl

no_lone_brace : lone_brace 0 (codes "{{}}{}") ≡ None
no_lone_brace = refl

-- words
words_by_separators : words_of (codes " a, b\tc\nd ,") ≡ Ok (codes "a" ∷ codes "b" ∷ codes "c" ∷ codes "d" ∷ [])
unfolding words_of
words_by_separators = refl

words_with_braces : words_of (codes "inline:{a=1, b=2} x{y z}w, v") ≡ Ok (codes "inline:{a=1, b=2}" ∷ codes "x{y z}w" ∷ codes "v" ∷ [])
unfolding words_of
words_with_braces = refl

no_words : words_of (codes " ,\n") ≡ Ok []
unfolding words_of
no_words = refl

words_of_a_lone_brace : words_of (codes "a, {b") ≡ Err (Unbalanced 3)
unfolding words_of
words_of_a_lone_brace = refl

-- table texts
abbrev text_at : ℕ → List ℕ → TableText
text_at line text = record { line = line; text = text }

a_new_text : with_text (text_at 2 (codes "cdb:a") ∷ []) (place_of (text_at 2 (codes "cdb:a") ∷ []) (codes "cdb:b")) 5 (codes "cdb:b")
    ≡ text_at 2 (codes "cdb:a") ∷ text_at 5 (codes "cdb:b") ∷ []
a_new_text = refl

a_text_that_is_there : with_text (text_at 2 (codes "cdb:a") ∷ []) (place_of (text_at 2 (codes "cdb:a") ∷ []) (codes "cdb:a")) 5 (codes "cdb:a")
    ≡ text_at 2 (codes "cdb:a") ∷ []
a_text_that_is_there = refl

place_of_the_next : place_or_next (text_at 2 (codes "cdb:a") ∷ []) (place_of (text_at 2 (codes "cdb:a") ∷ []) (codes "cdb:b")) ≡ 1
place_of_the_next = refl

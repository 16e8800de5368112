-- Worked examples of the definitions, each by computation.
use Rattle.std.proofs.Common.{◌≡◌, [], ◌∷◌, None, Some, Ok, Err, List, ℕ, true, false, map, refl, codes}
use Rattle.std.specs.List.{list_all}
use Rattle.std.specs.Str.{chars, is_utf8}
use Rattle.pf_base.specs.Text.Lines.{lines, rest}
use Rattle.pf_base.specs.Text.Printing.{printed_line}
use Rattle.pf_base.specs.declared.text.logical.Logical.{Logical}
use Rattle.pf_base.specs.declared.pair.Pair.{Pair}
use Rattle.pf_base.specs.declared.outside.reading.ReadFault.TheVariants.{TooLarge}
use Rattle.pf_base.specs.declared.refused.Cause.TheVariants.{C1, C2, C3, C10, C15}
use Rattle.pf_maincf.specs.Edit.{AreAssignments, Line, blocks_from, differ, edited, edited_by, is_ended, is_writable, lines_in, placed, assignment_line}
use Rattle.pf_maincf.specs.File.{bytes_in, conf_name, failed_line, text_read}
use Rattle.pf_base.specs.Refusal.{refused}
use Rattle.pf_maincf.specs.Settings.{conf_of, conf_with, is_name, is_name_byte, last_setting, or_refused, setting_of, settings_in, settings_of}
use Rattle.pf_maincf.specs.declared.setting.Setting.{Setting}

-- two settings, and a line without an equals sign
abbrev first : Setting
first = record { line = 1; name = codes "a"; value = codes "1" }

abbrev second : Setting
second = record { line = 2; name = codes "b"; value = codes "2" }

abbrev bare : Logical
bare = record { line = 5; last = 6; text = codes "a b c" }

-- a setting of a line
parted_at_the_first_equals_sign : setting_of (record { line = 3; last = 4; text = codes "a\t = b = c " })
    ≡ Some (record { line = 3; name = codes "a"; value = codes "b = c" })
parted_at_the_first_equals_sign = refl

no_value : setting_of (record { line = 1; last = 1; text = codes "a = " }) ≡ Some (record { line = 1; name = codes "a"; value = [] })
no_value = refl

no_name : setting_of (record { line = 1; last = 1; text = codes "=b" }) ≡ Some (record { line = 1; name = []; value = codes "b" })
no_name = refl

space_inside_stays : setting_of (record { line = 1; last = 1; text = codes "a b=c\td" })
    ≡ Some (record { line = 1; name = codes "a b"; value = codes "c\td" })
space_inside_stays = refl

number_sign_is_a_plain_byte : setting_of (record { line = 1; last = 1; text = codes "a = b # c" })
    ≡ Some (record { line = 1; name = codes "a"; value = codes "b # c" })
number_sign_is_a_plain_byte = refl

no_equals_sign : setting_of bare ≡ None
no_equals_sign = refl

-- names
names : list_all is_name (codes "myhostname" ∷ codes "a" ∷ codes "smtpd_recipient_restrictions" ∷
    codes "127.0.0.1:25_x" ∷ codes "#a" ∷ codes "!~" ∷ []) ≡ true
names = refl

bad_names : map is_name ([] ∷ codes "a b" ∷ codes "a\tb" ∷ codes "$a" ∷ codes "a{" ∷ codes "}a" ∷
    codes "(a" ∷ codes "a)" ∷ (97 ∷ 127 ∷ []) ∷ (195 ∷ 164 ∷ []) ∷ (97 ∷ 0 ∷ []) ∷ [])
    ≡ false ∷ false ∷ false ∷ false ∷ false ∷ false ∷ false ∷ false ∷ false ∷ false ∷ false ∷ []
bad_names = refl

bytes_of_names : map is_name_byte (32 ∷ 33 ∷ 126 ∷ 127 ∷
    36 ∷ 40 ∷ 41 ∷ 123 ∷ 124 ∷ 125 ∷ []) ≡ false ∷ true ∷ true ∷ false ∷ false ∷ false ∷ false ∷ false ∷ true ∷ false ∷ []
bytes_of_names = refl

-- refusals
names_nothing : refused (codes "main.cf") 5 C2 [] ≡ record { file = codes "main.cf"; line = 5; cause = C2; name = [] }
names_nothing = refl

-- a setting or its refusal
setting_of_a_line : or_refused (codes "main.cf") bare (Some first) ≡ Ok first
setting_of_a_line = refl

refusal_at_the_first_physical_line : or_refused (codes "main.cf") bare None ≡ Err (record { file = codes "main.cf"; line = 5; cause = C2; name = [] })
refusal_at_the_first_physical_line = refl

bad_name : or_refused (codes "main.cf") bare (Some (record { line = 5; name = []; value = codes "1" }))
    ≡ Err (record { file = codes "main.cf"; line = 5; cause = C3; name = [] })
bad_name = refl

-- settings of logical lines
no_line : settings_of (codes "main.cf") [] ≡ Ok []
no_line = refl

same_in_any_case_twice : settings_of (codes "main.cf")
    (record { line = 1; last = 1; text = codes "a=1" } ∷ record { line = 2; last = 3; text = codes "a=2" } ∷ [])
    ≡ Ok (record { line = 1; name = codes "a"; value = codes "1" } ∷ record { line = 2; name = codes "a"; value = codes "2" } ∷ [])
same_in_any_case_twice = refl

first_bare_line : settings_of (codes "main.cf")
    (record { line = 1; last = 1; text = codes "a=1" } ∷ bare ∷ record { line = 7; last = 7; text = codes "c" } ∷ [])
    ≡ Err (record { file = codes "main.cf"; line = 5; cause = C2; name = [] })
first_bare_line = refl

bad_name_before_a_bare_line : settings_of (codes "main.cf") (record { line = 1; last = 1; text = codes "a b = 1" } ∷ bare ∷ [])
    ≡ Err (record { file = codes "main.cf"; line = 1; cause = C3; name = [] })
bad_name_before_a_bare_line = refl

bare_line_before_a_bad_name : settings_of (codes "main.cf") (bare ∷ record { line = 7; last = 7; text = codes "= 1" } ∷ [])
    ≡ Err (record { file = codes "main.cf"; line = 5; cause = C2; name = [] })
bare_line_before_a_bad_name = refl

-- settings of lines that are grouped
lines_there : settings_in (codes "main.cf") (record { leading = []; logical = record { line = 1; last = 1; text = codes "a=1" } ∷ [] }) ≡ Ok (first ∷ [])
lines_there = refl

continuation_is_refused : settings_in (codes "main.cf") (record { leading = record { number = 3; text = codes " a=1" } ∷ []; logical = [] })
    ≡ Err (record { file = codes "main.cf"; line = 3; cause = C1; name = [] })
continuation_is_refused = refl

-- settings of a file
settings_there : conf_with (codes "main.cf") (Ok (first ∷ [])) ≡ Ok (record { file = codes "main.cf"; settings = first ∷ [] })
settings_there = refl

refusal_instead : conf_with (codes "main.cf") (Err (refused (codes "main.cf") 5 C2 [])) ≡ Err (refused (codes "main.cf") 5 C2 [])
refusal_instead = refl

-- texts
comments_and_a_continued_line : conf_of (codes "main.cf")
    (codes "# top\nmyhostname = mx.example.com\nmynetworks = 10.0.0.0/8,\r\n  # c\n 192.0.2.8/32")
    ≡ Ok (record {
      file = codes "main.cf";
      settings = record { line = 2; name = codes "myhostname"; value = codes "mx.example.com" }
          ∷ record { line = 3; name = codes "mynetworks"; value = codes "10.0.0.0/8, 192.0.2.8/32" } ∷ [];
    })
unfolding conf_of
comments_and_a_continued_line = refl

equals_sign_in_the_second_line : conf_of (codes "main.cf") (codes "a\n\t=b\n")
    ≡ Ok (record { file = codes "main.cf"; settings = record { line = 1; name = codes "a"; value = codes "b" } ∷ [] })
unfolding conf_of
equals_sign_in_the_second_line = refl

empty_file : conf_of (codes "main.cf") [] ≡ Ok (record { file = codes "main.cf"; settings = [] })
unfolding conf_of
empty_file = refl

continuation_of_nothing : conf_of (codes "main.cf") (codes "\n# c\n a = b\n")
    ≡ Err (record { file = codes "main.cf"; line = 3; cause = C1; name = [] })
unfolding conf_of
continuation_of_nothing = refl

continuation_before_a_bare_line : conf_of (codes "main.cf") (codes " a\nb\n")
    ≡ Err (record { file = codes "main.cf"; line = 1; cause = C1; name = [] })
unfolding conf_of
continuation_before_a_bare_line = refl

first_of_two_bare_lines : conf_of (codes "main.cf") (codes "a = b\n\nc\nd\n")
    ≡ Err (record { file = codes "main.cf"; line = 3; cause = C2; name = [] })
unfolding conf_of
first_of_two_bare_lines = refl

no_name_is_refused : conf_of (codes "main.cf") (codes "a = 1\n\n= b\n")
    ≡ Err (record { file = codes "main.cf"; line = 3; cause = C3; name = [] })
unfolding conf_of
no_name_is_refused = refl

name_in_two_lines_is_refused : conf_of (codes "main.cf") (codes "a\n b = c\n")
    ≡ Err (record { file = codes "main.cf"; line = 1; cause = C3; name = [] })
unfolding conf_of
name_in_two_lines_is_refused = refl

-- the setting that counts
last_one_counts : last_setting (first ∷ second ∷ record { line = 3; name = codes "a"; value = codes "3" } ∷ []) (codes "a")
    ≡ Some (record { line = 3; name = codes "a"; value = codes "3" })
last_one_counts = refl

only_one_counts : last_setting (first ∷ second ∷ []) (codes "a") ≡ Some first
only_one_counts = refl

capital_is_another_name : last_setting (first ∷ second ∷ []) (codes "A") ≡ None
capital_is_another_name = refl

none_is_set : last_setting [] (codes "a") ≡ None
none_is_set = refl

-- settings that an edit writes
abbrev set_to : List ℕ → List ℕ → Setting
set_to name value = record { line = 7; name = name; value = value }

sets_of_one_line : list_all is_writable (set_to (codes "a") (codes "1, 2") ∷ set_to (codes "a#") [] ∷ set_to (codes "a") (codes "b = #c") ∷ []) ≡ true
sets_of_one_line = refl

no_assignments_of_one_line : map is_writable
    (set_to [] (codes "1") ∷ set_to (codes "a b") (codes "1") ∷ set_to (codes "a=") (codes "1") ∷ set_to (codes "#a") (codes "1") ∷ set_to (codes "a") (codes " 1")
    ∷ set_to (codes "a") (codes "1\t") ∷ set_to (codes "a") (codes "1\n2") ∷ set_to (codes "a") (codes "1\r") ∷ [])
    ≡ false ∷ false ∷ false ∷ false ∷ false ∷ false ∷ false ∷ false ∷ []
no_assignments_of_one_line = refl

all_differ : differ (codes "a" ∷ codes "A" ∷ codes "b" ∷ []) ≡ true
all_differ = refl

two_alike : differ (codes "a" ∷ codes "b" ∷ codes "a" ∷ []) ≡ false
two_alike = refl

two_assignments : AreAssignments (set_to (codes "a") (codes "1") ∷ set_to (codes "b") [] ∷ [])
two_assignments = record { each = refl; once = refl }

line_of_an_assignment : assignment_line (set_to (codes "a") (codes "1 2")) ≡ codes "a = 1 2\n"
line_of_an_assignment = refl

line_of_an_empty_value : assignment_line (set_to (codes "a") []) ≡ codes "a = \n"
line_of_an_empty_value = refl

-- where an assignment is
at_the_last_of_its_name : placed (first ∷ second ∷ record { line = 3; name = codes "a"; value = codes "3" } ∷ []) (set_to (codes "a") (codes "4"))
    ≡ record { line = 3; name = codes "a"; value = codes "4" }
at_the_last_of_its_name = refl

nowhere : placed (first ∷ second ∷ []) (set_to (codes "c") (codes "4")) ≡ record { line = 0; name = codes "c"; value = codes "4" }
nowhere = refl

-- the logical lines of a text as they are
abbrev ended_by_a_feed : List ℕ → Line
ended_by_a_feed text = record { text = text; feed = codes "\n" }

lines_in_blocks : blocks_from 1 (lines_in (codes "# top\na = 1\n\t2\r\n # mid\nb = 3\n"))
    ≡ record {
      prefix = ended_by_a_feed (codes "# top") ∷ [];
      blocks = record { line = 2; lines = ended_by_a_feed (codes "a = 1") ∷ ended_by_a_feed (codes "\t2\r") ∷ ended_by_a_feed (codes " # mid") ∷ [] }
          ∷ record { line = 5; lines = ended_by_a_feed (codes "b = 3") ∷ record { text = []; feed = [] } ∷ [] } ∷ [];
    }
unfolding lines rest
lines_in_blocks = refl

assignment_in_a_block : edited_by (record { line = 2; lines = ended_by_a_feed (codes "a = 1") ∷ ended_by_a_feed (codes "# c") ∷ ended_by_a_feed (codes " 2") ∷ [] })
    (Some (record { line = 2; name = codes "a"; value = codes "3" }))
    ≡ codes "a = 3\n# c\n"
assignment_in_a_block = refl

ended_texts : map is_ended ([] ∷ codes "a\n" ∷ codes "\n\n" ∷ codes "a" ∷ codes "a\nb" ∷ codes "a\n\r" ∷ [])
    ≡ false ∷ true ∷ true ∷ false ∷ false ∷ false ∷ []
unfolding rest
ended_texts = refl

-- edits
abbrev relay_domains : Setting
relay_domains = set_to (codes "relay_domains") (codes "example.org")

continued_setting_with_a_comment_inside : edited (codes "main.cf")
    (codes "# top\nrelay_domains = example.net\n  , example.org\n# mid\nmyhostname = mx.example.com\n") (relay_domains ∷ [])
    ≡ Ok (codes "# top\nrelay_domains = example.org\n# mid\nmyhostname = mx.example.com\n")
unfolding edited conf_of lines rest
continued_setting_with_a_comment_inside = refl

ignored_lines_come_behind : edited (codes "main.cf") (codes "a = 1\n # c\n 2\n \t\n\n 3\nb = 4\n") (set_to (codes "a") (codes "5") ∷ [])
    ≡ Ok (codes "a = 5\n # c\n \t\n\nb = 4\n")
unfolding edited conf_of lines rest
ignored_lines_come_behind = refl

last_of_a_name_gives_way : edited (codes "main.cf") (codes "a = 1\nb = 2\na = 3\nb = 4\n") (set_to (codes "a") (codes "5") ∷ [])
    ≡ Ok (codes "a = 1\nb = 2\na = 5\nb = 4\n")
unfolding edited conf_of lines rest
last_of_a_name_gives_way = refl

returns_stay_where_nothing_is_set : edited (codes "main.cf") (codes "a = 1\r\n 2\r\n\r\nb = 3\r\n") (set_to (codes "a") (codes "5") ∷ [])
    ≡ Ok (codes "a = 5\n\r\nb = 3\r\n")
unfolding edited conf_of lines rest
returns_stay_where_nothing_is_set = refl

no_last_line_feed : edited (codes "main.cf") (codes "a = 1\nb = 2") (set_to (codes "a") (codes "5") ∷ []) ≡ Ok (codes "a = 5\nb = 2")
unfolding edited conf_of lines rest
no_last_line_feed = refl

last_line_gives_way : edited (codes "main.cf") (codes "a = 1\nb = 2") (set_to (codes "b") [] ∷ []) ≡ Ok (codes "a = 1\nb = \n")
unfolding edited conf_of lines rest
last_line_gives_way = refl

empty_value_with_a_comment_inside : edited (codes "main.cf") (codes "# top\na = 1,\n  # c\n  2\nb = 3\n") (set_to (codes "a") [] ∷ [])
    ≡ Ok (codes "# top\na = \n  # c\nb = 3\n")
unfolding edited conf_of lines rest
empty_value_with_a_comment_inside = refl

empty_value_is_read_back : conf_of (codes "main.cf") (codes "# top\na = \n  # c\nb = 3\n")
    ≡ Ok (record {
      file = codes "main.cf";
      settings = record { line = 2; name = codes "a"; value = [] } ∷ record { line = 4; name = codes "b"; value = codes "3" } ∷ [];
    })
unfolding conf_of
empty_value_is_read_back = refl

new_names_behind_a_line_feed : edited (codes "main.cf") (codes "a = 1\n# c")
    (set_to (codes "c") (codes "3") ∷ set_to (codes "a") (codes "2") ∷ set_to (codes "b") [] ∷ [])
    ≡ Ok (codes "a = 2\n# c\nc = 3\nb = \n")
unfolding edited conf_of lines rest
new_names_behind_a_line_feed = refl

empty_text : edited (codes "main.cf") [] (set_to (codes "a") (codes "1") ∷ []) ≡ Ok (codes "\na = 1\n")
unfolding edited conf_of lines rest
empty_text = refl

nothing_set : edited (codes "main.cf") (codes "a=1\r\n  \n 2") [] ≡ Ok (codes "a=1\r\n  \n 2")
unfolding edited conf_of lines rest
nothing_set = refl

refused_text_is_not_edited : edited (codes "main.cf") (codes "a = 1\nb\n") (set_to (codes "a") (codes "5") ∷ [])
    ≡ Err (record { file = codes "main.cf"; line = 2; cause = C2; name = [] })
unfolding edited conf_of lines rest
refused_text_is_not_edited = refl

-- main.cf as a file
names_of_files : map conf_name (None ∷ Some (codes "/etc/postgate") ∷ Some [] ∷ []) ≡ codes "main.cf" ∷ codes "/etc/postgate/main.cf" ∷ codes "/main.cf" ∷ []
names_of_files = refl

abbrev files : List Pair
files = record { key = codes "main.cf"; value = codes "a = 1" } ∷ record { key = codes "x/main.cf"; value = [] } ∷ record { key = codes "Y/main.cf"; value = [] } ∷ []

bytes_of_files : map (bytes_in files) (codes "main.cf" ∷ codes "x/main.cf" ∷ codes "y/main.cf" ∷ []) ≡ Some (codes "a = 1") ∷ Some [] ∷ None ∷ []
unfolding is_utf8 chars lib.Utf8.encode
bytes_of_files = refl

texts_of_files : map (text_read (codes "f")) (Ok (Some (codes "a = 1")) ∷ Ok None ∷ Err TooLarge ∷ [])
    ≡ Ok (codes "a = 1") ∷ Err (record { file = codes "f"; line = 0; cause = C10; name = codes "f" }) ∷ Err (record { file = codes "f"; line = 0; cause = C15; name = codes "f" }) ∷ []
texts_of_files = refl

failed_read : failed_line (codes "d\n/main.cf") (codes "read") ≡ codes "postgate: d?/main.cf: read failed\n"
unfolding printed_line
failed_read = refl

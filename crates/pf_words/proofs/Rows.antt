-- Worked examples of the definitions, each by computation.
use Rattle.std.proofs.Common.{◌≡◌, ℕ, true, false, List, [], ◌∷◌, map, Option, None, Some, option_map, refl, codes}
use Rattle.std.specs.List.{slice_split}
use Rattle.std.specs.Net.Addr.{ipv4_bits, ipv6_bits}
use Rattle.std.specs.Net.Reader.{read_ipv4, read_ipv6, read_number, read_octet, read_segment, read_segments}
use Rattle.std.specs.Prelude.{◌==◌, ⊤}
use Rattle.clap.specs.Words.{fault_of}
use Rattle.clap.specs.declared.error.kind.ErrorKind.TheVariants as kind
use Rattle.clap.proofs.OnLiterals.{clap_on_literals}
use Rattle.pf_maincf.specs.declared.setting.Setting.{Setting}
use Rattle.pf_cidr.specs.Addresses.{address_of}
use Rattle.pf_cidr.specs.declared.address.Addr.TheVariants.{V4, V6}
use Rattle.pf_words.specs.Commands.{bare_app, postconf_app, smtpd_app, with_flag, with_option, with_rest}
use Rattle.pf_words.specs.Found.{has_flag, rows_in, value_in}
use Rattle.pf_table.specs.declared.pairs.Repeats.TheVariants.{First, Last}
use Rattle.pf_base.specs.Text.Numbers.{decimal_within, is_decimal}
use Rattle.pf_words.specs.Numbers.{budget_of}
use Rattle.pf_words.specs.Postconf.{conf_in, conf_of}
use Rattle.pf_words.specs.Assignments.{assignment_of_word, assignments_of_words}
use Rattle.pf_words.specs.Postmap.{can_build, can_list, map_in, map_of}
use Rattle.pf_words.specs.Smtpd.{smtpd_in, smtpd_of}
use Rattle.pf_words.specs.Words.{log_name, mail_name, words_of}
use Rattle.pf_words.specs.declared.postconf.ConfMode.TheVariants as mode
use Rattle.pf_words.specs.declared.postconf.ConfWords.{ConfWords}
use Rattle.pf_words.specs.declared.postconf.Shape.TheVariants as shape
use Rattle.pf_words.specs.declared.postmap.MapJob.TheVariants as job
use Rattle.pf_words.specs.declared.postmap.MapWords.{MapWords}
use Rattle.pf_words.specs.declared.smtpd.SmtpdWords.{SmtpdWords}
use Rattle.pf_words.specs.declared.words.Words.{Words}
use Rattle.pf_words.specs.declared.words.Words.TheVariants.{Smtpd, Postconf, Postmap}

-- what a proof opens to see the commands
unfoldable given_to_clap : ⊤
unfolding bare_app with_flag with_option with_rest
given_to_clap = tt

-- the words of a line in which single blanks part them; two blanks have an empty word between them
abbrev words_in : List ℕ → List (List ℕ)
words_in = slice_split (λ b. b == 32)

-- what a line says
abbrev said : List ℕ → Option Words
said line = words_of (words_in line)

-- digits
decimals : map is_decimal (codes "0" ∷ codes "1" ∷ codes "10" ∷ codes "00" ∷ codes "01" ∷ codes "1a" ∷ codes "/" ∷ codes ":" ∷ codes "+1" ∷ [] ∷ [])
    ≡ true ∷ true ∷ true ∷ false ∷ false ∷ false ∷ false ∷ false ∷ false ∷ false ∷ []
decimals = refl

decimals_within : map (decimal_within 407) (codes "407" ∷ codes "408" ∷ codes "0" ∷ codes "07" ∷ []) ≡ Some 407 ∷ None ∷ Some 0 ∷ None ∷ []
decimals_within = refl

-- budgets
ends_of_budgets : map budget_of (codes "1" ∷ codes "4294967296" ∷ codes "4294967297" ∷ codes "99999999999999999999" ∷ [])
    ≡ Some 1 ∷ Some 4294967296 ∷ None ∷ None ∷ []
unfolding budget_of
ends_of_budgets = refl

no_budgets : map budget_of (codes "0" ∷ codes "01" ∷ codes "-1" ∷ codes "1 " ∷ [] ∷ []) ≡ None ∷ None ∷ None ∷ None ∷ None ∷ []
unfolding budget_of
no_budgets = refl

-- words that set a parameter
abbrev set : List ℕ → List ℕ → Setting
set name value = record { line = 0; name = name; value = value }

first_equals_sign : map assignment_of_word (codes "a=b" ∷ codes "a=" ∷ codes "a=b=c" ∷ codes "a=b c" ∷ [])
    ≡ Some (set (codes "a") (codes "b")) ∷ Some (set (codes "a") []) ∷ Some (set (codes "a") (codes "b=c"))
    ∷ Some (set (codes "a") (codes "b c")) ∷ []
unfolding assignment_of_word
first_equals_sign = refl

names_that_no_word_sets : map assignment_of_word (codes "a" ∷ codes "=b" ∷ codes "#a=b" ∷ codes "a$=b" ∷ codes "a =b" ∷ [] ∷ [])
    ≡ None ∷ None ∷ None ∷ None ∷ None ∷ None ∷ []
unfolding assignment_of_word
names_that_no_word_sets = refl

values_that_no_word_sets : map assignment_of_word (codes "a= b" ∷ codes "a=b\t" ∷ codes "a=b\nc" ∷ codes "a=b\r" ∷ codes "a=\r" ∷ [])
    ≡ None ∷ None ∷ None ∷ None ∷ None ∷ []
unfolding assignment_of_word
values_that_no_word_sets = refl

carriage_return_inside : assignment_of_word (codes "a=b\rc") ≡ Some (set (codes "a") (codes "b\rc"))
unfolding assignment_of_word
carriage_return_inside = refl

names_differ : map assignments_of_words (words_in (codes "a=1 b=1") ∷ words_in (codes "a=1 b=1 a=2") ∷ words_in (codes "a=1 b") ∷ [] ∷ [])
    ≡ Some (set (codes "a") (codes "1") ∷ set (codes "b") (codes "1") ∷ []) ∷ None ∷ None ∷ Some [] ∷ []
unfolding assignments_of_words assignment_of_word
names_differ = refl

-- the kinds of clap's faults: a value twice, none, no such option
faults_of_words : map (λ line. fault_of smtpd_app (words_in line)) (codes "smtpd -m a -m b" ∷ codes "smtpd -m" ∷ codes "smtpd -z" ∷ codes "smtpd -m a" ∷ [])
    ≡ (kind.ArgumentConflict ∷ []) ∷ (kind.InvalidValue ∷ []) ∷ (kind.UnknownArgument ∷ []) ∷ [] ∷ []
unfolding given_to_clap clap_on_literals
faults_of_words = refl

flags_found : map (λ line. option_map (has_flag (codes "set")) (rows_in postconf_app (words_in line))) (codes "postconf -n" ∷ codes "postconf true" ∷ codes "postconf -z" ∷ [])
    ≡ Some true ∷ Some false ∷ None ∷ []
unfolding rows_in given_to_clap clap_on_literals
flags_found = refl

values_found : map (λ line. option_map (value_in (codes "mail")) (rows_in smtpd_app (words_in line))) (codes "smtpd -m a" ∷ codes "smtpd -l a" ∷ [])
    ≡ Some (Some (codes "a")) ∷ Some None ∷ []
unfolding rows_in given_to_clap clap_on_literals
values_found = refl

-- smtpd
abbrev smtpd : SmtpdWords
smtpd = record { folder = None; client = V4 167838211; mail = codes "mail"; log = None; budget = 4294967296 }

client_and_mail : map said (codes "smtpd -p 10.1.2.3 -m mail" ∷ codes "smtpd -m mail -p 10.1.2.3" ∷ [])
    ≡ Some (Smtpd smtpd) ∷ Some (Smtpd smtpd) ∷ []
unfolding words_of smtpd_of smtpd_in rows_in given_to_clap clap_on_literals address_of ipv4_bits ipv6_bits read_ipv4 read_ipv6 read_number read_octet read_segment read_segments
client_and_mail = refl

clients_of_ipv6 : map said (codes "smtpd -p ::1 -m mail" ∷ codes "smtpd -p::ffff:10.1.2.3 -m mail" ∷ codes "smtpd -p [::1] -m mail" ∷ [])
    ≡ Some (Smtpd (record smtpd { client = V6 1 })) ∷ Some (Smtpd (record smtpd { client = V6 0xffff0a010203 })) ∷ None ∷ []
unfolding words_of smtpd_of smtpd_in rows_in given_to_clap clap_on_literals address_of ipv4_bits ipv6_bits read_ipv4 read_ipv6 read_number read_octet read_segment read_segments
clients_of_ipv6 = refl

values_in_the_same_word : map said (codes "smtpd -p10.1.2.3 -m=mail" ∷ codes "smtpd -p 10.1.2.3 -m==mail --" ∷ codes "smtpd -p 10.1.2.3 -m=" ∷ [])
    ≡ Some (Smtpd smtpd) ∷ Some (Smtpd (record smtpd { mail = codes "=mail" })) ∷ Some (Smtpd (record smtpd { mail = [] })) ∷ []
unfolding words_of smtpd_of smtpd_in rows_in given_to_clap clap_on_literals address_of ipv4_bits ipv6_bits read_ipv4 read_ipv6 read_number read_octet read_segment read_segments
values_in_the_same_word = refl

all_options : said (codes "smtpd -b 7 -l log -c etc -m mail -p 10.1.2.3")
    ≡ Some (Smtpd (record smtpd { folder = Some (codes "etc"); log = Some (codes "log"); budget = 7 }))
unfolding words_of smtpd_of smtpd_in rows_in given_to_clap clap_on_literals address_of ipv4_bits ipv6_bits read_ipv4 read_ipv6 read_number read_octet read_segment read_segments budget_of
all_options = refl

dash_and_empty_word : map said (codes "smtpd -p 10.1.2.3 -m - -l -" ∷ codes "smtpd -m  -p 10.1.2.3" ∷ [])
    ≡ Some (Smtpd (record smtpd { mail = codes "-"; log = Some (codes "-") })) ∷ Some (Smtpd (record smtpd { mail = [] })) ∷ []
unfolding words_of smtpd_of smtpd_in rows_in given_to_clap clap_on_literals address_of ipv4_bits ipv6_bits read_ipv4 read_ipv6 read_number read_octet read_segment read_segments
dash_and_empty_word = refl

option_is_no_value : map said (codes "smtpd -p 10.1.2.3 -m -l" ∷ codes "smtpd -p 10.1.2.3 -m -x" ∷ codes "smtpd -p 10.1.2.3 -m -- mail" ∷ [])
    ≡ None ∷ None ∷ None ∷ []
unfolding words_of smtpd_of smtpd_in rows_in given_to_clap clap_on_literals address_of ipv4_bits ipv6_bits read_ipv4 read_ipv6 read_number read_octet read_segment read_segments
option_is_no_value = refl

one_of_the_two_is_missing : map said (codes "smtpd -p 10.1.2.3" ∷ codes "smtpd -m mail" ∷ codes "smtpd" ∷ codes "smtpd -p 10.1.2.3 -m" ∷ [])
    ≡ None ∷ None ∷ None ∷ None ∷ []
unfolding words_of smtpd_of smtpd_in rows_in given_to_clap clap_on_literals address_of ipv4_bits ipv6_bits read_ipv4 read_ipv6 read_number read_octet read_segment read_segments
one_of_the_two_is_missing = refl

bad_values : map said (codes "smtpd -p 10.1.2 -m mail" ∷ codes "smtpd -p 10.1.2.3 -m mail -b 0" ∷ codes "smtpd -p 10.1.2.3 -m mail -b " ∷ [])
    ≡ None ∷ None ∷ None ∷ []
unfolding words_of smtpd_of smtpd_in rows_in given_to_clap clap_on_literals address_of ipv4_bits ipv6_bits read_ipv4 read_ipv6 read_number read_octet read_segment read_segments budget_of
bad_values = refl

option_twice : map said (codes "smtpd -p 10.1.2.3 -m mail -m mail" ∷ codes "smtpd -p 10.1.2.3 -l a -m mail -l=a" ∷ []) ≡ None ∷ None ∷ []
unfolding words_of smtpd_of smtpd_in rows_in given_to_clap clap_on_literals address_of ipv4_bits ipv6_bits read_ipv4 read_ipv6 read_number read_octet read_segment read_segments
option_twice = refl

other_words : map said (codes "smtpd -p 10.1.2.3 -m mail -h" ∷ codes "smtpd -p 10.1.2.3 -m mail --help" ∷ codes "smtpd -p 10.1.2.3 -m mail more" ∷ [])
    ≡ None ∷ None ∷ None ∷ []
unfolding words_of smtpd_of smtpd_in rows_in given_to_clap clap_on_literals address_of ipv4_bits ipv6_bits read_ipv4 read_ipv6 read_number read_octet read_segment read_segments
other_words = refl

-- postconf
abbrev all : ConfWords
all = record { mode = mode.All; expanded = false; shape = shape.Both; folder = None; over = None; rest = [] }

abbrev edit : ConfWords
edit = record all { mode = mode.Edit }

all_settings : map said (codes "postconf" ∷ codes "postconf myhostname  - mydomain" ∷ codes "postconf -- -n" ∷ [])
    ≡ Some (Postconf all) ∷ Some (Postconf (record all { rest = codes "myhostname" ∷ [] ∷ codes "-" ∷ codes "mydomain" ∷ [] }))
    ∷ Some (Postconf (record all { rest = codes "-n" ∷ [] })) ∷ []
unfolding words_of conf_of conf_in rows_in given_to_clap clap_on_literals
all_settings = refl

options_and_names : said (codes "postconf a -n b -h -c etc -x")
    ≡ Some (Postconf (record all { mode = mode.Set; expanded = true; shape = shape.Values; folder = Some (codes "etc"); rest = codes "a" ∷ codes "b" ∷ [] }))
unfolding words_of conf_of conf_in rows_in given_to_clap clap_on_literals
options_and_names = refl

joined_flags : map said (codes "postconf -dH" ∷ codes "postconf -xnc=etc a" ∷ [])
    ≡ Some (Postconf (record all { mode = mode.Defaults; shape = shape.Names }))
    ∷ Some (Postconf (record all { mode = mode.Set; expanded = true; folder = Some (codes "etc"); rest = codes "a" ∷ [] })) ∷ []
unfolding words_of conf_of conf_in rows_in given_to_clap clap_on_literals
joined_flags = refl

setting_over_the_others : map said (codes "postconf -o a=b=c" ∷ codes "postconf -oa=" ∷ codes "postconf -o=a=b -n" ∷ [])
    ≡ Some (Postconf (record all { over = Some (codes "a=b=c") })) ∷ Some (Postconf (record all { over = Some (codes "a=") }))
    ∷ Some (Postconf (record all { mode = mode.Set; over = Some (codes "a=b") })) ∷ []
unfolding words_of conf_of conf_in rows_in given_to_clap clap_on_literals assignment_of_word
setting_over_the_others = refl

no_setting_over_the_others : map said (codes "postconf -o a" ∷ codes "postconf -o =b" ∷ codes "postconf -o a=b -o c=d" ∷ codes "postconf -o" ∷ [])
    ≡ None ∷ None ∷ None ∷ None ∷ []
unfolding words_of conf_of conf_in rows_in given_to_clap clap_on_literals assignment_of_word
no_setting_over_the_others = refl

two_of_an_or : map said (codes "postconf -n -d" ∷ codes "postconf -hH" ∷ codes "postconf -nxd a" ∷ []) ≡ None ∷ None ∷ None ∷ []
unfolding words_of conf_of conf_in rows_in given_to_clap clap_on_literals
two_of_an_or = refl

flags_that_are_none : map said (codes "postconf -nn" ∷ codes "postconf -n a -n" ∷ codes "postconf -z" ∷ codes "postconf -n=a" ∷ codes "postconf --names" ∷ [])
    ≡ None ∷ None ∷ None ∷ None ∷ None ∷ []
unfolding words_of conf_of conf_in rows_in given_to_clap clap_on_literals
flags_that_are_none = refl

edits : map said (codes "postconf -e a=1 b=" ∷ codes "postconf -c etc a=1 -e" ∷ [])
    ≡ Some (Postconf (record edit { rest = codes "a=1" ∷ codes "b=" ∷ [] }))
    ∷ Some (Postconf (record edit { folder = Some (codes "etc"); rest = codes "a=1" ∷ [] })) ∷ []
unfolding words_of conf_of conf_in rows_in given_to_clap clap_on_literals assignments_of_words assignment_of_word
edits = refl

no_edits : map said (codes "postconf -e" ∷ codes "postconf -e a" ∷ codes "postconf -e a=1 a=2" ∷ codes "postconf -e a=1 #b=2" ∷ [])
    ≡ None ∷ None ∷ None ∷ None ∷ []
unfolding words_of conf_of conf_in rows_in given_to_clap clap_on_literals assignments_of_words assignment_of_word
no_edits = refl

edit_or_print : map said (codes "postconf -e -n a=1" ∷ codes "postconf -eh a=1" ∷ codes "postconf -e -x a=1" ∷ codes "postconf -e -o b=1 a=1" ∷ [])
    ≡ None ∷ None ∷ None ∷ None ∷ []
unfolding words_of conf_of conf_in rows_in given_to_clap clap_on_literals assignments_of_words assignment_of_word
edit_or_print = refl

-- postmap
abbrev pairs : MapWords
pairs = record { job = job.Elements; folded = true; table = codes "texthash:t"; budget = 4294967296 }

builds : map said (codes "postmap t" ∷ codes "postmap -w cdb:t" ∷ codes "postmap -fr cdb:a:b" ∷ [])
    ≡ Some (Postmap (record pairs { job = job.Build First true; table = codes "t" })) ∷ Some (Postmap (record pairs { job = job.Build First false; table = codes "cdb:t" }))
    ∷ Some (Postmap (record pairs { job = job.Build Last false; folded = false; table = codes "cdb:a:b" })) ∷ []
unfolding words_of map_of map_in rows_in given_to_clap clap_on_literals
builds = refl

no_builds : map said (codes "postmap texthash:t" ∷ codes "postmap -r -w t" ∷ codes "postmap -r -q key t" ∷ codes "postmap -ws t" ∷ codes "postmap -b 7 t" ∷ codes "postmap" ∷ [])
    ≡ None ∷ None ∷ None ∷ None ∷ None ∷ None ∷ []
unfolding words_of map_of map_in rows_in given_to_clap clap_on_literals budget_of
no_builds = refl

queries : map said (codes "postmap -q key texthash:t" ∷ codes "postmap -fqkey texthash:t" ∷ codes "postmap texthash:t -q=key" ∷ [])
    ≡ Some (Postmap (record pairs { job = job.Query (codes "key") })) ∷ Some (Postmap (record pairs { job = job.Query (codes "key"); folded = false }))
    ∷ Some (Postmap (record pairs { job = job.Query (codes "key") })) ∷ []
unfolding words_of map_of map_in rows_in given_to_clap clap_on_literals
queries = refl

keys_of_the_input : map said (codes "postmap -q - texthash:t" ∷ codes "postmap -q - -b 7 texthash:t" ∷ [])
    ≡ Some (Postmap (record pairs { job = job.QueryInput })) ∷ Some (Postmap (record pairs { job = job.QueryInput; budget = 7 })) ∷ []
unfolding words_of map_of map_in rows_in given_to_clap clap_on_literals budget_of
keys_of_the_input = refl

no_budget : map said (codes "postmap -q key -b 7 t" ∷ codes "postmap -s -b 7 t" ∷ codes "postmap -q - -b 0 t" ∷ []) ≡ None ∷ None ∷ None ∷ []
unfolding words_of map_of map_in rows_in given_to_clap clap_on_literals budget_of
no_budget = refl

all_pairs : map said (codes "postmap -s texthash:t" ∷ codes "postmap -sf t" ∷ codes "postmap -s cidr:t" ∷ codes "postmap -s -q key t" ∷ codes "postmap -s a b" ∷ codes "postmap -s" ∷ [])
    ≡ Some (Postmap pairs) ∷ Some (Postmap (record pairs { folded = false; table = codes "t" })) ∷ None ∷ None ∷ None ∷ None ∷ []
unfolding words_of map_of map_in rows_in given_to_clap clap_on_literals
all_pairs = refl

built_types : map can_build (codes "t" ∷ codes "cdb:t" ∷ codes "cdb:" ∷ codes "cdb:a:b" ∷ codes "texthash:t" ∷ codes ":t" ∷ [])
    ≡ true ∷ true ∷ true ∷ true ∷ false ∷ false ∷ []
built_types = refl

listed_types : map can_list (codes "t" ∷ codes "cdb:t" ∷ codes "inline:{}" ∷ codes "texthash:a:b" ∷ codes ":t" ∷ codes "static:a" ∷ codes "/t" ∷ [])
    ≡ true ∷ true ∷ true ∷ true ∷ false ∷ false ∷ true ∷ []
listed_types = refl

-- other commands
no_such_command : map words_of ([] ∷ words_in [] ∷ words_in (codes "Smtpd -p 10.1.2.3 -m mail") ∷ words_in (codes "postmaps a") ∷ words_in (codes "-n postconf") ∷ [])
    ≡ None ∷ None ∷ None ∷ None ∷ None ∷ []
unfolding words_of
no_such_command = refl

-- the names of the files
names_of_files : map (λ words. mail_name words) (Some (Smtpd smtpd) ∷ Some (Postconf all) ∷ None ∷ []) ≡ Some (codes "mail") ∷ None ∷ None ∷ []
names_of_files = refl

name_of_the_log : map (λ words. log_name words) (Some (Smtpd (record smtpd { log = Some [] })) ∷ Some (Smtpd smtpd) ∷ Some (Postconf all) ∷ []) ≡ Some [] ∷ None ∷ None ∷ []
name_of_the_log = refl

-- The words of smtpd: smtpd [-c folder] -p client -m mail [-l log] [-b budget]. They are postgate's own.
use Rattle.std.specs.Prelude.{ℕ, List, Option, Some, None, codes}
use Rattle.std.specs.Option.{option_and_then}
use Rattle.clap.specs.Words.{Row}
use Rattle.pf_base.specs.Options.{◌>>=◌}
use Rattle.pf_cidr.specs.Addresses.{address_of}
use Rattle.pf_words.specs.Commands.{smtpd_app}
use Rattle.pf_words.specs.Found.{rows_in, value_in}
use Rattle.pf_words.specs.Numbers.{budget_of, greatest_budget}
use Rattle.pf_words.specs.declared.smtpd.SmtpdWords.{SmtpdWords}

-- the budget of -b, without it the greatest
abbrev pub budget_in : Option (List ℕ) → Option ℕ
budget_in None = Some greatest_budget
budget_in (Some text) = budget_of text

-- what the options say: -p and -m have to be, the value of -p is an address and that of -b a budget
unfoldable pub smtpd_in : List Row → Option SmtpdWords
smtpd_in rows = do
  address ← value_in (codes "client") rows
  client ← address_of address
  mail ← value_in (codes "mail") rows
  budget ← budget_in (value_in (codes "budget") rows)
  Some (record {
    folder = value_in (codes "folder") rows;
    client = client;
    mail = mail;
    log = value_in (codes "log") rows;
    budget = budget;
  })

-- what the words of smtpd say; none where they are not of its form
unfoldable pub smtpd_of : List (List ℕ) → Option SmtpdWords
smtpd_of words = option_and_then smtpd_in (rows_in smtpd_app words)

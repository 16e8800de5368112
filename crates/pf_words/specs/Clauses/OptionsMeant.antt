-- What the options of the code stand for. A word of the code's contracts.
use Rattle.std.specs.Prelude.{option_map}
use Rattle.pf_words.specs.declared.smtpd.Options.{Options}
use Rattle.pf_words.specs.declared.smtpd.SmtpdWords.{SmtpdWords}

-- the texts of the names, and the numbers
abbrev pub options_meant : Options → SmtpdWords
options_meant options = record {
  folder = option_map (λ name. name.now) options.folder;
  client = options.client;
  mail = options.mail.now;
  log = option_map (λ name. name.now) options.log;
  budget = options.budget;
}

-- Which main.cf is refused, and as which: the first that applies of the checks, in their order. Codes and order are postgate's own;
-- postconf(5), smtpd_relay_restrictions, asks for a restriction that closes the server in the relay or the recipient list; only the relay list
-- is built, and reject_unauth_destination alone closes it.
use Rattle.std.specs.Prelude.{ℕ, List, [], Option, None, Some, Result, Ok, Err, is_none, is_some, if◌then◌else◌}
use Rattle.std.specs.List.{find, fold}
use Rattle.std.specs.Option.{option_map, option_map_or, option_or}
use Rattle.pf_base.specs.Results.{◌>>=◌}
use Rattle.pf_base.specs.declared.refused.Cause.TheVariants.{C7, C14}
use Rattle.pf_base.specs.declared.refused.Refused.{Refused}
use Rattle.pf_catalogue.specs.Catalogue.{catalogue}
use Rattle.pf_maincf.specs.File.{conf_text}
use Rattle.pf_maincf.specs.Settings.{Conf, conf_of}
use Rattle.pf_params.specs.Classes.{class_names, class_rows}
use Rattle.pf_params.specs.Parameters.{refusal_of, refusals, with_lesser}
use Rattle.pf_params.specs.Settled.{settled}
use Rattle.pf_top.specs.Opening.{items_named, opening_of, relay_list}
use Rattle.pf_top.specs.Profile.{first_refused}
use Rattle.pf_top.specs.declared.opening.Opening.{Opening}
use Rattle.pf_top.specs.Values.{relay_of, restriction_of}

-- the parameters and the classes of restrictions, together in byte order of their names
abbrev pub names_refusal : Conf → Option Refused
names_refusal s = fold with_lesser (first_refused s catalogue) (refusals s (class_rows s (class_names s)))

-- a word of the relay list that is no restriction
abbrev pub word_refused : Conf → List ℕ → Refused
word_refused s word = record (refusal_of s relay_list C7) { name = word }

-- the first such word of these
abbrev pub word_refusal : Conf → List (List ℕ) → Option Refused
word_refusal s items = option_map (word_refused s) (find (λ word. is_none (restriction_of word)) items)

-- none of these words closes the relay list
abbrev pub closing_refusal : Conf → List (List ℕ) → Option Refused
closing_refusal s items = if is_some (relay_of items) then None else Some (refusal_of s relay_list C14)

-- the relay list: its words are restrictions, and one of them closes it
abbrev pub relay_refusal : Conf → List (List ℕ) → Option Refused
relay_refusal s items = option_or (word_refusal s items) (closing_refusal s items)

-- the settings: the parameters and classes first, then the relay list
unfoldable pub settings_refusal : Conf → Option Refused
settings_refusal s = option_or (names_refusal s) (relay_refusal s (items_named s relay_list))

-- what settings say, or their first refusal
abbrev pub settings_opened : Conf → Result Opening Refused
settings_opened s = option_map_or Err (settings_refusal s) (Ok (opening_of s))

-- what the text of a main.cf says, or its first refusal
abbrev pub text_opened : List ℕ → List ℕ → Result Opening Refused
text_opened file text = do
  conf ← conf_of file text
  settings_opened (settled conf [])

-- what a main.cf says, or its first refusal, which may be that it is absent or above 64 MiB
abbrev pub file_opened : List ℕ → Option (List ℕ) → Result Opening Refused
file_opened file bytes = do
  text ← conf_text file bytes
  text_opened file text

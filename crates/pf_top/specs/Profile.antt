-- The parameters that a session can be set up with, and the first that is refused (postconf(5), and docs/PROFILE.md for those that are built).
-- The causes of refusals and their order are postgate's own.
use Rattle.std.specs.Prelude.{ℕ, ◌||◌, Bool, not, List, [], ◌∷◌, Option, None, Some, Result, Ok, Err, is_some, codes, if◌then◌else◌}
use Rattle.std.specs.Option.{option_map, option_or}
use Rattle.std.specs.Str.{bytes_eq}
use Rattle.pf_base.specs.Text.Names.{is_host_name}
use Rattle.pf_base.specs.declared.refused.Cause.{Cause}
use Rattle.pf_base.specs.declared.refused.Cause.TheVariants.{C14}
use Rattle.pf_base.specs.declared.refused.Refused.{Refused}
use Rattle.pf_catalogue.specs.Catalogue.{Row}
use Rattle.pf_catalogue.specs.Values.{items_in}
use Rattle.pf_maincf.specs.Settings.{Conf, is_set}
use Rattle.pf_params.specs.Parameters.{reading_of, refusal_of}
use Rattle.pf_params.specs.declared.readings.Reading.{Reading}
use Rattle.pf_top.specs.Values.{hosts_of, nets_of}

-- a parameter that may have any text
abbrev pub is_free : List ℕ → Bool
is_free name = bytes_eq name (codes "mail_name") || bytes_eq name (codes "mydomain") || bytes_eq name (codes "smtpd_banner")

-- what is read of a parameter of this name, set or not, is within what is built: mydestination names hosts, myhostname one, and
-- mynetworks networks, the relay list is set, and a parameter that is not built is not set
abbrev pub is_within : List ℕ → Bool → Reading → Bool
is_within name set reading =
    if bytes_eq name (codes "mydestination") then is_some (hosts_of (items_in reading.value))
    else (if bytes_eq name (codes "myhostname") then is_host_name reading.text
    else (if bytes_eq name (codes "mynetworks") then is_some (nets_of (items_in reading.value))
    else (if bytes_eq name (codes "smtpd_relay_restrictions") then set
    else is_free name || not set)))

-- the cause of a parameter's refusal: first that of its value and its kind, then that it is not within what is built
abbrev pub cause_from : List ℕ → Bool → Result Reading Cause → Option Cause
cause_from name set (Err cause) = Some cause
cause_from name set (Ok reading) = if is_within name set reading then None else Some C14

-- the refusal of a parameter
unfoldable pub parameter_refusal : Conf → Row → Option Refused
parameter_refusal s row = option_map (refusal_of s row.name) (cause_from row.name (is_set s row.name) (reading_of s row))

-- the first refusal of these parameters in order
abbrev pub first_refused : Conf → List Row → Option Refused
first_refused s [] = None
first_refused s (row ∷ rows) = option_or (parameter_refusal s row) (first_refused s rows)

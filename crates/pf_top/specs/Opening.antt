-- What a main.cf says of a session (postconf(5), and docs/PROFILE.md for the parameters that are built).
use Rattle.std.specs.Prelude.{ℕ, List, [], Option, Some, None, Result, Ok, Err, codes}
use Rattle.std.specs.Option.{option_and_then, option_map_or, unwrap_or}
use Rattle.pf_base.specs.declared.refused.Cause.{Cause}
use Rattle.pf_catalogue.specs.Catalogue.{place_of, row_at}
use Rattle.pf_catalogue.specs.Values.{items_in}
use Rattle.pf_cidr.specs.declared.address.Addr.{Addr}
use Rattle.pf_maincf.specs.Settings.{Conf}
use Rattle.pf_params.specs.Parameters.{reading_of}
use Rattle.pf_params.specs.declared.readings.Reading.{Reading}
use Rattle.pf_smtp.specs.declared.state.Setup.{Setup}
use Rattle.pf_top.specs.Values.{nets_of, relay_of}
use Rattle.pf_top.specs.declared.opening.Opening.{Opening}

-- the name of the relay list
abbrev pub relay_list : List ℕ
relay_list = codes "smtpd_relay_restrictions"

-- what is read of a parameter, where it is not refused
abbrev pub read_well : Result Reading Cause → Option Reading
read_well (Ok reading) = Some reading
read_well (Err cause) = None

-- what is read of the parameter of a name
unfoldable pub reading_named : Conf → List ℕ → Option Reading
reading_named s name = option_and_then (λ place. read_well (reading_of s (row_at place))) (place_of name)

-- its value, and the items of that
abbrev pub text_named : Conf → List ℕ → List ℕ
text_named s name = option_map_or (λ (reading : Reading). reading.text) (reading_named s name) []

abbrev pub items_named : Conf → List ℕ → List (List ℕ)
items_named s name = option_map_or (λ (reading : Reading). items_in reading.value) (reading_named s name) []

-- what settings that are not refused say of a session
unfoldable pub opening_of : Conf → Opening
opening_of s = record {
  host = text_named s (codes "myhostname");
  banner = text_named s (codes "smtpd_banner");
  policy = record {
    destinations = items_named s (codes "mydestination");
    networks = unwrap_or (nets_of (items_named s (codes "mynetworks"))) [];
    relay = unwrap_or (relay_of (items_named s relay_list)) [];
  };
}

-- what the session with a client is set up with
abbrev pub setup_of : Opening → Addr → Setup
setup_of opening client = record { host = opening.host; banner = opening.banner; policy = opening.policy; client = client }

-- The value of a name (postconf(5), main.cf format; mydomain for the default that is taken out of myhostname). The limit on depth is
-- postgate's own.
use Rattle.std.specs.Prelude.{ℕ, zero, suc, List, Option, None, Some, Ok, Err, codes, drop, ◌+◌, ◌==◌, if◌then◌else◌}
use Rattle.std.specs.List.{position}
use Rattle.std.specs.Str.{bytes_eq}
use Rattle.pf_base.specs.Text.Ascii as ascii
use Rattle.pf_base.specs.Meanings.{Source}
use Rattle.pf_base.specs.declared.meaning.Meaning.TheVariants.{Is, DomainOf}
use Rattle.pf_expand.specs.Expansion.{Answer, text_value}
use Rattle.pf_expand.specs.declared.flaw.Flaw.TheVariants.{TooDeep}

-- what names stand for, with one that stands for something else now
abbrev pub with_source : (List ℕ → Source) → List ℕ → Source → List ℕ → Source
with_source sources set source name = if bytes_eq set name then source else sources name

-- a host name past its first dot, `localdomain` where it has none
abbrev pub past_dot : List ℕ → Option ℕ → List ℕ
past_dot host None = codes "localdomain"
past_dot host (Some place) = drop (place + 1) host

abbrev pub domain_in : List ℕ → List ℕ
domain_in host = past_dot host (position (λ b. b == ascii.dot) host)

abbrev pub domain_of : Answer → Answer
domain_of (Ok host) = Ok (domain_in host)
domain_of (Err flaw) = Err flaw

-- the value of what a name stands for, where names have these values
abbrev pub source_value : (List ℕ → Answer) → Source → Answer
source_value values (Is text) = text_value values text
source_value values (DomainOf name) = domain_of (values name)

-- the value of a name, with so many levels left
unfoldable pub name_value : (List ℕ → Source) → ℕ → List ℕ → Answer
name_value sources zero name = Err TooDeep
name_value sources (suc n) name = source_value (name_value sources n) (sources name)

-- the most levels of names
abbrev pub depth_limit : ℕ
depth_limit = 100

-- the value of a text, where names stand for these
abbrev pub expanded : (List ℕ → Source) → List ℕ → Answer
expanded sources bytes = text_value (name_value sources depth_limit) bytes

-- What lists of domains and nets are asked (postconf(5), mydestination, relay_domains, mynetworks; DATABASE_README).
use Rattle.std.specs.Prelude.{ℕ, ◌==◌, ◌&&◌, nat_lt, List, [], ◌∷◌, None, Some, length, map, if◌then◌else◌}
use Rattle.pf_base.specs.Text.Ascii as ascii
use Rattle.pf_base.specs.Text.Names.{folded}
use Rattle.pf_cidr.specs.Addresses.{printed}
use Rattle.pf_cidr.specs.declared.address.Addr.{Addr}
use Rattle.pf_class.specs.declared.subject.Subject.{Subject}

-- these domains in turn, which are in small letters: a list file is asked for each after an at sign
abbrev pub domains_subject : List (List ℕ) → Subject
domains_subject domains = record { keys = domains; file_keys = map (λ domain. ascii.at_sign ∷ domain) domains; address = None }

-- a domain, in small letters
abbrev pub domain_subject : List ℕ → Subject
domain_subject domain = domains_subject (folded domain ∷ [])

-- the parents of a domain: what is after each of its dots, unless it is empty
abbrev pub parents : List ℕ → List (List ℕ)
parents [] = []
parents (b ∷ domain) = if b == ascii.dot && nat_lt 0 (length domain) then domain ∷ parents domain else parents domain

-- a domain in small letters, and then its parents
abbrev pub subdomain_subject : List ℕ → Subject
subdomain_subject domain = domains_subject (folded domain ∷ parents (folded domain))

-- an address: tables and list files are asked for it as it is printed
abbrev pub address_subject : Addr → Subject
address_subject address = record { keys = printed address ∷ []; file_keys = printed address ∷ []; address = Some address }

-- Worked examples of the definitions, each by computation.
use Rattle.std.proofs.Common.{◌≡◌, ◌∷◌, ℕ, List, [], Option, Some, None, refl, codes}
use Rattle.std.specs.Prelude.{map}
use Rattle.pf_addr.specs.Grammar.{IsSpelling, is_at_domain, is_literal_byte, is_lone_byte, is_name_byte, is_plain_byte, is_route}
use Rattle.pf_addr.specs.Printed.{escaped, is_atom_byte, printed, printed_domain, printed_local}
use Rattle.pf_addr.specs.Spelled.{bare, between, bracketed, dot_string, first_path, is_domain, local_part, mailbox, mailbox_with_domain, path, path_of, quoted_string, routed_mailbox}
use Rattle.pf_addr.specs.declared.address.Address.{Address}
use Rattle.pf_addr.specs.declared.address.Path.TheVariants.{Null, To}
use Rattle.pf_addr.specs.declared.address.PathRead.{PathRead}
use Rattle.pf_addr.proofs.SpelledLemmas.{path_of_reads, path_of_sound}

abbrev address : List ℕ → List ℕ → Address
address local domain = record { local = local; domain = domain }

abbrev to : List ℕ → List ℕ → ℕ → Option (PathRead Address)
to local domain end = Some (record { path = To (address local domain); end = end })

-- texts that spell a path
abbrev spellings : List (List ℕ)
spellings =
    codes "<>"
    ∷ codes "  <> SIZE=1"
    ∷ codes "<john@example.com>"
    ∷ codes " <john@example.com> SIZE=10"
    ∷ codes "<john@example.com>SIZE=10"
    ∷ codes "john@example.com SIZE=10"
    ∷ codes "postmaster"
    ∷ codes "<postmaster>"
    ∷ codes "<a@b@example.com>"
    ∷ codes "<\"a b\\\"@c\"@[192.0.2.1]>"
    ∷ codes "<\"\"@example.com>"
    ∷ codes "<@one.test,@two.test:john@example.com>"
    ∷ codes "<@a@example.com>"
    ∷ codes "<a%b.test@example.com>"
    ∷ codes "<john@[IPv6:2001:db8::1]>"
    ∷ codes "<john@.example..com.>"
    ∷ []

abbrev paths : List (Option (PathRead Address))
paths =
    Some (record { path = Null; end = 2 })
    ∷ Some (record { path = Null; end = 4 })
    ∷ to (codes "john") (codes "example.com") 18
    ∷ to (codes "john") (codes "example.com") 19
    ∷ to (codes "john") (codes "example.com") 18
    ∷ to (codes "john") (codes "example.com") 16
    ∷ to (codes "postmaster") [] 10
    ∷ to (codes "postmaster") [] 12
    ∷ to (codes "a@b") (codes "example.com") 17
    ∷ to (codes "a b\"@c") (codes "[192.0.2.1]") 23
    ∷ to [] (codes "example.com") 16
    ∷ to (codes "john") (codes "example.com") 38
    ∷ to (codes "@a") (codes "example.com") 16
    ∷ to (codes "a%b.test") (codes "example.com") 22
    ∷ to (codes "john") (codes "[IPv6:2001:db8::1]") 25
    ∷ to (codes "john") (codes ".example..com.") 21
    ∷ []

spellings_are_read : map path_of spellings ≡ paths
unfolding path_of first_path path bare bracketed routed_mailbox mailbox mailbox_with_domain is_domain local_part dot_string quoted_string between is_at_domain is_literal_byte is_lone_byte is_name_byte is_plain_byte is_route
spellings_are_read = refl

-- texts that spell none
abbrev no_spellings : List (List ℕ)
no_spellings =
    []
    ∷ codes " "
    ∷ codes "<"
    ∷ codes ">"
    ∷ codes "< >"
    ∷ codes "<john@example.com"
    ∷ codes "john@example.com>"
    ∷ codes "< john@example.com>"
    ∷ codes "<john@example.com >"
    ∷ codes "<john@>"
    ∷ codes "<@example.com>"
    ∷ codes "<@one.test:>"
    ∷ codes "<@one.test john@example.com>"
    ∷ codes "<a@[b@c]>"
    ∷ codes "<\"a\"b@example.com>"
    ∷ codes "<\"a@example.com>"
    ∷ codes "john(x)@example.com"
    ∷ codes "a,b"
    ∷ []

abbrev nothing : List (List ℕ) → List (Option (PathRead Address))
nothing texts = map (λ text. None) texts

no_spellings_are_not_read : map path_of no_spellings ≡ nothing no_spellings
unfolding path_of first_path path bare bracketed routed_mailbox mailbox mailbox_with_domain is_domain local_part dot_string quoted_string between is_at_domain is_literal_byte is_lone_byte is_name_byte is_plain_byte is_route
no_spellings_are_not_read = refl

-- the same in the words of the grammar
reads_two_at_signs : path_of (codes "<a@b@example.com>") ≡ to (codes "a@b") (codes "example.com") 17
unfolding path_of first_path path bare bracketed routed_mailbox mailbox mailbox_with_domain is_domain local_part dot_string quoted_string between is_at_domain is_literal_byte is_lone_byte is_name_byte is_plain_byte is_route
reads_two_at_signs = refl

two_at_signs : IsSpelling (codes "<a@b@example.com>") (record { path = To (address (codes "a@b") (codes "example.com")); end = 17 })
two_at_signs = path_of_sound _ _ reads_two_at_signs

reads_no_bracket : path_of (codes "<john@example.com") ≡ None
unfolding path_of first_path path bare bracketed routed_mailbox mailbox mailbox_with_domain is_domain local_part dot_string quoted_string between is_at_domain is_literal_byte is_lone_byte is_name_byte is_plain_byte is_route
reads_no_bracket = refl

no_bracket : (read : PathRead Address) → ¬ (IsSpelling (codes "<john@example.com") read)
no_bracket = rw reads_no_bracket at (path_of_reads (codes "<john@example.com"))

-- addresses and how they are printed
abbrev addresses : List Address
addresses =
    address (codes "john") (codes "example.com")
    ∷ address (codes "john") []
    ∷ address [] (codes "example.com")
    ∷ address [] []
    ∷ address (codes "a b") (codes "example.com")
    ∷ address (codes "a@b") (codes "example.com")
    ∷ address (codes "\"\\") (codes "[192.0.2.1]")
    ∷ address (codes ".a..b.") (codes "example.com")
    ∷ address (codes "!#$%&'*+-/=?^_`{|}~") (codes "x")
    ∷ []

abbrev texts : List (List ℕ)
texts =
    codes "john@example.com"
    ∷ codes "john"
    ∷ codes "\"\"@example.com"
    ∷ codes "\"\""
    ∷ codes "\"a b\"@example.com"
    ∷ codes "\"a@b\"@example.com"
    ∷ codes "\"\\\"\\\\\"@[192.0.2.1]"
    ∷ codes ".a..b.@example.com"
    ∷ codes "!#$%&'*+-/=?^_`{|}~@x"
    ∷ []

addresses_are_printed : map printed addresses ≡ texts
unfolding printed printed_local printed_domain escaped is_atom_byte
addresses_are_printed = refl

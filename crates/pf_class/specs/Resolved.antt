-- The resolved form of an address (ADDRESS_REWRITING_README; postconf(5), mydestination, swap_bangpath, allow_percent_hack,
-- resolve_dequoted_address).
use Rattle.std.specs.Prelude.{ℕ, zero, suc, ◌==◌, ◌&&◌, ◌||◌, Bool, true, false, List, Option, Some, None, length, if◌then◌else◌}
use Rattle.std.specs.List.{after_last, before_last, list_any}
use Rattle.std.specs.Option.{option_or}
use Rattle.pf_base.specs.Text.Ascii as ascii
use Rattle.pf_addr.specs.declared.address.Address.{Address}
use Rattle.pf_asks.specs.Tries.{Try, ok, ◌>>=◌}
use Rattle.pf_class.specs.Local.{is_local}
use Rattle.pf_class.specs.Standard.{parted, standard, user_at}
use Rattle.pf_class.specs.declared.domains.Domains.{Domains}
use Rattle.pf_class.specs.declared.fault.ClassFault.{ClassFault}
use Rattle.pf_class.specs.declared.rules.Rules.{Rules}
use Rattle.pf_class.specs.declared.resolved.Resolved.{Resolved}

-- user@site within a local part, parted at the last at sign
unfoldable pub at_at : List ℕ → Option Address
at_at local = user_at (before_last (λ b. b == ascii.at_sign) local) (after_last (λ b. b == ascii.at_sign) local)

-- the first rule that parts a local part
unfoldable pub split : Rules → List ℕ → Option Address
split rules local = option_or (at_at local) (parted rules local)

abbrev pub has_byte : ℕ → List ℕ → Bool
has_byte byte local = list_any (λ b. b == byte) local

-- a local part has an operator in it, whether it parts or not
unfoldable pub holds_operator : Rules → List ℕ → Bool
holds_operator rules local =
    has_byte ascii.at_sign local || (rules.swap_bangpath && has_byte ascii.exclamation_mark local)
    || (rules.allow_percent_hack && has_byte ascii.percent_sign local)

-- an address that goes on no more is routed where it went on before, or has an operator left
abbrev pub ends : Domains → Address → Bool → Resolved
ends domains address routed = record { address = address; routed = routed || holds_operator domains.rules address.local }

-- an address goes on where an operator parts its local part and its domain is local: its parts in standard form are the address, and it is
-- routed. Nothing is asked where no operator parts it
abbrev pub goes_on : (Address → Try ClassFault Resolved) → Domains → Address → Bool → Option Address → Try ClassFault Resolved
goes_on next domains address routed None = ok (ends domains address routed)
goes_on next domains address routed (Some parts) = do
  local ← is_local domains address.domain
  if local then next (standard domains.rules parts) else ok (ends domains address routed)

-- with at most so many steps; each makes the local part shorter, so its length is enough
unfoldable pub resolved_within : ℕ → Domains → Address → Bool → Try ClassFault Resolved
resolved_within zero domains address routed = ok (ends domains address routed)
resolved_within (suc n) domains address routed =
    goes_on (λ next. resolved_within n domains next true) domains address routed (split domains.rules address.local)

abbrev pub resolved_from : Domains → Address → Bool → Try ClassFault Resolved
resolved_from domains address routed = resolved_within (length address.local) domains address routed

-- what an address resolves to, from its standard form on
unfoldable pub resolved : Domains → Address → Try ClassFault Resolved
resolved domains address = resolved_from domains (standard domains.rules address) false

use Rattle.std.proofs.Common.{◌≡◌, ◌∙◌, rules, subst, sym}
use Rattle.std.proofs.lemmas.Result.{IfOk-weaker}
use Rattle.std.specs.Net.Addr.{IsIpv6OfBits}
use Rattle.pf_cidr.specs.Addresses.{IsWritten, printed}
use Rattle.pf_cidr.specs.declared.address.Addr.TheVariants.{V6}
use Rattle.pf_cidr.proofs.PrintedLaws.{printed_v6}
use Rattle.pf_cidr.proofs.address.print_v6.Goals as goal

pub returns-clause-form : goal.returns-clause-form
unfolding IsIpv6OfBits
returns-clause-form c = search rules

pub returns-clause-written : goal.returns-clause-written
unfolding IsIpv6OfBits
returns-clause-written c =
    let form : c.as_bytes.result.now ≡ printed (V6 c.args.bits) = search rules in
    IfOk-weaker c.from_slice.result _ _ (λ text copied. subst (λ t. IsWritten t (V6 c.args.bits)) (sym (copied ∙ form)) (printed_v6 c.args.bits c.ranges.bits.fits)) c.from_slice.ensures

use Rattle.std.proofs.Common.{◌≡◌, ◌∙◌, rules, subst, sym}
use Rattle.std.proofs.lemmas.Result.{IfOk-weaker}
use Rattle.std.specs.Net.Addr.{IsIpv4OfBits}
use Rattle.pf_cidr.specs.Addresses.{IsWritten, printed}
use Rattle.pf_cidr.specs.declared.address.Addr.TheVariants.{V4}
use Rattle.pf_cidr.proofs.PrintedLaws.{printed_v4}
use Rattle.pf_cidr.proofs.address.print_v4.Goals as goal

pub returns-clause-form : goal.returns-clause-form
unfolding IsIpv4OfBits
returns-clause-form c = search rules

pub returns-clause-written : goal.returns-clause-written
unfolding IsIpv4OfBits
returns-clause-written c =
    let form : c.as_bytes.result.now ≡ printed (V4 c.args.bits) = search rules in
    IfOk-weaker c.from_slice.result _ _ (λ text copied. subst (λ t. IsWritten t (V4 c.args.bits)) (sym (copied ∙ form)) (printed_v4 c.args.bits c.ranges.bits.fits)) c.from_slice.ensures

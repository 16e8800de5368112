use Rattle.std.proofs.Common.{◌≡◌, rules}
use Rattle.pf_addr.specs.Printed.{printed}
use Rattle.pf_addr.proofs.PrintedLemmas.{printed_spells}
use Rattle.pf_addr.proofs.printing.print.Goals as goal

pub returns-clause-spells : goal.returns-clause-spells
unfolding printed
returns-clause-spells c = λ domain.
    let form : c.push_domain.new.text ≡ printed c.args.address.now = search rules in
    rw form (printed_spells c.args.address.now domain)

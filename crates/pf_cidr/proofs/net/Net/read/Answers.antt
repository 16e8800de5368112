use Rattle.std.proofs.Common.{sym}
use Rattle.pf_cidr.specs.Nets.{net_of}
use Rattle.pf_cidr.proofs.NetLaws.{reads}
use Rattle.pf_cidr.proofs.net.Net.read.Goals as goal

pub returns-in-None-clause-written : goal.returns-in-None-clause-written
unfolding net_of
returns-in-None-clause-written c = rw (sym c.in-None.ensures) at (reads c.args.text.now)

pub returns-then-has_host_bits-clause-written : goal.returns-then-has_host_bits-clause-written
unfolding net_of
returns-then-has_host_bits-clause-written c = rw (sym c.in-Some.ensures, sym c.if-has_host_bits.ensures) at (reads c.args.text.now)

pub returns-else-has_host_bits-clause-written : goal.returns-else-has_host_bits-clause-written
unfolding net_of
returns-else-has_host_bits-clause-written c = rw (sym c.in-Some.ensures, sym c.if-has_host_bits.ensures) at (reads c.args.text.now)

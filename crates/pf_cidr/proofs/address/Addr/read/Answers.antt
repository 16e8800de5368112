use Rattle.std.proofs.Common.{subst, sym}
use Rattle.pf_cidr.specs.Addresses.{Reads}
use Rattle.pf_cidr.proofs.AddressLaws.{address_reads, nothing_is_read, read_is}
use Rattle.pf_cidr.proofs.address.Addr.read.Goals as goal

pub returns-in-Ok-clause-is : goal.returns-in-Ok-clause-is
returns-in-Ok-clause-is c = rw c.from.ensures (sym (read_is c.args.text.now _ c.in-Ok.ensures))

pub returns-in-Ok-clause-written : goal.returns-in-Ok-clause-written
returns-in-Ok-clause-written c = subst (Reads c.args.text.now) (sym (returns-in-Ok-clause-is c)) (address_reads c.args.text.now)

pub returns-in-Err-clause-is : goal.returns-in-Err-clause-is
returns-in-Err-clause-is c = sym (nothing_is_read c.args.text.now c.in-Err.ensures)

pub returns-in-Err-clause-written : goal.returns-in-Err-clause-written
returns-in-Err-clause-written c = subst (Reads c.args.text.now) (sym (returns-in-Err-clause-is c)) (address_reads c.args.text.now)

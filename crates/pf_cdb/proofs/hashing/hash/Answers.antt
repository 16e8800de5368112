use Rattle.std.proofs.Common.{refl}
use Rattle.pf_cdb.specs.Hash.{hash_of}
use Rattle.pf_cdb.proofs.hashing.hash.Goals as goal

pub loop-byte-init : goal.loop-byte-init
unfolding hash_of
loop-byte-init c = refl

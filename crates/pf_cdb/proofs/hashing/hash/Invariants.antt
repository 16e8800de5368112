use Rattle.std.proofs.Common.{◌≡◌, drop}
use Rattle.std.specs.List.{fold}
use Rattle.pf_cdb.specs.Hash.{hash_of, hash_step}
use Rattle.pf_cdb.proofs.hashing.hash.Given as goal

abbrev pub invariant-loop-byte : goal.invariant-loop-byte
invariant-loop-byte l = fold hash_step l.hash (drop l.byte-index l.key) ≡ hash_of l.key

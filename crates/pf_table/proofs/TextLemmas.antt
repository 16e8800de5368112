-- What a fault of a step is in the whole.
use Rattle.std.proofs.Common.{◌≡◌, true, Result, Ok, Err}
use Rattle.std.specs.Result.{OnOk, is_ok}
use Rattle.pf_base.specs.Results.{◌>>=◌}
use Rattle.pf_base.specs.declared.refused.ConfFault.{ConfFault}
use Rattle.pf_base.specs.declared.refused.Refused.{Refused}
use Rattle.pf_base.specs.Clauses.Faults.{as_fault}

pub there : {A : Type 0} (answer : Result A Refused) (x : A) → Ok x ≡ as_fault answer → answer ≡ Ok x
there (Ok y) x is = cc
there (Err refusal) x is = cc

-- a fault stays one after the first step
pub stays_fault : {A B : Type 0} (answer : Result A Refused) (f : A → Result B Refused) (fault : ConfFault) → Err fault ≡ as_fault answer → Err fault ≡ as_fault (answer >>= f)
stays_fault (Ok x) f fault is = cc
stays_fault (Err refusal) f fault is = cc

-- what holds of a success
pub of_ok : {A E : Type 0} {P : Type 0} (answer : Result A E) → OnOk answer P → is_ok answer ≡ true → P
of_ok (Ok x) p is = p
of_ok (Err fault) p is = cc

-- What a writer answers: the file, or that it would be too large.
use Rattle.std.proofs.Common.{◌≡◌, ◌<◌, ◌≤◌, List, ℕ, Result, Ok, Err, cond, length, refl, ap, ◌∙◌, sym, subst}
use Rattle.std.specs.Prelude.{IfOk}
use Rattle.std.proofs.lemmas.Bool.{le-ltb, lt-ltb}
use Rattle.pf_base.specs.Clauses.Unless.{Unless}
use Rattle.pf_base.specs.declared.pair.Pair.{Pair}
use Rattle.pf_cdb.specs.Written.{written, written_file}
use Rattle.pf_cdb.specs.declared.fault.WriteFault.{WriteFault}
use Rattle.pf_cdb.specs.declared.fault.WriteFault.TheVariants.{NoMemory, TooLarge}

pub unless_written : (entries : List Pair) (r : Result (List ℕ) WriteFault) → IfOk r (λ file. file ≡ written entries) → IfOk r (λ file. length file ≤ 67108864)
    → (r ≡ Err TooLarge → 67108864 < length (written entries)) → Unless r NoMemory (λ answer. answer ≡ written_file entries)
unless_written entries (Ok file) is fits large =
    ap Ok is ∙ sym (ap (λ b. cond b (Err TooLarge) (Ok (written entries))) (le-ltb 67108864 (length (written entries)) (subst (λ l. length l ≤ 67108864) is fits)))
unless_written entries (Err TooLarge) is fits large =
    λ _. sym (ap (λ b. cond b (Err TooLarge) (Ok (written entries))) (lt-ltb 67108864 (length (written entries)) (large refl)))
unless_written entries (Err NoMemory) is fits large = λ other. absurd (other refl)

-- what holds of the file that is written for the pairs, where it is not too large, holds of the answer
pub if_written : (entries : List Pair) (P : List ℕ → Type 0) (r : Result (List ℕ) WriteFault) → IfOk r (λ file. file ≡ written entries) → IfOk r (λ file. length file ≤ 67108864)
    → (length (written entries) ≤ 67108864 → P (written entries)) → IfOk r P
if_written entries P (Ok file) is fits holds = subst P (sym is) (holds (subst (λ l. length l ≤ 67108864) is fits))
if_written entries P (Err fault) is fits holds = tt

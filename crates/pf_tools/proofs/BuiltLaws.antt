-- What is built of a text: its refusals, and what they name.
use Rattle.std.proofs.Common.{◌≡◌, ◌<◌, ◌+◌, ◌++◌, ℕ, zero, suc, Bool, false, List, [], ◌∷◌, Some, Result, Ok, Err, length, take, codes, refl, sym, ap, arith}
use Rattle.std.specs.Prelude.{IfErr, get_or, slice_get}
use Rattle.pf_cdb.proofs.AddingLaws.{large_more}
use Rattle.pf_base.specs.Clauses.Faults.{as_fault}
use Rattle.pf_base.specs.Clauses.Unless.{Unless}
use Rattle.pf_base.specs.Outside.Known.{Tree}
use Rattle.pf_base.specs.Refusal.{refused}
use Rattle.pf_base.specs.Results.{◌>>=◌}
use Rattle.pf_base.specs.declared.pair.Pair.{Pair}
use Rattle.pf_base.specs.declared.refused.Cause.TheVariants.{C15}
use Rattle.pf_base.specs.declared.refused.ConfFault.{ConfFault}
use Rattle.pf_base.specs.declared.refused.ConfFault.TheVariants as conf_fault
use Rattle.pf_base.specs.declared.refused.Refused.{Refused}
use Rattle.pf_cdb.specs.Written.{written, written_file}
use Rattle.pf_cdb.specs.declared.fault.WriteFault.{WriteFault}
use Rattle.pf_maps.proofs.OpenLaws.{not_memory, ok_said, refusal_said, says_next}
use Rattle.pf_maps.proofs.SizeLaws.{Small, small_fault, small_text}
use Rattle.pf_maps.specs.Clauses.Opened.{Opens, Says, held_as, is_of_size, names_size}
use Rattle.pf_maps.specs.Opening.{Unopened, refusing}
use Rattle.pf_maps.specs.declared.opening.OpenFault.{OpenFault}
use Rattle.pf_maps.specs.declared.opening.OpenFault.TheVariants as open_fault
use Rattle.pf_table.proofs.PlaceLemmas.{take_pushed}
use Rattle.pf_table.specs.Text.{text_read}
use Rattle.pf_table.specs.declared.pairs.Repeats.{Repeats}
use Rattle.pf_table.specs.declared.text.TextRead.{TextRead}
use Rattle.pf_tools.specs.Map.Built.{cdb_name, cdb_or_refused, read_built, text_built, text_name}
use Rattle.pf_tools.specs.declared.map.build.Built.{Built}

-- what was made of a text that was read
module _ {A B : Type 0} {a b : Tree} {says : Bool → List Pair → Result A Unopened} (answer : A → Result B Refused) (x : A) where
  next : (result : Result B OpenFault) → Says (refusing (answer x)) result → Opens a b says (Ok x) → (all : List Pair)
      → (says false all ≡ Ok x) → Says (says false all >>= λ x. refusing (answer x)) result
  next result said first all is = says_next (says false all) (λ x. refusing (answer x)) x result is said

  pub opens_made : (result : Result B ConfFault) → Opens a b says (Ok x) → Unless result conf_fault.NoMemory (λ r. r ≡ as_fault (answer x))
      → Opens a b (λ failed all. says failed all >>= λ x. refusing (answer x)) (held_as result)
  opens_made (Ok y) first is = record {
    known = λ all known. next (Ok y) (ap refusing (ok_said (answer x) y is)) first all (first.known all known);
    leaves = first.leaves;
  }
  opens_made (Err (conf_fault.Refused refusal)) first is = record {
    known = λ all known. next (Err (open_fault.Refused refusal)) (ap refusing (refusal_said (answer x) refusal (is (not_memory refusal)))) first all (first.known all known);
    leaves = first.leaves;
  }
  opens_made (Err conf_fault.NoMemory) first is = record { known = λ all known. tt; leaves = first.leaves }

-- one pair more
pub one_more : (pairs writer : List Pair) (i : ℕ) (pair : Pair) → writer ≡ take i pairs → slice_get pairs i ≡ Some pair → writer ++ pair ∷ [] ≡ take (i + 1) pairs
one_more pairs writer i pair before at = take_pushed pairs writer i pair before at

-- where a prefix of the pairs is too large all of them are
is_there : (pairs : List Pair) (i : ℕ) (pair : Pair) → slice_get pairs i ≡ Some pair → pair ≡ get_or pairs i pair
is_there [] i pair at = cc
is_there (x ∷ xs) zero pair at = cc
is_there (x ∷ xs) (suc i) pair at = is_there xs i pair at

is_within : (pairs : List Pair) (i : ℕ) (pair : Pair) → slice_get pairs i ≡ Some pair → i < length pairs
is_within [] i pair at = cc
is_within (x ∷ xs) zero pair at = omega arith
is_within (x ∷ xs) (suc i) pair at = omega (arith, is_within xs i pair at)

pub large_at : (pairs writer : List Pair) (i : ℕ) (key value : List ℕ) → slice_get pairs i ≡ Some (record { key = key; value = value }) → writer ≡ take i pairs
    → 67108864 < length (written (writer ++ record { key = key; value = value } ∷ [])) → 67108864 < length (written pairs)
large_at pairs writer i key value at prefix over =
    let pair : Pair = record { key = key; value = value } in
    large_more pairs writer i pair key value (is_within pairs i pair at) (is_there pairs i pair at) prefix refl refl over

-- no refusal of a build names the size of a pattern
small_next : {A B : Type 0} (answer : Result A Refused) (f : A → Result B Refused) → Small answer → ((x : A) → Small (f x)) → Small (answer >>= f)
small_next (Ok x) f first next refusal is = next x refusal is
small_next (Err other) f first next refusal is = first refusal (ap Err (cc is))

cdb_small : (name : List ℕ) (answer : Result (List ℕ) WriteFault) → Small (cdb_or_refused name answer)
cdb_small name (Ok bytes) refusal is = cc
cdb_small name (Err fault) refusal is = let e : refused (codes "words") 0 C15 name ≡ refusal = cc in sym (ap is_of_size e)

read_small : (table : List ℕ) (warned : Bool) (read : TextRead) → Small (read_built table warned read)
read_small table warned read =
    small_next (cdb_or_refused (cdb_name table) (written_file read.table.pairs)) _ (cdb_small (cdb_name table) (written_file read.table.pairs)) (λ bytes refusal is. cc)

pub built_small : (table : List ℕ) (folds : Bool) (repeats : Repeats) (warned : Bool) (text : List ℕ) → Small (text_built table folds repeats warned text)
built_small table folds repeats warned text =
    small_next (text_read (text_name table) folds repeats text) _ (small_text (text_name table) folds repeats text) (λ read. read_small table warned read)

pub held_small : (table : List ℕ) (folds : Bool) (repeats : Repeats) (warned : Bool) (text : List ℕ) (result : Result Built ConfFault)
    → Unless result conf_fault.NoMemory (λ r. r ≡ as_fault (text_built table folds repeats warned text)) → IfErr (held_as result) (λ fault. names_size fault ≡ false)
held_small table folds repeats warned text (Ok built) is = tt
held_small table folds repeats warned text (Err fault) is = small_fault (text_built table folds repeats warned text) fault (built_small table folds repeats warned text) is

-- The text of a file, by what was read of it.
use Rattle.std.proofs.Common.{◌≡◌, ℕ, Bool, true, false, List, Option, None, Result, Err, refl, ap, if◌then◌else◌}
use Rattle.std.proofs.lemmas.Str.{IsUtf8-from_is_utf8, is_utf8-from_IsUtf8}
use Rattle.std.specs.Str.{IsUtf8, is_utf8}
use Rattle.pf_base.specs.Outside.FileList.{file_of}
use Rattle.pf_base.specs.Results.{◌>>=◌}
use Rattle.pf_base.specs.declared.pair.Pair.{Pair}
use Rattle.pf_base.specs.declared.refused.Refused.{Refused}
use Rattle.pf_maincf.specs.Clauses.Faults.{Answers}
use Rattle.pf_maincf.specs.File.{bytes_in}
use Rattle.pf_maincf.specs.declared.file.FileFault.{FileFault}
use Rattle.pf_maincf.specs.declared.file.FileFault.TheVariants as file_fault

-- a name that is no text is that of no file
pub no_name : (file : List ℕ) (all : List Pair) → ¬ (IsUtf8 file) → bytes_in all file ≡ None
no_name file all no_text = by_test (is_utf8 file) refl where
  by_test : (t : Bool) → is_utf8 file ≡ t → (if t then file_of all file else None) ≡ None
  by_test true is = absurd (no_text (IsUtf8-from_is_utf8 file is))
  by_test false is = refl

pub found : (file : List ℕ) (all : List Pair) → IsUtf8 file → bytes_in all file ≡ file_of all file
found file all text = ap (λ t. if t then file_of all file else None) (is_utf8-from_IsUtf8 file text)

-- a fault goes through
pub goes_through : {A B : Type 0} (answer : Result A Refused) (f : A → Result B Refused) (why : FileFault) → Answers answer (Err why) → Answers (answer >>= f) (Err why)
goes_through answer f (file_fault.Refused refusal) e = ap (λ a. a >>= f) e
goes_through answer f file_fault.Failed e = tt
goes_through answer f file_fault.NoMemory e = tt

-- What is read of a line.
use Rattle.std.proofs.Common.{◌≡◌, ℕ, Bool, List, Some, Err, IsUtf8, sym}
use Rattle.pf_pcre.specs.Switches.{switches_of}
use Rattle.pf_pcre.specs.Tables.{pattern_of}
use Rattle.pf_pcre.specs.declared.reason.Reason.TheVariants as reason
use Rattle.pf_pcre.specs.declared.switches.Switches.{Switches}
use Rattle.pf_pcre.proofs.FoundLemmas.{no_text}

pub not_text : (large : Bool) (flags text : List ℕ) (switches : Switches) → Some switches ≡ switches_of flags → (IsUtf8 text → ⊥)
    → pattern_of large flags text ≡ Err reason.Pattern
not_text large flags text switches some none = rw (sym some, no_text switches text none)

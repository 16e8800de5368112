-- A key is asked as its lossy text.
use Rattle.std.proofs.Common.{◌≡◌, ℕ, List, Option, Some, sym, ap, ◌∙◌}
use Rattle.std.specs.Str.{encode_utf8_all}
use Rattle.bstr.specs.Utf8.{lossy_chars}
use Rattle.bstr.proofs.lemmas.LossyLemmas.{lossy_chars-utf8_lossy}
use Rattle.pf_pcre.specs.Tables.{first_value, found_as, pcre_meaning}
use Rattle.pf_pcre.specs.declared.entry.Entry.{Entry}

pub found_is : (entries : List Entry) (key text : List ℕ) (value : Option (List ℕ)) → text ≡ encode_utf8_all (lossy_chars key) → value ≡ first_value entries text
    → (pcre_meaning entries).value key ≡ Some (found_as value)
found_is entries key text value same is =
    ap (λ t. Some (found_as (first_value entries t))) (sym (lossy_chars-utf8_lossy key) ∙ sym same) ∙ ap (λ v. Some (found_as v)) (sym is)

-- What the crate regex answers for a pattern.
use Rattle.std.proofs.Common.{◌≡◌, ◌≢◌, ℕ, ◌-◌, length, true, false, List, Some, Result, Ok, Err, refl, sym, ap, subst, ◌∙◌}
use Rattle.std.specs.Prelude.{IfErr, IfOk}
use Rattle.std.specs.Str.{is_utf8}
use Rattle.regex.specs.Failures.{IsRightKind}
use Rattle.regex.specs.Patterns.{Config, Re}
use Rattle.regex.specs.Sources.{IsRefusal}
use Rattle.regex.specs.Strings.{IsReadFromSource, regex_config, regex_names, regex_source}
use Rattle.regex.specs.declared.error.Error.{Error}
use Rattle.regex.specs.declared.error.Error.TheVariants.{Syntax, CompiledTooBig, Internal, OutOfMemory}
use Rattle.regex.specs.declared.string.regex.Regex.{Regex}
use Rattle.pf_pcre.specs.Patterns.{Written, built_of, built_with, config_of, groups_of}
use Rattle.pf_pcre.specs.Clauses.Built.{Finds, IsAnswerOf, IsPatternOf, IsRegexOf}
use Rattle.pf_pcre.specs.Clauses.Sizes.{is_size}
use Rattle.pf_pcre.specs.declared.patterns.BuildFault.{BuildFault}
use Rattle.pf_pcre.specs.declared.patterns.BuildFault.TheVariants as fault
use Rattle.pf_pcre.specs.declared.switches.Switches.{Switches}
use Rattle.pf_pcre.proofs.FoundLemmas.{groups_are, is_pattern, refused, written_of}

abbrev written : Switches → List ℕ → Written
written switches text = record { switches = switches; text = text }

too_large : (switches : Switches) (text : List ℕ) → (groups : ℕ) × (groups_of (written switches text) ≡ Some groups)
    → built_of true (written switches text) ≡ Err fault.TooLarge
too_large switches text some = ap (built_with true (written switches text)) some.1

pub answer_is : (switches : Switches) (text : List ℕ) (config : Config) → config ≡ config_of switches → is_utf8 text ≡ true → (r : Result Regex Error)
    → IfOk r (λ regex. regex_source regex ≡ text) → IfOk r (λ regex. regex_config regex ≡ config) → IfOk r IsReadFromSource
    → IfErr r (IsRefusal config text) → IfErr r (IsRightKind config text) → IsAnswerOf switches text r
answer_is switches text config same utf8 (Ok regex) source is_config read no_grammar no_kind =
    (source, record { config = is_config ∙ same; utf8 = rw source utf8; read = ∣ read ∣₁ })
answer_is switches text config same utf8 (Err (Syntax e)) no_source no_config no_read grammar kind = λ memory.
    ap (built_with false (written switches text)) (refused switches text e.kind kind (subst (λ c. IsRefusal c text (Syntax e)) same grammar e refl))
answer_is switches text config same utf8 (Err CompiledTooBig) no_source no_config no_read grammar kind = λ memory.
    too_large switches text (is_pattern switches text utf8 (subst (λ c. IsRightKind c text CompiledTooBig) same kind))
answer_is switches text config same utf8 (Err Internal) no_source no_config no_read grammar kind = λ memory.
    too_large switches text (is_pattern switches text utf8 (subst (λ c. IsRightKind c text Internal) same kind))
answer_is switches text config same utf8 (Err OutOfMemory) no_source no_config no_read grammar kind = λ memory. absurd (memory refl)

-- a regex that was built is its pattern
pub built : (switches : Switches) (text : List ℕ) (regex : Regex) → regex_source regex ≡ text → IsRegexOf switches regex → (pattern : Written)
    → pattern ≡ written_of switches regex → Ok pattern ≡ built_of false (written switches text)
built switches text regex source is pattern same =
    let one : written_of switches regex ≡ written switches text = ap (written switches) source in
    ap Ok (same ∙ one) ∙ sym (ap (built_with false (written switches text)) (ap groups_of (sym one) ∙ groups_are switches regex is _ refl))

-- a pattern that was read takes too much room, if anything but memory is wanting
pub not_built : (switches : Switches) (text : List ℕ) (regex : Regex) → regex_source regex ≡ text → IsRegexOf switches regex → (f : BuildFault) → f ≢ fault.Syntax
    → f ≢ fault.NoMemory → Err f ≡ built_of (is_size f) (written switches text)
not_built switches text regex source is fault.Syntax other memory = absurd (other refl)
not_built switches text regex source is fault.TooLarge other memory =
    sym (too_large switches text (length (regex_names regex) - 1, subst (λ t. groups_of (written switches t) ≡ Some (length (regex_names regex) - 1)) source (groups_are switches regex is _ refl)))
not_built switches text regex source is fault.NoMemory other memory = absurd (memory refl)

pub pattern_is : (switches : Switches) (text : List ℕ) (regex : Regex) (re : Re) → regex_source regex ≡ text → IsRegexOf switches regex → ∥ Finds re (written switches text) ∥₁
    → IsPatternOf switches regex re
pattern_is switches text regex re source is finds =
    record { built = is; finds = subst (λ t. ∥ Finds re (record { switches = switches; text = t }) ∥₁) (sym source) finds }

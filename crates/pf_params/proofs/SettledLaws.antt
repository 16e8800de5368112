-- Names with the defaults of parameters, and then with settings.
use Rattle.std.proofs.Common.{◌≡◌, ℕ, List, [], ap, subst, ◌∙◌}
use Rattle.pf_base.specs.Meanings.{Source}
use Rattle.pf_base.specs.declared.meaning.Meaning.TheVariants.{Is}
use Rattle.pf_expand.specs.Clauses.Meanings.{AreNames, Kept, meaning_of}
use Rattle.pf_maincf.specs.declared.setting.Setting.{Setting}
use Rattle.pf_params.specs.Sources.{default_value_of, source_of}

-- the names of settings, where there were those of parameters
pub named_from_default_values : (none default_values new values : List (List ℕ × Kept)) (slice settings : List Setting) → values ≡ new → slice ≡ settings
    → AreNames none (λ name. Is []) → (AreNames none (λ name. Is []) → AreNames default_values default_value_of)
    → ((before : List ℕ → Source) → AreNames default_values before → AreNames new (source_of before slice)) → AreNames values (source_of default_value_of settings)
named_from_default_values none default_values new values slice settings kept same empty are set name =
    ap (λ xs. meaning_of xs name) kept ∙ subst (λ xs. AreNames new (source_of default_value_of xs)) same (set default_value_of (are empty)) name

-- What names stand for (postconf(5), main.cf format, and mydomain for a default that is taken out of another value).
use Rattle.std.specs.Prelude.{ℕ, List}
use Rattle.pf_base.specs.declared.meaning.Meaning.{Meaning}

-- a text, or the domain in the value of another name
abbrev pub Source : Type 0
Source = Meaning (List ℕ) (List ℕ)

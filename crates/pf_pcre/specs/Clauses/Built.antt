-- What the crate regex gives for a pattern. Words of contracts, by no standard.
use Rattle.std.specs.Prelude.{◌≡◌, ◌≢◌, ℕ, ◌<◌, All, true, List, None, Result, Err, MatchResult, option_map}
use Rattle.std.specs.Str.{is_utf8}
use Rattle.regex.specs.Patterns.{Re, find, find_str}
use Rattle.regex.specs.Strings.{IsReadFromSource, regex_config, regex_source}
use Rattle.regex.specs.declared.error.Error.{Error}
use Rattle.regex.specs.declared.error.Error.TheVariants.{OutOfMemory}
use Rattle.regex.specs.declared.string.regex.Regex.{Regex}
use Rattle.pf_pcre.specs.Patterns.{Written, built_of, config_of, found, seen_of}
use Rattle.pf_pcre.specs.Clauses.Sizes.{fault_of, is_size}
use Rattle.pf_pcre.specs.declared.switches.Switches.{Switches}

-- a regex has these switches, and is what its text says
pub record IsRegexOf (switches : Switches) (regex : Regex) : Type 0 where
  pub config : regex_config regex ≡ config_of switches
  pub utf8 : is_utf8 (regex_source regex) ≡ true
  pub read : ∥ IsReadFromSource regex ∥₁

-- the regex of a pattern, or why there is none
abbrev pub IsAnswerOf : Switches → List ℕ → Result Regex Error → Type 0
IsAnswerOf switches text answer =
    MatchResult answer
    (λ regex. (regex_source regex ≡ text) × IsRegexOf switches regex)
    (λ error. error ≢ OutOfMemory → built_of (is_size (fault_of error)) (record { switches = switches; text = text }) ≡ Err (fault_of error))

-- a tree finds in text what the pattern finds that is written so
abbrev pub Finds : Re → Written → Type 0
Finds re written = (text : List ℕ) → All (λ b. b < 256) text → option_map seen_of (find_str re text 0) ≡ found written text

-- where a tree has no match, the pattern that is written so has none
abbrev pub Passes : Re → Written → Type 0
Passes re written = ∥ ((text : List ℕ) → All (λ b. b < 256) text → find re text 0 ≡ None → found written text ≡ None) ∥₁

-- a regex has these switches and is what its text says, and a tree finds the same
pub record IsPatternOf (switches : Switches) (regex : Regex) (re : Re) : Type 0 where
  pub built : IsRegexOf switches regex
  pub finds : ∥ Finds re (record { switches = switches; text = regex_source regex }) ∥₁

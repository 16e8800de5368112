-- What a call that ran out of memory has added. A word of contracts, by no standard.
use Rattle.std.specs.Prelude.{◌≡◌, ◌≤◌, ℕ, ◌++◌, List, length, take}

-- a prefix of a text was added to bytes
pub record AddsPrefix (old new text : List ℕ) : Type 0 where
  pub count : ℕ
  pub within : count ≤ length text
  pub is : new ≡ old ++ take count text

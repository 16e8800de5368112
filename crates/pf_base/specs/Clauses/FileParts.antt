-- A turn of the loop that reads a whole file. A word of the code's contracts, by no standard.
use Rattle.std.specs.Prelude.{◌≡◌, ◌≤◌, ℕ, List, [], ◌++◌, length, take, drop}

-- the next n bytes of the file were added to those before them; none at the end alone
pub record AddsPart (file old new : List ℕ) (n : ℕ) : Type 0 where
  pub new_is : new ≡ old ++ take n (drop (length old) file)
  pub within : n ≤ length (drop (length old) file)
  pub some : n ≡ 0 → drop (length old) file ≡ []

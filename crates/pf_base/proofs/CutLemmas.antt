-- A text that is parted at each byte that passes a test.
use Rattle.std.proofs.Common.{◌≡◌, ◌<◌, ◌≤◌, ℕ, Bool, List, [], ◌∷◌, length, arith}
use Rattle.std.specs.List.{after_first, before_first, position_or_len, slice_split}
use Rattle.std.proofs.lemmas.List.Sums.{fails_before_first}
use Rattle.std.proofs.lemmas.List.Splits.{slice_split_first, slice_split_none}

pub split_none : (p : ℕ → Bool) (text : List ℕ) → length text ≤ position_or_len p text → slice_split p text ≡ text ∷ []
split_none p text h = slice_split_none p text (λ k d lt. fails_before_first p text k d (omega arith))

pub split_first : (p : ℕ → Bool) (text : List ℕ) → position_or_len p text < length text → slice_split p text ≡ before_first p text ∷ slice_split p (after_first p text)
split_first p text h = slice_split_first p text 0 h

-- Counts that never fall. Words of contracts, by no standard.
use Rattle.std.specs.Prelude.{◌-◌, ℕ, ◌+◌, ◌^◌, ◌≤◌, min}

-- a count goes up by one, and stays at the greatest u64
abbrev pub counted : ℕ → ℕ
counted n = min (n + 1) (2 ^ 64 - 1)

-- a count goes up by so many, as far as the greatest u64 lets it
abbrev pub counted_by : ℕ → ℕ → ℕ
counted_by n count = count + min n (2 ^ 64 - 1 - count)

-- a count rose by at least so many
abbrev pub RoseBy : ℕ → ℕ → ℕ → Type 0
RoseBy n before now = min (before + n) (2 ^ 64 - 1) ≤ now

-- The members of a set that is kept as the bits of a number.
use Rattle.std.specs.Prelude.{◌≡◌, ℕ, ◌/◌, ◌%◌, ◌^◌, ◌<◌, ◌≤◌, Bool, true, false, Some, None, Option, ◌==◌}

abbrev pub member : ℕ → ℕ → Bool
member bits k = bits / 2 ^ k % 2 == 1

-- the least member from low on and below high, if there is one; no number of 128 or more is asked for
abbrev pub FirstIn : ℕ → ℕ → ℕ → Option ℕ → Type 0
FirstIn bits low high None = (j : ℕ) → low ≤ j → j < high → j < 128 → member bits j ≡ false
FirstIn bits low high (Some k) = (low ≤ k) × (k < high) × (member bits k ≡ true) × ((j : ℕ) → low ≤ j → j < k → member bits j ≡ false)

-- How much of a table serves a bank.
use Rattle.std.specs.Prelude.{ℕ, min, cond, ◌==◌, nat_le}

-- how many cells of a table of len cells serve t trays: 1024 at most, and none where there are no trays, or more than 128
abbrev pub serving : ℕ → ℕ → ℕ
serving len t = cond (t == 0) 0 (cond (nat_le t 128) (min len 1024) 0)

-- How two lists of bytes begin alike.
use Rattle.std.specs.Prelude.{◌≡◌, ℕ, ◌≤◌, List, ◌++◌, ◌==◌}
use Rattle.std.specs.List.{common_prefix_len}

-- the length of the longest beginning that two lists have in common
abbrev pub common : List ℕ → List ℕ → ℕ
common xs ys = common_prefix_len (λ x y. x == y) xs ys

-- `bytes` begins with `part`
abbrev pub Begins : List ℕ → List ℕ → Type 0
Begins bytes part = (rest : List ℕ) × (bytes ≡ part ++ rest)

-- k is the length of the longest beginning of `bytes` that some list of P has too
pub record Longest (P : List ℕ → Type 0) (bytes : List ℕ) (k : ℕ) : Type 0 where
  pub shared : (g : List ℕ) × P g × (common g bytes ≡ k)
  pub most : (g : List ℕ) → P g → common g bytes ≤ k

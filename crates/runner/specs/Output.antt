-- Bytes written to a lent output.
use Rattle.std.specs.Prelude.{◌≡◌, ℕ, ◌+◌, ◌≤◌, List, [], ◌∷◌, ◌++◌, length, drop, slice_set}

-- the output once these bytes were written to it, one after another, from `at` on
abbrev pub write_at : List ℕ → ℕ → List ℕ → List ℕ
write_at out at [] = out
write_at out at (b ∷ bs) = write_at (slice_set out at b) (at + 1) bs

-- the text was written from `at` on, and nothing else; `end` is the place behind it
pub record Wrote (before : List ℕ) (at : ℕ) (text after : List ℕ) (end : ℕ) : Type 0 where
  pub content : after ≡ write_at before at text
  pub place : end ≡ at + length text

-- the output begins with the text, of n bytes, and is what it was behind it
pub record Holds (text before after : List ℕ) (n : ℕ) : Type 0 where
  pub size : n ≡ length text
  pub within : n ≤ length before
  pub content : after ≡ text ++ drop n before

-- What a row bank means.
use Rattle.std.specs.Prelude.{◌≡◌, ℕ, ◌*◌, ◌<◌, List, Option, MatchOption, ◌≢◌, slice_set}
use Rattle.banks.specs.declared.cell.Cell.{Cell}
use Rattle.rows.specs.declared.head.Head.{Head}
use Rattle.rows.specs.declared.row_bank.RowBank.{RowBank}
use Rattle.rows.specs.Rings.{head_at, one_less, one_more, ring_place, row_trays}

abbrev pub bank_cells : {M : Type 0} → RowBank M → List (Cell M)
bank_cells b = b.cells.now

abbrev pub bank_trays : {M : Type 0} → RowBank M → List (List (Cell M))
bank_trays b = row_trays b.cells.now b.rows.limit b.rows.trays b.rows.heads

abbrev pub bank_limit : {M : Type 0} → RowBank M → ℕ
bank_limit b = b.rows.limit

abbrev pub bank_total : {M : Type 0} → RowBank M → ℕ
bank_total b = b.rows.trays * b.rows.limit

-- where entry i of tray k lies, and the place after the last
abbrev pub entry_place : {M : Type 0} → RowBank M → ℕ → ℕ → ℕ
entry_place b k i = ring_place b.rows.limit k (head_at b.rows.heads k) i

abbrev pub next_place : {M : Type 0} → RowBank M → ℕ → ℕ
next_place b k = entry_place b k (head_at b.rows.heads k).count

-- the head of tray k
abbrev pub head_of : {M : Type 0} → RowBank M → ℕ → Head
head_of b k = head_at b.rows.heads k

-- an accepted put of the cell c into tray k writes one cell alone, where no tray has an entry, and that tray's head
pub record Fills {M : Type 0} (before after : RowBank M) (k : ℕ) (c : Cell M) : Type 0 where
  pub table : bank_cells after ≡ slice_set (bank_cells before) (next_place before k) c
  pub free : (j i : ℕ) → i < (head_of before j).count → next_place before k ≢ entry_place before j i
  pub heads : after.rows.heads ≡ slice_set before.rows.heads k (one_more (head_of before k))

-- a take from tray k writes no cell, and that head where it gives one
pub record Moves {M : Type 0} (before after : RowBank M) (k : ℕ) (r : Option (Cell M)) : Type 0 where
  pub table : bank_cells after ≡ bank_cells before
  pub heads : MatchOption r (after ≡ before) (λ c. after.rows.heads ≡ slice_set before.rows.heads k (one_less (bank_limit before) (head_of before k)))

-- Trays that are rings, each in a row of its own, side by side in one table of cells.
use Rattle.std.specs.Prelude.{ℕ, zero, suc, ◌+◌, ◌-◌, ◌*◌, ◌/◌, ◌%◌, min, cond, List, [], ◌∷◌, ◌++◌, take, ◌==◌, nat_le, slice_index_or}
use Rattle.banks.specs.Tables.{cell_at}
use Rattle.rows.specs.declared.head.Head.{Head}

-- the head of a tray that is empty
abbrev pub no_head : Head
no_head = record { first = 0; count = 0 }

abbrev pub head_at : List Head → ℕ → Head
head_at heads k = slice_index_or heads k no_head

-- a head after one cell more at the end, and after the first cell has left
abbrev pub one_more : Head → Head
one_more h = record { first = h.first; count = h.count + 1 }

abbrev pub one_less : ℕ → Head → Head
one_less limit h = record { first = (h.first + 1) % limit; count = h.count - 1 }

-- where entry i of a head lies in a table of rows of `limit` cells, in row k
abbrev pub ring_place : ℕ → ℕ → Head → ℕ → ℕ
ring_place limit k h i = k * limit + (h.first + i) % limit

-- n cells of the ring that has the places base, .. base + size - 1, from its place `from` on
abbrev pub ring : {C : Type 0} → List C → ℕ → ℕ → ℕ → ℕ → List C
ring cells base size from zero = []
ring cells base size from (suc n) = cell_at cells (base + from % size) ++ ring cells base size (from + 1) n

-- the ring of each head, the first at the place base
abbrev pub rings : {C : Type 0} → List C → ℕ → ℕ → List Head → List (List C)
rings cells size base [] = []
rings cells size base (h ∷ hs) = ring cells base size h.first h.count ∷ rings cells size (base + size) hs

-- how many cells the heads count together
abbrev pub counted : List Head → ℕ
counted [] = 0
counted (h ∷ hs) = h.count + counted hs

-- the trays of a row bank: n rings of as many places each, from the start of the table
abbrev pub row_trays : {C : Type 0} → List C → ℕ → ℕ → List Head → List (List C)
row_trays cells size n heads = rings cells size 0 (take n heads)

-- the limit of each tray of a row bank: what a table of len cells, of which 1024 serve at most, has for each of t trays;
-- 0 where there are no trays, or more than 128
abbrev pub row_limit : ℕ → ℕ → ℕ
row_limit len t = cond (nat_le t 128) (min len 1024 / t) 0

-- how many trays that bank has: as many as were asked for, if each has room
abbrev pub row_number : ℕ → ℕ → ℕ
row_number len t = cond (row_limit len t == 0) 0 t

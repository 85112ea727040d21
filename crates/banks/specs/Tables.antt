-- Tables of cells.
use Rattle.std.specs.Prelude.{ℕ, List, take, drop}

-- the cell at a place of a table, and nothing past its end
abbrev pub cell_at : {C : Type 0} → List C → ℕ → List C
cell_at cells i = take 1 (drop i cells)

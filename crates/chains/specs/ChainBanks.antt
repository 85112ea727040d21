-- What a chain bank means.
use Rattle.std.specs.Prelude.{◌≡◌, ℕ, ◌<◌, List, ◌≢◌, slice_set}
use Rattle.banks.specs.declared.cell.Cell.{Cell}
use Rattle.chains.specs.declared.chain_bank.ChainBank.{ChainBank}
use Rattle.chains.specs.Chains.{Has, chain_trays, place}

abbrev pub bank_cells : {M : Type 0} → ChainBank M → List (Cell M)
bank_cells b = b.cells.now

abbrev pub bank_trays : {M : Type 0} → ChainBank M → List (List (Cell M))
bank_trays b = chain_trays b.cells.now b.links.next b.trays b.links.heads

-- a tray may hold as many as all together
abbrev pub bank_limit : {M : Type 0} → ChainBank M → ℕ
bank_limit b = b.links.size

-- no tray has an entry at the place p
abbrev pub WithoutEntry : {M : Type 0} → ChainBank M → ℕ → Type 0
WithoutEntry b p = (k i : ℕ) → k < b.trays → Has b.links.heads k i → place b.links.heads b.links.next k i ≢ p

-- The one freedom of a bank: an accepted put writes the cell c into one of the serving cells that hold no entry. Which of
-- them it is, is not said. Every other cell keeps its content.
pub record FillsSomeFreeCell {M : Type 0} (before after : ChainBank M) (c : Cell M) : Type 0 where
  pub chosen : ℕ
  pub serving : chosen < before.links.size
  pub free : WithoutEntry before chosen
  pub table : bank_cells after ≡ slice_set (bank_cells before) chosen c

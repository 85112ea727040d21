-- That the trays of a chain bank keep the laws of a bank.
use Rattle.std.specs.Prelude.{◌≡◌, ℕ, zero, suc, ◌<◌, ◌≤◌, List, [], ◌∷◌, length, take, refl}
use Rattle.std.proofs.Common.{ap, arith, length-append, length-take}
use Rattle.banks.specs.Tables.{cell_at}
use Rattle.banks.specs.Trays.{tray_at, held_in}
use Rattle.banks.proofs.Holding.{tray_held}
use Rattle.chains.specs.declared.chain_bank.ChainBank.{ChainBank}
use Rattle.chains.specs.ChainBanks.{WithoutEntry, bank_limit, bank_trays}
use Rattle.chains.specs.declared.link.Link.{Link}
use Rattle.chains.specs.Chains.{Free, chain_cells, chain_rows, chain_trays, counted, step}

pub chain_at_most : {C : Type 0} (cells : List C) (next : List ℕ) (from n : ℕ) → length (chain_cells cells next from n) ≤ n
chain_at_most cells next from zero = omega arith
chain_at_most cells next from (suc n) =
    let one : length (cell_at cells (step next from n)) ≤ 1 = rw length-take (omega arith) in
    let on = chain_at_most cells next from n in
    rw length-append (omega arith)

pub rows_at_most : {C : Type 0} (cells : List C) (next : List ℕ) (hs : List Link) → held_in (chain_rows cells next hs) ≤ counted hs
rows_at_most cells next [] = omega arith
rows_at_most cells next (h ∷ hs) =
    let here = chain_at_most cells next h.first h.count in
    let on = rows_at_most cells next hs in
    omega arith

pub rows_length : {C : Type 0} (cells : List C) (next : List ℕ) (hs : List Link) → length (chain_rows cells next hs) ≡ length hs
rows_length cells next [] = refl
rows_length cells next (h ∷ hs) = ap suc (rows_length cells next hs)

pub trays_few : {C : Type 0} (cells : List C) (next : List ℕ) (n : ℕ) (heads : List Link) → length (chain_trays cells next n heads) ≤ n
trays_few cells next n heads = rw (rows_length, length-take) (omega arith)

module _ {M : Type 0} (b : ChainBank M) where
  pub held_within : held_in (bank_trays b) ≤ bank_limit b
  held_within =
      let r = rows_at_most b.cells.now b.links.next (take b.trays b.links.heads) in
      let a = b.all in omega arith

  pub each_within : (k : ℕ) → length (tray_at (bank_trays b) k) ≤ bank_limit b
  each_within k = let f = tray_held (bank_trays b) k in let g = held_within in omega arith

  pub number_few : length (bank_trays b) ≤ 128
  number_few = let f = trays_few b.cells.now b.links.next b.trays b.links.heads in let g = b.few in omega arith

  pub limits_some : 0 < length (bank_trays b) → (0 < bank_limit b) × (0 < bank_limit b)
  limits_some l =
      let f = trays_few b.cells.now b.links.next b.trays b.links.heads in
      let p = b.some (omega arith) in (p, p)

  -- a place of no tray's chain is one that no tray has an entry at
  pub without_entry : (p : ℕ) → Free b.links.heads b.links.next p → WithoutEntry b p
  without_entry p free k i less = free k i

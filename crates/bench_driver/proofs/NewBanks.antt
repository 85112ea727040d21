-- What a dispatcher is made with over a bank that was just made.
use Rattle.std.proofs.Common.{◌≡◌, ℕ, zero, suc, ◌-◌, ◌*◌, false, ltb, List, [], length, replicate, refl, ap, ◌∙◌, arith}
use Rattle.std.proofs.lemmas.List.{length-replicate}
use Rattle.messages.specs.declared.note.Note.{Note}
use Rattle.banks.specs.declared.cell.Cell.{Cell}
use Rattle.banks.specs.Trays.{held_in}
use Rattle.rows.specs.declared.row_bank.RowBank.{RowBank}
use Rattle.rows.specs.RowBanks as rows
use Rattle.rows.specs.Rings.{row_limit, row_number}
use Rattle.chains.specs.declared.chain_bank.ChainBank.{ChainBank}
use Rattle.chains.specs.ChainBanks as chains
use Rattle.chains.specs.Chains.{chain_number, chain_size}
use Rattle.dispatcher.specs.Machine.{Terms}
use Rattle.bench_driver.specs.Loads.{checksum, note_interval, terms_over_chains, terms_over_rows}

empty_holds : (C : Type 0) (n : ℕ) → held_in (replicate {A = List C} n []) ≡ 0
empty_holds C zero = refl
empty_holds C (suc n) = let h = empty_holds C n in omega arith

-- what a dispatcher is made with over a bank, by what the bank's trays hold and by its limits
abbrev pub made_with : List (List (Cell Note)) → ℕ → ℕ → Terms Note
made_with trays limit total = record { interval = note_interval; span = length trays - 1; tray_limit = limit; total_limit = total; holds = ltb 0 (held_in trays) }

-- where the trays are empty, all that matters is how many there are, and the limits
made_empty : {trays : List (List (Cell Note))} {each all : ℕ} (number limit total : ℕ) → trays ≡ replicate number [] → each ≡ limit → all ≡ total → made_with trays each all ≡ record { interval = note_interval; span = number - 1; tray_limit = limit; total_limit = total; holds = false }
made_empty number limit total empty same_limit same_total = simp (empty, same_limit, same_total, length-replicate, empty_holds (Cell Note) number)

-- the checksum over a bank that was just made
pub sum_over_rows : (r : RowBank Note) (load : List ℕ) (trays sum : ℕ) → sum ≡ checksum (made_with (rows.bank_trays r) (rows.bank_limit r) (rows.bank_total r)) load → rows.bank_trays r ≡ replicate (row_number 1024 trays) [] → rows.bank_limit r ≡ row_limit 1024 trays → rows.bank_total r ≡ row_number 1024 trays * row_limit 1024 trays → sum ≡ checksum (terms_over_rows 1024 trays) load
sum_over_rows r load trays sum is empty limit total =
    is ∙ ap (λ b. checksum b load) (made_empty (row_number 1024 trays) (row_limit 1024 trays) (row_number 1024 trays * row_limit 1024 trays) empty limit total)

pub sum_over_chains : (r : ChainBank Note) (load : List ℕ) (trays sum : ℕ) → sum ≡ checksum (made_with (chains.bank_trays r) (chains.bank_limit r) (chains.bank_limit r)) load → chains.bank_trays r ≡ replicate (chain_number 1024 trays) [] → chains.bank_limit r ≡ chain_size 1024 trays → sum ≡ checksum (terms_over_chains 1024 trays) load
sum_over_chains r load trays sum is empty limit =
    is ∙ ap (λ b. checksum b load) (made_empty (chain_number 1024 trays) (chain_size 1024 trays) (chain_size 1024 trays) empty limit limit)

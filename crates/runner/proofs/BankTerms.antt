-- The terms of a new bank are those that the header asks for.
use Rattle.std.proofs.Common.{◌≡◌, ℕ, zero, suc, ◌-◌, ◌*◌, ◌/◌, ◌≤◌, Bool, false, cond, eqb, ltb, leb, List, [], length, replicate, sym, refl, ap, ◌∙◌, le-div_iff_mul-le, arith}
use Rattle.std.proofs.lemmas.List.{length-replicate}
use Rattle.std.proofs.lemmas.Bool.{le-leb, ne_eqb}
use Rattle.banks.specs.Trays.{held_in}
use Rattle.chains.specs.Chains.{chain_number, chain_size}
use Rattle.rows.specs.Rings.{row_limit, row_number}
use Rattle.dispatcher.specs.Machine.{Terms}
use Rattle.banks.specs.declared.cell.Cell.{Cell}
use Rattle.steps.specs.Layout.{EnoughTrays}
use Rattle.steps.specs.declared.header.BankKind.TheVariants.{Row, Chain}
use Rattle.steps.specs.declared.header.Header.{Header}
use Rattle.runner.specs.Banks.{bank_terms, cells_of_all, cells_of_each}

none_held : (C : Type 0) (n : ℕ) → held_in {C = C} (replicate n []) ≡ 0
none_held C zero = refl
none_held C (suc n) = let ih = none_held C n in omega arith

-- what a dispatcher over a bank is made with, by what the bank's trays hold and by its limits
abbrev pub made_with : {M B : Type 0} → (B → List (List (Cell M))) → (B → ℕ) → (B → ℕ) → (M → ℕ) → B → Terms M
made_with trays each all interval bank =
    record { interval = interval; span = length (trays bank) - 1; tray_limit = each bank; total_limit = all bank; holds = ltb 0 (held_in (trays bank)) }

-- a bank with n empty trays and these limits
pub empty_terms : {M B : Type 0} (trays : B → List (List (Cell M))) (each all : B → ℕ) (interval : M → ℕ) (bank : B) (n e a : ℕ) → trays bank ≡ replicate n [] → each bank ≡ e → all bank ≡ a → made_with trays each all interval bank ≡ record { interval = interval; span = n - 1; tray_limit = e; total_limit = a; holds = false }
empty_terms {M} trays each all interval bank n e a t p q =
    let span : length (trays bank) - 1 ≡ n - 1 = ap (λ x. length x - 1) t ∙ ap (λ x. x - 1) (length-replicate n []) in
    let held : ltb 0 (held_in (trays bank)) ≡ false = ap (λ x. ltb 0 (held_in x)) t ∙ ap (λ x. ltb 0 x) (none_held (Cell M) n) in
    let make : ℕ → ℕ → ℕ → Bool → Terms M = λ s x y h. record { interval = interval; span = s; tray_limit = x; total_limit = y; holds = h } in
    ap (λ s. make s (each bank) (all bank) (ltb 0 (held_in (trays bank)))) span
    ∙ ap (λ x. make (n - 1) x (all bank) (ltb 0 (held_in (trays bank)))) p
    ∙ ap (λ y. make (n - 1) e y (ltb 0 (held_in (trays bank)))) q
    ∙ ap (λ h. make (n - 1) e a h) held

module _ (t : ℕ) (some : 2 ≤ t) (few : t ≤ 128) where
  pub row_each : row_limit 256 t ≡ 256 / t
  row_each = ap (λ x. cond x (256 / t) 0) (le-leb t 128 few)

  row_some : 2 ≤ 256 / t
  row_some = (le-div_iff_mul-le {k = t} {x = 2} {y = 256} (omega arith)).1 (omega arith)

  pub row_trays : row_number 256 t ≡ t
  row_trays = ap (λ x. cond (eqb x 0) 0 t) row_each ∙ ap (λ x. cond x 0 t) (ne_eqb (256 / t) 0 (λ z. let s = row_some in omega arith))

  pub chain_each : chain_size 256 t ≡ 256
  chain_each = ap (λ x. cond x 0 (cond (leb t 128) 256 0)) (ne_eqb t 0 (λ z. omega arith)) ∙ ap (λ x. cond x 256 0) (le-leb t 128 few)

  pub chain_trays : chain_number 256 t ≡ t
  chain_trays = ap (λ x. cond (eqb x 0) 0 t) chain_each

-- a new bank of 256 cells, row or chain, with the trays that the header asks for
module _ {M B : Type 0} (trays : B → List (List (Cell M))) (each all : B → ℕ) (interval : M → ℕ) (bank : B) (h : Header) (len t : ℕ) (size : len ≡ 256) (number : t ≡ h.trays) (enough : EnoughTrays h) where
  pub row_terms : h.bank ≡ Row → trays bank ≡ replicate (row_number len t) [] → each bank ≡ row_limit len t → all bank ≡ row_number len t * row_limit len t → made_with trays each all interval bank ≡ bank_terms interval h
  row_terms kind empty limit total =
      let k = h.trays in
      let n : row_number len t ≡ k =
      ap (λ x. row_number x t) size ∙ ap (row_number 256) number ∙ row_trays k enough.0 enough.1 in
      let l : row_limit len t ≡ 256 / k =
      ap (λ x. row_limit x t) size ∙ ap (row_limit 256) number ∙ row_each k enough.0 enough.1 in
      empty_terms trays each all interval bank k (cells_of_each h.bank k) (cells_of_all h.bank k)
      (empty ∙ ap (λ x. replicate x []) n)
      (limit ∙ l ∙ ap (λ b. cells_of_each b k) (sym kind))
      (total ∙ ap (λ x. x * row_limit len t) n ∙ ap (λ x. k * x) l ∙ ap (λ b. cells_of_all b k) (sym kind))

  pub chain_terms : h.bank ≡ Chain → trays bank ≡ replicate (chain_number len t) [] → each bank ≡ chain_size len t → all bank ≡ chain_size len t → made_with trays each all interval bank ≡ bank_terms interval h
  chain_terms kind empty limit total =
      let k = h.trays in
      let n : chain_number len t ≡ k =
      ap (λ x. chain_number x t) size ∙ ap (chain_number 256) number ∙ chain_trays k enough.0 enough.1 in
      let l : chain_size len t ≡ 256 =
      ap (λ x. chain_size x t) size ∙ ap (chain_size 256) number ∙ chain_each k enough.0 enough.1 in
      empty_terms trays each all interval bank k (cells_of_each h.bank k) (cells_of_all h.bank k)
      (empty ∙ ap (λ x. replicate x []) n)
      (limit ∙ l ∙ ap (λ b. cells_of_each b k) (sym kind))
      (total ∙ l ∙ ap (λ b. cells_of_all b k) (sym kind))

-- That the trays of a row bank keep the laws of a bank.
use Rattle.std.specs.Prelude.{◌≡◌, ℕ, zero, suc, ◌+◌, ◌*◌, ◌%◌, ◌<◌, ◌≤◌, List, [], ◌∷◌, length, take, refl}
use Rattle.std.proofs.Common.{ap, ◌∙◌, add-zero, zero-mul, suc-mul, mul-le-mul_right, mul-pos, arith, length-append, length-take}
use Rattle.rows.specs.declared.head.Head.{Head}
use Rattle.rows.specs.declared.row_bank.RowBank.{RowBank}
use Rattle.rows.specs.RowBanks.{bank_limit, bank_total, bank_trays}
use Rattle.rows.specs.Rings.{head_at, ring, rings, counted, row_trays}
use Rattle.banks.specs.Tables.{cell_at}
use Rattle.banks.specs.Trays.{tray_at, held_in}

pub rings_length : {C : Type 0} (cells : List C) (size base : ℕ) (hs : List Head) → length (rings cells size base hs) ≡ length hs
rings_length cells size base [] = refl
rings_length cells size base (h ∷ hs) = ap suc (rings_length cells size (base + size) hs)

pub rings_at : {C : Type 0} (cells : List C) (size base : ℕ) (hs : List Head) (k : ℕ) → tray_at (rings cells size base hs) k ≡ ring cells (base + k * size) size (head_at hs k).first (head_at hs k).count
rings_at cells size base [] k = refl
rings_at cells size base (h ∷ hs) zero = rw (zero-mul, add-zero)
rings_at cells size base (h ∷ hs) (suc k) =
    let e : (base + size) + k * size ≡ base + suc k * size = omega (arith, suc-mul k size) in
    rings_at cells size (base + size) hs k ∙ ap (λ b. ring cells b size (head_at hs k).first (head_at hs k).count) e

pub counted_within : (size : ℕ) (hs : List Head) → ((k : ℕ) → (head_at hs k).count ≤ size) → counted hs ≤ length hs * size
counted_within size [] w = omega arith
counted_within size (h ∷ hs) w =
    let e = suc-mul (length hs) size in
    let here = w 0 in
    let on = counted_within size hs (λ k. w (suc k)) in
    omega arith

pub ring_at_most : {C : Type 0} (cells : List C) (base size from n : ℕ) → length (ring cells base size from n) ≤ n
ring_at_most cells base size from zero = omega arith
ring_at_most cells base size from (suc n) =
    let one : length (cell_at cells (base + from % size)) ≤ 1 = rw length-take (omega arith) in
    let on = ring_at_most cells base size (from + 1) n in
    rw length-append (omega arith)

pub held_at_most : {C : Type 0} (cells : List C) (size base : ℕ) (hs : List Head) → held_in (rings cells size base hs) ≤ counted hs
held_at_most cells size base [] = omega arith
held_at_most cells size base (h ∷ hs) =
    let here = ring_at_most cells base size h.first h.count in
    let on = held_at_most cells size (base + size) hs in
    omega arith

pub within_front : (size n : ℕ) (hs : List Head) → ((k : ℕ) → (head_at hs k).count ≤ size) → (k : ℕ) → (head_at (take n hs) k).count ≤ size
within_front size zero hs w k = omega arith
within_front size (suc n) [] w k = omega arith
within_front size (suc n) (h ∷ hs) w zero = w 0
within_front size (suc n) (h ∷ hs) w (suc k) = within_front size n hs (λ j. w (suc j)) k

pub row_within : {C : Type 0} (cells : List C) (size n : ℕ) (heads : List Head) → ((k : ℕ) → (head_at heads k).count ≤ size) → held_in (row_trays cells size n heads) ≤ n * size
row_within cells size n heads w =
    let m : length (take n heads) ≤ n = rw length-take (omega arith) in
    let l : length (take n heads) * size ≤ n * size = mul-le-mul_right size m in
    let h = held_at_most cells size 0 (take n heads) in
    let s = counted_within size (take n heads) (within_front size n heads w) in
    omega arith

pub row_few : {C : Type 0} (cells : List C) (size n : ℕ) (heads : List Head) → n ≤ 128 → length (row_trays cells size n heads) ≤ 128
row_few cells size n heads l = rw (rings_length, length-take) (omega arith)

pub row_each_within : {C : Type 0} (cells : List C) (size n : ℕ) (heads : List Head) → ((k : ℕ) → (head_at heads k).count ≤ size) → (k : ℕ) → length (tray_at (row_trays cells size n heads) k) ≤ size
row_each_within cells size n heads w k =
    let h = head_at (take n heads) k in
    let e = ap length (rings_at cells size 0 (take n heads) k) in
    let l = ring_at_most cells (0 + k * size) size h.first h.count in
    let u = within_front size n heads w k in
    omega arith

pub row_some : {C : Type 0} (cells : List C) (size n : ℕ) (heads : List Head) → (0 < n → 0 < size) → 0 < length (row_trays cells size n heads) → (0 < size) × (0 < n * size)
row_some cells size n heads some l =
    let few : length (row_trays cells size n heads) ≤ n = rw (rings_length, length-take) (omega arith) in
    let pos = some (omega arith) in
    (pos, mul-pos (omega arith) pos)

module _ {M : Type 0} (b : RowBank M) where
  pub held_within : held_in (bank_trays b) ≤ bank_total b
  held_within = row_within b.cells.now b.rows.limit b.rows.trays b.rows.heads b.rows.within

  pub each_within : (k : ℕ) → length (tray_at (bank_trays b) k) ≤ bank_limit b
  each_within = row_each_within b.cells.now b.rows.limit b.rows.trays b.rows.heads b.rows.within

  pub number_few : length (bank_trays b) ≤ 128
  number_few = row_few b.cells.now b.rows.limit b.rows.trays b.rows.heads b.rows.few

  pub limits_some : 0 < length (bank_trays b) → (0 < bank_limit b) × (0 < bank_total b)
  limits_some = row_some b.cells.now b.rows.limit b.rows.trays b.rows.heads b.rows.some

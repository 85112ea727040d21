-- What a put and a take do to rings that lie side by side in one table.
use Rattle.std.proofs.Common.{◌≡◌, ℕ, zero, suc, ◌+◌, ◌-◌, ◌*◌, ◌/◌, ◌%◌, ◌<◌, ◌≤◌, ◌⊎◌, List, [], ◌∷◌, ◌++◌, length, get_or, take, set, replicate, Some, sym, refl, ap, ◌∙◌, inl, inr, append_assoc, append-nil, add-zero, mul-le-mul_right, mod-lt, suc-mul, lt_of_mul-lt-mul_right, div-add-mod', zero-add, zero-mul, add-one, arith, length-append}
use native.Mathlib.Nat.{mod-mod, mod-add-mod}
use Rattle.rows.specs.declared.head.Head.{Head}
use Rattle.rows.specs.Rings.{no_head, head_at, one_less, one_more, ring, ring_place, rings, counted, row_trays}
use Rattle.std.proofs.lemmas.List.{length-take, get_or-take, get_or_past, take-replicate}
use Rattle.std.proofs.lemmas.List.Sums.{sum_by-cons}
use Rattle.std.specs.List.{sum_by}
use Rattle.std.proofs.lemmas.Bool.{cases_lt, cases_order}
use Rattle.rows.specs.RowLaws.{rings_length, rings_at, counted_within, held_at_most, within_front}
use Rattle.banks.proofs.Cells.{cell_one, cell_other, cell_read, cell_same}
use Rattle.std.proofs.Math.Seq.{take-set-lt}
use Rattle.banks.specs.Tables.{cell_at}
use Rattle.banks.specs.Trays.{tray_at, held_in, first_of, without_first}

-- heads

pub counted_sum : (hs : List Head) → sum_by (λ h. h.count) hs ≡ counted hs
counted_sum [] = refl
counted_sum (h ∷ hs) = sum_by-cons (λ h. h.count) h hs ∙ ap (λ n. h.count + n) (counted_sum hs)

-- numbers

pub mod_apart : (a b m : ℕ) → a < b → b < a + m → a % m ≡ b % m → ⊥
mod_apart a b m l h e =
    let da = div-add-mod' a m in
    let db = div-add-mod' b m in
    let less : a / m < b / m = lt_of_mul-lt-mul_right m (omega arith) in
    let more : suc (a / m) * m ≤ b / m * m = mul-le-mul_right m (omega arith) in
    omega (arith, suc-mul (a / m) m)

-- a ring

pub ring_length : {C : Type 0} (cells : List C) (base size from n : ℕ) → 0 < size → base + size ≤ length cells → length (ring cells base size from n) ≡ n
ring_length cells base size from zero pos fits = refl
ring_length cells base size from (suc n) pos fits =
    let m : from % size < size = mod-lt from pos in
    let one = cell_one cells (base + from % size) (omega arith) in
    let rest = ring_length cells base size (from + 1) n pos fits in
    rw length-append (omega arith)

pub ring_mod : {C : Type 0} (cells : List C) (base size from n : ℕ) → ring cells base size (from % size) n ≡ ring cells base size from n
ring_mod cells base size from zero = refl
ring_mod cells base size from (suc n) =
    let here : cell_at cells (base + from % size % size) ≡ cell_at cells (base + from % size) = ap (λ k. cell_at cells (base + k)) (mod-mod from size) in
    let on : ring cells base size (from % size + 1) n ≡ ring cells base size (from + 1) n =
    sym (ring_mod cells base size (from % size + 1) n) ∙ ap (λ k. ring cells base size k n) (mod-add-mod from size 1) ∙ ring_mod cells base size (from + 1) n in
    cc

pub ring_push : {C : Type 0} (cells : List C) (base size from n : ℕ) → ring cells base size from (suc n) ≡ ring cells base size from n ++ cell_at cells (base + (from + n) % size)
ring_push cells base size from zero = rw (append-nil, add-zero)
ring_push cells base size from (suc n) =
    let here = cell_at cells (base + from % size) in
    let e : (from + 1) + n ≡ from + suc n = omega arith in
    ap (λ t. here ++ t) (ring_push cells base size (from + 1) n ∙ ap (λ k. ring cells base size (from + 1) n ++ cell_at cells (base + k % size)) e)
    ∙ sym (append_assoc here (ring cells base size (from + 1) n) (cell_at cells (base + (from + suc n) % size)))

pub ring_keep : {C : Type 0} (cells after : List C) (base size from n : ℕ) → ((j : ℕ) → j < n → cell_at after (base + (from + j) % size) ≡ cell_at cells (base + (from + j) % size)) → ring after base size from n ≡ ring cells base size from n
ring_keep cells after base size from zero same = refl
ring_keep cells after base size from (suc n) same =
    let here : cell_at after (base + from % size) ≡ cell_at cells (base + from % size) = rw add-zero at (same 0 (omega arith)) in
    let on = ring_keep cells after base size (from + 1) n (λ j l. let e : (from + 1) + j ≡ from + suc j = omega arith in rw e (same (suc j) (omega arith))) in
    cc

pub ring_out : {C : Type 0} (cells after : List C) (base size from n : ℕ) → 0 < size → ((j : ℕ) → base ≤ j → j < base + size → cell_at after j ≡ cell_at cells j) → ring after base size from n ≡ ring cells base size from n
ring_out cells after base size from n pos same =
    ring_keep cells after base size from n (λ j l. let m : (from + j) % size < size = mod-lt (from + j) pos in same (base + (from + j) % size) (omega arith) (omega arith))

-- a cell that is put at the end of a ring that has room
pub ring_put : {C : Type 0} (cells : List C) (base size from n : ℕ) (c : C) → n < size → base + size ≤ length cells → ring (set cells (base + (from + n) % size) c) base size from (suc n) ≡ ring cells base size from n ++ (c ∷ [])
ring_put cells base size from n c room fits =
    let m : (from + n) % size < size = mod-lt (from + n) (omega arith) in
    let at = base + (from + n) % size in
    let kept = ring_keep cells (set cells at c) base size from n (λ j l. cell_other cells at (base + (from + j) % size) c (λ e. mod_apart (from + j) (from + n) size (omega arith) (omega arith) (omega arith))) in
    let new = cell_same cells at c (omega arith) in
    let push = ring_push (set cells at c) base size from n in
    cc

-- rings side by side

pub rings_keep : {C : Type 0} (cells after : List C) (size base : ℕ) (hs : List Head) → 0 < size → ((j : ℕ) → base ≤ j → cell_at after j ≡ cell_at cells j) → rings after size base hs ≡ rings cells size base hs
rings_keep cells after size base [] pos same = refl
rings_keep cells after size base (h ∷ hs) pos same =
    let here = ring_out cells after base size h.first h.count pos (λ j l u. same j l) in
    let on = rings_keep cells after size (base + size) hs pos (λ j l. same j (omega arith)) in
    cc

-- head k changes, and cells of its row alone: so does tray k alone
pub rings_step : {C : Type 0} (cells after : List C) (size base : ℕ) (hs : List Head) (k : ℕ) (h' : Head) → 0 < size
    → ((j : ℕ) → (j < base + k * size) ⊎ (base + k * size + size ≤ j) → cell_at after j ≡ cell_at cells j)
    → rings after size base (set hs k h') ≡ set (rings cells size base hs) k (ring after (base + k * size) size h'.first h'.count)
rings_step cells after size base [] k h' pos same = refl
rings_step cells after size base (h ∷ hs) zero h' pos same =
    let z : base + zero * size ≡ base = rw (zero-mul, add-zero) in
    let on = rings_keep cells after size (base + size) hs pos (λ j l. same j (inr (omega arith))) in
    rw z (ap (λ t. ring after base size h'.first h'.count ∷ t) on)
rings_step cells after size base (h ∷ hs) (suc k) h' pos same =
    let e : (base + size) + k * size ≡ base + suc k * size = omega (arith, suc-mul k size) in
    let here = ring_out cells after base size h.first h.count pos (λ j l u. same j (inl (omega arith))) in
    let on = rings_step cells after size (base + size) hs k h' pos
    (λ j s. same j (elim s [ inl l ↦ inl (omega arith) | inr u ↦ inr (omega arith) ])) in
    let moved = ap (λ b. ring after b size h'.first h'.count) e in
    cc

pub held_counted : {C : Type 0} (cells : List C) (size base : ℕ) (hs : List Head) → 0 < size → base + length hs * size ≤ length cells → held_in (rings cells size base hs) ≡ counted hs
held_counted cells size base [] pos fits = refl
held_counted cells size base (h ∷ hs) pos fits =
    let e = suc-mul (length hs) size in
    let here = ring_length cells base size h.first h.count pos (omega arith) in
    let on = held_counted cells size (base + size) hs pos (omega arith) in
    omega arith

pub counted_room : (size : ℕ) (hs : List Head) (k : ℕ) → ((k : ℕ) → (head_at hs k).count ≤ size) → k < length hs → (head_at hs k).count < size → counted hs < length hs * size
counted_room size [] k w l room = absurd (omega arith)
counted_room size (h ∷ hs) zero w l room =
    let e = suc-mul (length hs) size in
    let on = counted_within size hs (λ k. w (suc k)) in
    omega arith
counted_room size (h ∷ hs) (suc k) w l room =
    let e = suc-mul (length hs) size in
    let here = w 0 in
    let on = counted_room size hs k (λ k. w (suc k)) (omega arith) room in
    omega arith

-- the trays of a row bank

pub row_count : {C : Type 0} (cells : List C) (size n : ℕ) (heads : List Head) → n ≤ length heads → length (row_trays cells size n heads) ≡ n
row_count cells size n heads fits = rings_length cells size 0 (take n heads) ∙ rw length-take (omega arith)

pub row_fits : (k n size len : ℕ) → k < n → n * size ≤ len → k * size + size ≤ len
row_fits k n size len l fits =
    let more : suc k * size ≤ n * size = mul-le-mul_right size (omega arith) in
    omega (arith, suc-mul k size)

pub row_at : {C : Type 0} (cells : List C) (size n : ℕ) (heads : List Head) (k : ℕ) → k < n → tray_at (row_trays cells size n heads) k ≡ ring cells (k * size) size (head_at heads k).first (head_at heads k).count
row_at cells size n heads k l =
    let same : head_at (take n heads) k ≡ head_at heads k = get_or-take n heads k no_head l in
    rings_at cells size 0 (take n heads) k ∙ rw (zero-add, same)

pub row_past : {C : Type 0} (cells : List C) (size n : ℕ) (heads : List Head) (k : ℕ) → n ≤ k → tray_at (row_trays cells size n heads) k ≡ []
row_past cells size n heads k l =
    get_or_past (row_trays cells size n heads) k [] (rw (rings_length, length-take) (omega arith))

-- what a tray holds, as its head says
pub row_holds : {C : Type 0} (cells : List C) (size n : ℕ) (heads : List Head) (k : ℕ) → k < n → 0 < size → n * size ≤ length cells → length (tray_at (row_trays cells size n heads) k) ≡ (head_at heads k).count
row_holds cells size n heads k l pos fits =
    ap length (row_at cells size n heads k l) ∙ ring_length cells (k * size) size (head_at heads k).first (head_at heads k).count pos (row_fits k n size (length cells) l fits)

-- the same of a tray that may not be there
pub row_counts : {C : Type 0} (cells : List C) (size n : ℕ) (heads : List Head) (k : ℕ) → (0 < n → 0 < size) → n * size ≤ length cells → length (tray_at (row_trays cells size n heads) k) ≡ (head_at (take n heads) k).count
row_counts cells size n heads k some fits =
    elim (cases_lt k n) [
      | inl l ↦ row_holds cells size n heads k l (some (omega arith)) fits ∙ ap (λ h. h.count) (sym (get_or-take n heads k no_head l))
      | inr u ↦ ap length (row_past cells size n heads k u) ∙ ap (λ h. h.count) (sym (get_or_past (take n heads) k no_head (rw length-take (omega arith))))
    ]

pub row_held : {C : Type 0} (cells : List C) (size n : ℕ) (heads : List Head) → (0 < n → 0 < size) → n * size ≤ length cells → held_in (row_trays cells size n heads) ≡ counted (take n heads)
row_held cells size zero heads some fits = refl
row_held cells size (suc n) heads some fits =
    let m : length (take (suc n) heads) ≤ suc n = rw length-take (omega arith) in
    let l : length (take (suc n) heads) * size ≤ suc n * size = mul-le-mul_right size m in
    held_counted cells size 0 (take (suc n) heads) (some (omega arith)) (omega arith)

-- a tray that has room leaves room in all
pub row_room : {C : Type 0} (cells : List C) (size n : ℕ) (heads : List Head) (k : ℕ) → ((k : ℕ) → (head_at heads k).count ≤ size) → n ≤ length heads → k < n → (head_at heads k).count < size → held_in (row_trays cells size n heads) < n * size
row_room cells size n heads k w long l room =
    let same : head_at (take n heads) k ≡ head_at heads k = get_or-take n heads k no_head l in
    let m : length (take n heads) ≡ n = rw length-take (omega arith) in
    let h = held_at_most cells size 0 (take n heads) in
    let s = counted_room size (take n heads) k (within_front size n heads w) (omega arith) (rw same room) in
    omega (arith, ap (λ j. j * size) m)

pub row_put : {C : Type 0} (cells : List C) (size n : ℕ) (heads : List Head) (k : ℕ) (c : C) → k < n → n * size ≤ length cells → (head_at heads k).count < size
    → row_trays (set cells (ring_place size k (head_at heads k) (head_at heads k).count) c) size n (set heads k (one_more (head_at heads k)))
    ≡ set (row_trays cells size n heads) k (tray_at (row_trays cells size n heads) k ++ (c ∷ []))
row_put cells size n heads k c l fits room =
    let h = head_at heads k in
    let at = k * size + (h.first + h.count) % size in
    let m : (h.first + h.count) % size < size = mod-lt (h.first + h.count) (omega arith) in
    let long = row_fits k n size (length cells) l fits in
    let new = one_more h in
    let cut : take n (set heads k new) ≡ set (take n heads) k new = take-set-lt n heads k new l in
    let step = rings_step cells (set cells at c) size 0 (take n heads) k new (omega arith)
    (λ j s. cell_other cells at j c (λ e. elim s [ inl u ↦ omega arith | inr u ↦ omega arith ])) in
    let z : 0 + k * size ≡ k * size = zero-add (k * size) in
    let one : h.count + 1 ≡ suc h.count = add-one h.count in
    let ringed : ring (set cells at c) (k * size) size h.first (h.count + 1) ≡ tray_at (row_trays cells size n heads) k ++ (c ∷ []) =
    rw one (ring_put cells (k * size) size h.first h.count c room long) ∙ ap (λ t. t ++ (c ∷ [])) (sym (row_at cells size n heads k l)) in
    cc

pub row_take : {C : Type 0} (cells : List C) (size n : ℕ) (heads : List Head) (k : ℕ) (c : C) → k < n → n * size ≤ length cells → 0 < size → 0 < (head_at heads k).count
    → c ≡ get_or cells (ring_place size k (head_at heads k) 0) c
    → (Some c ≡ first_of (tray_at (row_trays cells size n heads) k))
    × (row_trays cells size n (set heads k (one_less size (head_at heads k)))
    ≡ set (row_trays cells size n heads) k (without_first (tray_at (row_trays cells size n heads) k)))
row_take cells size n heads k c l fits pos some read =
    let h = head_at heads k in
    let m : h.first % size < size = mod-lt h.first pos in
    let long = row_fits k n size (length cells) l fits in
    let new = one_less size h in
    let rest = ring cells (k * size) size (h.first + 1) (h.count - 1) in
    let one : h.count ≡ suc (h.count - 1) = omega arith in
    let tray : tray_at (row_trays cells size n heads) k ≡ c ∷ rest =
    row_at cells size n heads k l ∙ ap (λ j. ring cells (k * size) size h.first j) one
    ∙ ap (λ t. t ++ rest) (cell_read cells (k * size + h.first % size) c (omega arith) (rw add-zero at read)) in
    let cut : take n (set heads k new) ≡ set (take n heads) k new = take-set-lt n heads k new l in
    let step = rings_step cells cells size 0 (take n heads) k new pos (λ j s. refl) in
    let z : 0 + k * size ≡ k * size = zero-add (k * size) in
    let turned = ring_mod cells (k * size) size (h.first + 1) (h.count - 1) in
    let left : without_first (tray_at (row_trays cells size n heads) k) ≡ rest = ap without_first tray in
    (sym (ap first_of tray), cc)

-- a tray that holds something is there, and its head counts a cell
pub row_exists : {C : Type 0} (cells : List C) (size n : ℕ) (heads : List Head) (k : ℕ) → (0 < n → 0 < size) → n * size ≤ length cells → 0 < length (tray_at (row_trays cells size n heads) k) → (k < n) × (0 < (head_at heads k).count)
row_exists cells size n heads k some fits holds =
    elim (cases_lt k n) [
      | inl l ↦ let h = row_holds cells size n heads k l (some (omega arith)) fits in (l, omega arith)
      | inr u ↦ absurd (let e = ap length (row_past cells size n heads k u) in omega arith)
    ]

pub rings_none : {C : Type 0} (cells : List C) (size base n : ℕ) → rings cells size base (replicate n no_head) ≡ replicate n []
rings_none cells size base zero = refl
rings_none cells size base (suc n) = ap (λ t. [] ∷ t) (rings_none cells size (base + size) n)

pub row_none : {C : Type 0} (cells : List C) (size n m : ℕ) (heads : List Head) → n ≤ 128 → n ≡ m → heads ≡ replicate 128 no_head → row_trays cells size n heads ≡ replicate m []
row_none cells size n m heads few en eh =
    let cut : take n heads ≡ replicate n no_head = ap (take n) eh ∙ take-replicate n 128 no_head few in
    ap (rings cells size 0) cut ∙ rings_none cells size 0 n ∙ ap (λ k. replicate k []) en

-- the place after the last cell of a ring that has room is the place of no entry of any ring
pub row_free : (heads : List Head) (size k : ℕ) → (head_at heads k).count < size → (i j : ℕ) → j < (head_at heads i).count
    → ring_place size k (head_at heads k) (head_at heads k).count ≡ ring_place size i (head_at heads i) j → ⊥
row_free heads size k room i j lt e =
    let a : ((head_at heads k).first + (head_at heads k).count) % size < size = mod-lt _ (omega arith) in
    let b : ((head_at heads i).first + j) % size < size = mod-lt _ (omega arith) in
    elim (cases_order k i) [
      | inl same ↦
          let m = ap (λ x. x * size) same in
          let n = ap (λ x. (head_at heads x).count) same in
          let o = ap (λ x. ((head_at heads x).first + j) % size) same in
          mod_apart ((head_at heads k).first + j) ((head_at heads k).first + (head_at heads k).count) size (omega arith) (omega arith) (omega arith)
      | inr other ↦ elim other [
        | inl less ↦ let m : suc k * size ≤ i * size = mul-le-mul_right size (omega arith) in omega (arith, suc-mul k size)
        | inr more ↦ let m : suc i * size ≤ k * size = mul-le-mul_right size (omega arith) in omega (arith, suc-mul i size)
      ]
    ]

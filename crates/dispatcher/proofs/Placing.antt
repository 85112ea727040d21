-- The trays by their number: which entries lie in tray k. The same facts as of the trays ahead of the cycle.
use Rattle.std.proofs.Common.{◌≡◌, ℕ, ◌+◌, ◌-◌, ◌*◌, ◌/◌, ◌%◌, ◌<◌, ◌≤◌, Bool, true, false, cond, eqb, List, [], ◌∷◌, ◌++◌, filter, sym, refl, ap, ◌∙◌, subst, ⊎_elim, add-zero, mod-lt, mod-eq_of_lt, arith}
use native.Mathlib.Nat.{add-mod-mod, add-mod_right, div-add-mod, mul-add-mod_self_left}
use Rattle.std.specs.List.{AllByRecursion as All}
use Rattle.std.proofs.lemmas.List.Elements.{filter-append}
use Rattle.std.proofs.ByRecursion.{All-weaker}
use Rattle.std.proofs.lemmas.List.{append-nil}
use Rattle.std.proofs.lemmas.Bool.{cases_eq, eq-eqb, ne_eqb}
use Rattle.banks.specs.declared.cell.Cell.{Cell}
use Rattle.banks.specs.Trays.{tray_at}
use Rattle.dispatcher.specs.declared.entry.Entry.{Entry}
use Rattle.dispatcher.specs.Machine.{due_at}
use Rattle.dispatcher.specs.Shown.{Running, cells}
use Rattle.dispatcher.proofs.Rings.{other_place}
use Rattle.dispatcher.proofs.Queues.{kept_all, kept_none}

-- each tray is that of some cycle from z to z + N
reached : (n z k : ℕ) → k < n → (z + (k + (n - z % n)) % n) % n ≡ k
reached n z k l =
    let a = div-add-mod z n in
    let b : z % n < n = mod-lt z (omega arith) in
    let e : z + (k + (n - z % n)) ≡ n * (z / n) + (k + n) = omega arith in
    add-mod-mod z (k + (n - z % n)) n ∙ ap (λ x. x % n) e ∙ mul-add-mod_self_left n (z / n) (k + n) ∙ add-mod_right k n ∙ mod-eq_of_lt l

module _ {M : Type 0} where
  -- the entry lies in the tray k of n
  abbrev pub lies_in : ℕ → ℕ → Entry M → Bool
  lies_in n k e = eqb (e.deadline % n) k

  kept_alike : (p q : Entry M → Bool) (es : List (Entry M)) → All (λ e. p e ≡ q e) es → filter p es ≡ filter q es
  kept_alike p q [] a = refl
  kept_alike p q (e ∷ es) a = ap (λ b. cond b (e ∷ filter p es) (filter p es)) a.0 ∙ ap (λ ys. cond (q e) (e ∷ ys) ys) (kept_alike p q es a.1)

  module _ (N z : ℕ) (P W : List (Entry M)) (due : All (λ e. (z < e.deadline) × (e.deadline ≤ z + N)) P) (now : All (λ e. e.deadline ≡ z) W) where
    -- of the entries in the tray of z + f, for f from 1 to N
    pub kept_ahead : (f : ℕ) → 0 < f → f ≤ N → filter (lies_in (N + 1) ((z + f) % (N + 1))) (W ++ P) ≡ filter (due_at (z + f)) P
    kept_ahead f low high =
        filter-append t W P
        ∙ ap (λ u. u ++ filter t P) (kept_none t W (All-weaker (λ e. e.deadline ≡ z) (λ e. t e ≡ false) (λ e j. ne_eqb (e.deadline % (N + 1)) ((z + f) % (N + 1)) (λ h. other_place (N + 1) z 0 f (omega arith) (omega arith) (λ i. omega arith) (ap (λ y. y % (N + 1)) (add-zero z ∙ sym j) ∙ h))) W now))
        ∙ kept_alike t (due_at (z + f)) P (All-weaker (λ e. (z < e.deadline) × (e.deadline ≤ z + N)) (λ e. t e ≡ due_at (z + f) e) same P due)
      where
        t : Entry M → Bool
        t = lies_in (N + 1) ((z + f) % (N + 1))

        same : (e : Entry M) → (z < e.deadline) × (e.deadline ≤ z + N) → t e ≡ due_at (z + f) e
        same e h =
            ⊎_elim (λ (j : e.deadline ≡ z + f). eq-eqb (e.deadline % (N + 1)) ((z + f) % (N + 1)) (ap (λ y. y % (N + 1)) j) ∙ sym (eq-eqb e.deadline (z + f) j))
            (λ (n : e.deadline ≡ z + f → ⊥).
            let a = h.0 in let b = h.1 in
            let q : z + (e.deadline - z) ≡ e.deadline = omega arith in
            ne_eqb (e.deadline % (N + 1)) ((z + f) % (N + 1)) (λ h. other_place (N + 1) z (e.deadline - z) f (omega arith) (omega arith) (λ j. n (omega arith)) (ap (λ y. y % (N + 1)) q ∙ h)) ∙ sym (ne_eqb e.deadline (z + f) n))
            (cases_eq e.deadline (z + f))

    pub kept_here : filter (lies_in (N + 1) (z % (N + 1))) (W ++ P) ≡ W
    kept_here =
        filter-append t W P
        ∙ ap (λ u. u ++ filter t P) (kept_all t W (All-weaker (λ e. e.deadline ≡ z) (λ e. t e ≡ true) (λ e j. eq-eqb (e.deadline % (N + 1)) (z % (N + 1)) (ap (λ y. y % (N + 1)) j)) W now))
        ∙ ap (λ u. W ++ u) (kept_none t P (All-weaker (λ e. (z < e.deadline) × (e.deadline ≤ z + N)) (λ e. t e ≡ false) (λ e j. let a = j.0 in let b = j.1 in let q : z + (e.deadline - z) ≡ e.deadline = omega arith in ne_eqb (e.deadline % (N + 1)) (z % (N + 1)) (λ h. other_place (N + 1) z (e.deadline - z) 0 (omega arith) (omega arith) (λ i. omega arith) (ap (λ y. y % (N + 1)) q ∙ h ∙ ap (λ y. y % (N + 1)) (sym (add-zero z))))) P due))
        ∙ append-nil W
      where
        t : Entry M → Bool
        t = lies_in (N + 1) (z % (N + 1))

  -- tray k holds the entries whose deadline has the remainder k, the waiting ones first
  pub by_number : {ts : List (List (Cell M))} {N z s : ℕ} {P W : List (Entry M)} → Running ts N z s P W → (k : ℕ) → k < N + 1 → tray_at ts k ≡ cells (filter (lies_in (N + 1) k) (W ++ P))
  by_number {ts} {N} {z} {s} {P} {W} r k l =
      subst (λ x. tray_at ts x ≡ cells (filter (lies_in (N + 1) x) (W ++ P))) (reached (N + 1) z k l)
      (⊎_elim
      (λ (e : f ≡ 0). subst (λ x. tray_at ts ((z + x) % (N + 1)) ≡ cells (filter (lies_in (N + 1) ((z + x) % (N + 1))) (W ++ P))) (sym e)
      (subst (λ x. tray_at ts (x % (N + 1)) ≡ cells (filter (lies_in (N + 1) (x % (N + 1))) (W ++ P))) (sym (add-zero z)) (r.here ∙ sym (ap cells (kept_here N z P W r.pending_due r.waiting_due)))))
      (λ (n : f ≡ 0 → ⊥).
      let low : 0 < f = omega arith in
      let lt : f < N + 1 = mod-lt (k + (N + 1 - z % (N + 1))) (omega arith) in
      r.ahead f low (omega arith) ∙ sym (ap cells (kept_ahead N z P W r.pending_due r.waiting_due f low (omega arith))))
      (cases_eq f 0))
    where
      f : ℕ
      f = (k + (N + 1 - z % (N + 1))) % (N + 1)

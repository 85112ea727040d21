-- The cells in the trays of an open dispatcher are just its entries, each once.
use Rattle.std.proofs.Common.{◌≡◌, ℕ, suc, ◌+◌, ◌%◌, ◌<◌, Bool, true, false, cond, ◌&&◌, eqb, leb, List, [], ◌∷◌, ◌++◌, length, count_by, filter, sym, refl, ap, ◌∙◌, subst, ⊎_elim, mod-lt, arith}
use Rattle.std.specs.List.{AllByRecursion as All}
use Rattle.std.proofs.ByRecursion.{All-weaker}
use Rattle.std.proofs.lemmas.Bool.{cases_order, eq-eqb, le-leb, lt-leb, ne_eqb}
use Rattle.banks.specs.declared.cell.Cell.{Cell}
use Rattle.banks.specs.Trays.{tray_at}
use Rattle.dispatcher.specs.History.{lying}
use Rattle.dispatcher.specs.Machine.{Entry}
use Rattle.dispatcher.specs.Shown.{Running, cells}
use Rattle.dispatcher.specs.WholeRuns.{lying_in}
use Rattle.dispatcher.proofs.Places.{count_append, count_cons, count_kept, countBy_both, countBy_same}
use Rattle.dispatcher.proofs.Placing.{by_number, lies_in}
use Rattle.dispatcher.proofs.Queues.{count_none}

module _ {M : Type 0} where
  cells_count : (r : ℕ) (es : List (Entry M)) → count_by (λ c. eqb c.receipt r) (cells es) ≡ lying es r
  cells_count r [] = refl
  cells_count r (e ∷ es) =
      count_cons (λ c. eqb c.receipt r) (record { receipt = e.receipt; message = e.message }) (cells es)
      ∙ ap (λ n. cond (eqb e.receipt r) 1 0 + n) (cells_count r es)
      ∙ sym (count_cons (λ f. eqb f.receipt r) e es)

  -- the receipt r, in the tray j of n or a later one
  from_tray : ℕ → ℕ → ℕ → Entry M → Bool
  from_tray n j r e = leb j (e.deadline % n) && eqb e.receipt r

  split : (n j r : ℕ) (e : Entry M) → cond (lies_in n j e && eqb e.receipt r) 1 0 + cond (from_tray n (j + 1) r e) 1 0 ≡ cond (from_tray n j r e) 1 0
  unfolding from_tray
  split n j r e =
      let k = e.deadline % n in
      let t = eqb e.receipt r in
      ⊎_elim
      (λ (same : j ≡ k). go (eqb k j) (leb (j + 1) k) (leb j k) t (eq-eqb k j (sym same)) (lt-leb (j + 1) k (omega arith)) (le-leb j k (omega arith)))
      (⊎_elim
      (λ (less : j < k). gone (eqb k j) (leb (j + 1) k) (leb j k) t (ne_eqb k j (λ h. omega arith)) (le-leb (j + 1) k (omega arith)) (le-leb j k (omega arith)))
      (λ (more : k < j). past (eqb k j) (leb (j + 1) k) (leb j k) t (ne_eqb k j (λ h. omega arith)) (lt-leb (j + 1) k (omega arith)) (lt-leb j k more)))
      (cases_order j k)
    where
      go : (a b c t : Bool) → a ≡ true → b ≡ false → c ≡ true → ◌≡◌ {A = ℕ} (cond (a && t) 1 0 + cond (b && t) 1 0) (cond (c && t) 1 0)
      go a b c true x y z = rw (x, y, z) refl
      go a b c false x y z = rw (x, y, z) refl

      gone : (a b c t : Bool) → a ≡ false → b ≡ true → c ≡ true → ◌≡◌ {A = ℕ} (cond (a && t) 1 0 + cond (b && t) 1 0) (cond (c && t) 1 0)
      gone a b c true x y z = rw (x, y, z) refl
      gone a b c false x y z = rw (x, y, z) refl

      past : (a b c t : Bool) → a ≡ false → b ≡ false → c ≡ false → ◌≡◌ {A = ℕ} (cond (a && t) 1 0 + cond (b && t) 1 0) (cond (c && t) 1 0)
      past a b c true x y z = rw (x, y, z) refl
      past a b c false x y z = rw (x, y, z) refl

  past_all : (n j r : ℕ) (es : List (Entry M)) → All (λ e. e.deadline % n < j) es → count_by (from_tray n j r) es ≡ 0
  unfolding from_tray
  past_all n j r es a =
      count_none (from_tray n j r) es
      (All-weaker (λ e. e.deadline % n < j) (λ e. from_tray n j r e ≡ false) (λ e l. ap (λ b. b && eqb e.receipt r) (lt-leb j (e.deadline % n) l)) es a)

  trays_from : (ts : List (List (Cell M))) (n j r : ℕ) (es : List (Entry M)) → ((i : ℕ) → i < length ts → tray_at ts i ≡ cells (filter (lies_in n (j + i)) es)) → All (λ e. e.deadline % n < j + length ts) es → lying_in ts r ≡ count_by (from_tray n j r) es
  trays_from [] n j r es h a = sym (past_all n j r es (All-weaker (λ e. e.deadline % n < j + 0) (λ e. e.deadline % n < j) (λ e l. omega arith) es a))
  trays_from (t ∷ ts) n j r es h a =
      let first : t ≡ cells (filter (lies_in n j) es) = subst (λ k. t ≡ cells (filter (lies_in n k) es)) (let e : j + 0 ≡ j = omega arith in e) (h 0 (omega arith)) in
      let here : count_by (λ c. eqb c.receipt r) t ≡ count_by (λ e. lies_in n j e && eqb e.receipt r) es =
      ap (count_by (λ c. eqb c.receipt r)) first ∙ cells_count r (filter (lies_in n j) es) ∙ count_kept (lies_in n j) (λ e. eqb e.receipt r) es in
      let rest = trays_from ts n (j + 1) r es
      (λ i l. subst (λ k. tray_at ts i ≡ cells (filter (lies_in n k) es)) (let e : j + suc i ≡ j + 1 + i = omega arith in e) (h (suc i) (omega arith)))
      (All-weaker (λ e. e.deadline % n < j + suc (length ts)) (λ e. e.deadline % n < j + 1 + length ts) (λ e l. omega arith) es a) in
      ap (λ x. x + lying_in ts r) here ∙ ap (λ x. count_by (λ e. lies_in n j e && eqb e.receipt r) es + x) rest
      ∙ countBy_both (λ e. lies_in n j e && eqb e.receipt r) (from_tray n (j + 1) r) (from_tray n j r) (split n j r) es

  all_below : (n : ℕ) → 0 < n → (es : List (Entry M)) → All (λ e. e.deadline % n < 0 + n) es
  all_below n l [] = tt
  all_below n l (e ∷ es) = (let m = mod-lt e.deadline l in omega arith, all_below n l es)

  -- a receipt stands in the trays as often as among the entries
  pub trays_lying : {ts : List (List (Cell M))} {N z s : ℕ} {P W : List (Entry M)} → Running ts N z s P W → (r : ℕ) → lying_in ts r ≡ lying P r + lying W r
  unfolding from_tray
  trays_lying {ts} {N} {z} {s} {P} {W} run r =
      let n = run.trays in
      let each : (i : ℕ) → i < length ts → tray_at ts i ≡ cells (filter (lies_in (N + 1) (0 + i)) (W ++ P)) =
      (λ i l. subst (λ k. tray_at ts i ≡ cells (filter (lies_in (N + 1) k) (W ++ P))) (let e : i ≡ 0 + i = omega arith in e) (by_number run i (omega arith))) in
      let all : All (λ e. e.deadline % (N + 1) < 0 + length ts) (W ++ P) = subst (λ k. All (λ e. e.deadline % (N + 1) < 0 + k) (W ++ P)) (sym n) (all_below (N + 1) (omega arith) (W ++ P)) in
      let a = trays_from ts (N + 1) 0 r (W ++ P) each all in
      let b : count_by (from_tray (N + 1) 0 r) (W ++ P) ≡ lying (W ++ P) r = countBy_same (from_tray (N + 1) 0 r) (λ e. eqb e.receipt r) (λ e. ap (λ x. x && eqb e.receipt r) (le-leb 0 (e.deadline % (N + 1)) (omega arith))) (W ++ P) in
      let c = count_append (λ e. eqb e.receipt r) W P in
      omega arith

-- The call warn: a sum of trays is how many are due.
use Rattle.std.proofs.Common.{◌≡◌, ℕ, suc, ◌+◌, ◌-◌, ◌*◌, ◌<◌, ◌≤◌, true, false, cond, not, eqb, ltb, leb, List, [], ◌∷◌, length, Some, None, count_by, filter, Option, sym, refl, ap, ◌∙◌, subst, ⊎_elim, add-zero, arith}
use Rattle.std.specs.List.{AllByRecursion as All}
use Rattle.std.proofs.ByRecursion.{All-weaker}
use Rattle.std.proofs.lemmas.List.Sums.{length-filter, count_by-le-length, sum_by-cons}
use Rattle.std.proofs.lemmas.List.{length-map}
use Rattle.std.proofs.lemmas.Bool.{cases_order, eq-eqb, ne_eqb, le-leb, lt-leb, le-ltb, lt-ltb, cond-true, cond-false}
use Rattle.dispatcher.specs.declared.entry.Entry.{Entry}
use Rattle.dispatcher.specs.Machine.{Terms, State, limit, due_at, due_by, first_over, step}
use Rattle.dispatcher.specs.declared.call.Call.TheVariants.{Warn}
use Rattle.dispatcher.specs.declared.event.Event.TheVariants.{Warned}
use Rattle.dispatcher.specs.declared.entry.Warning.{Warning}
use Rattle.messages.specs.declared.refusal.Refusal.TheVariants.{Shut, TooManyServices}
use Rattle.dispatcher.specs.Views.{View}
use Rattle.dispatcher.specs.Search.{tray_ahead}
use Rattle.dispatcher.specs.Shown.{Shows, cell_of}
use Rattle.dispatcher.proofs.Queues.{count_none}
use Rattle.dispatcher.proofs.Calling.{accept, skip}

-- before the turn at f: so many are due by the cycle before z + f, and no warning was due
abbrev pub Counted : {M : Type 0} → ℕ → ℕ → ℕ → List (Entry M) → ℕ → ℕ → Type 0
Counted c z N P f due = (due ≡ due_by (z + (f - 1)) P) × (first_over c z P 1 N ≡ first_over c z P f (N + 1 - f))

module _ {M : Type 0} where
  due_next : (x : ℕ) (P : List (Entry M)) → due_by (x + 1) P ≡ due_by x P + count_by (due_at (x + 1)) P
  due_next x [] = refl
  due_next x (e ∷ P) =
      let ih = due_next x P in
      let a = sum_by-cons (λ y. cond (leb y.deadline (x + 1)) 1 0) e P in
      let b = sum_by-cons (λ y. cond (leb y.deadline x) 1 0) e P in
      let c = sum_by-cons (λ y. cond (due_at (x + 1) y) 1 0) e P in
      let k = here e.deadline in
      omega arith
    where
      here : (d : ℕ) → ◌≡◌ {A = ℕ} (cond (leb d (x + 1)) 1 0) (cond (leb d x) 1 0 + cond (eqb d (x + 1)) 1 0)
      here d =
          ⊎_elim (λ (j : d ≡ x + 1). rw (le-leb d (x + 1) (omega arith), lt-leb d x (omega arith), eq-eqb d (x + 1) j) refl)
          (⊎_elim (λ (j : d < x + 1). rw (le-leb d (x + 1) (omega arith), le-leb d x (omega arith), ne_eqb d (x + 1) (λ i. omega arith)) refl)
          (λ (j : x + 1 < d). rw (lt-leb d (x + 1) (omega arith), lt-leb d x (omega arith), ne_eqb d (x + 1) (λ i. omega arith)) refl))
          (cases_order d (x + 1))

  pub counted_none : (c z N : ℕ) (P : List (Entry M)) → All (λ e. z < e.deadline) P → Counted c z N P 1 0
  counted_none c z N P a = (
    sym (ap (λ x. due_by x P) (add-zero z) ∙ count_none (λ e. leb e.deadline z) P (All-weaker (λ e. z < e.deadline) (λ e. leb e.deadline z ≡ false) (λ e l. lt-leb e.deadline z l) P a)),
    ap (first_over c z P 1) (let e : N ≡ N + 1 - 1 = omega arith in e),
  )

  module _ (c z N : ℕ) (P : List (Entry M)) (f due : ℕ) (low : 0 < f) (high : f ≤ N) (k : Counted c z N P f due) where
    pub due_here : due_by (z + f) P ≡ due + count_by (due_at (z + f)) P
    due_here =
        let e : z + f ≡ z + (f - 1) + 1 = omega arith in
        subst (λ x. due_by x P ≡ due + count_by (due_at x) P) (sym e) (due_next (z + (f - 1)) P ∙ ap (λ n. n + count_by (due_at (z + (f - 1) + 1)) P) (sym k.0))

    unrolled : first_over c z P 1 N ≡ cond (ltb (c * f) (due_by (z + f) P)) (Some (record { ahead = f; load = due_by (z + f) P })) (first_over c z P (suc f) (N - f))
    unrolled = k.1 ∙ ap (first_over c z P f) (let e : N + 1 - f ≡ suc (N - f) = omega arith in e)

    pub counted_found : (d : ℕ) → due_by (z + f) P ≡ d → c * f < d → first_over c z P 1 N ≡ Some (record { ahead = f; load = d })
    counted_found d e l =
        unrolled ∙ cond-true (ltb (c * f) (due_by (z + f) P)) _ _ (lt-ltb (c * f) (due_by (z + f) P) (omega arith)) ∙ ap (λ x. Some (record { ahead = f; load = x })) e

    pub counted_more : (d : ℕ) → due_by (z + f) P ≡ d → d ≤ c * f → Counted c z N P (f + 1) d
    counted_more d e l = (
      sym e ∙ ap (λ x. due_by (z + x) P) (let q : f ≡ f + 1 - 1 = omega arith in q),
      unrolled ∙ cond-false (ltb (c * f) (due_by (z + f) P)) _ _ (le-ltb (c * f) (due_by (z + f) P) (omega arith))
          ∙ ap (λ x. first_over c z P x (N - f)) (let q : suc f ≡ f + 1 = omega arith in q) ∙ ap (first_over c z P (f + 1)) (let q : N - f ≡ N + 1 - (f + 1) = omega arith in q),
    )

  pub counted_all : (c z N : ℕ) (P : List (Entry M)) (f due : ℕ) → N + 1 ≤ f → Counted c z N P f due → first_over c z P 1 N ≡ None
  counted_all c z N P f due l k = k.1 ∙ ap (first_over c z P f) (let e : N + 1 - f ≡ 0 = omega arith in e)

-- what one more tray adds, and that the sum stays small
module _ {M : Type 0} (b : Terms M) (v : View M) (m : State M) (s : Shows b v m) (o : v.is_open ≡ true) where
  pub none_due : All (λ e. v.cycle < e.deadline) m.pending
  none_due = All-weaker (λ e. (v.cycle < e.deadline) × (e.deadline ≤ v.cycle + v.span)) (λ e. v.cycle < e.deadline) (λ e j. j.0) m.pending (s.agrees.running o).pending_due

  pub due_sum : (c f due n d : ℕ) → 0 < f → f ≤ v.span → Counted c v.cycle v.span m.pending f due → n ≡ length (tray_ahead v.trays v.span v.cycle f) → (due + n ≤ limit → d ≡ due + n) → due_by (v.cycle + f) m.pending ≡ d
  due_sum c f due n d low high k en ed =
      let a = s.agrees in
      let z = v.cycle in
      let P = m.pending in
      let h = due_here c z v.span P f due low high k in
      let t : n ≡ count_by (due_at (z + f)) P = en ∙ ap length ((a.running o).ahead f low high) ∙ length-map (filter (due_at (z + f)) P) cell_of ∙ length-filter (due_at (z + f)) P in
      let l = count_by-le-length (λ e. leb e.deadline (z + f)) P in
      let bk = a.booked in
      let gv = a.given in
      let fw = a.few in
      let e = ed (omega arith) in
      omega arith

  pub warns : (c : ℕ) (r : Option Warning) → c ≤ 1000 → first_over c v.cycle m.pending 1 v.span ≡ r → ((step b m (Warn c)).0 ≡ Warned c r) × Shows b v (step b m (Warn c)).1
  warns c r l e =
      let a = s.agrees in
      let sp = a.span in
      let tr = (a.running o).trays in
      accept b v m (Warn c) s v (Warned c r) (skip (not v.is_open) Shut _ (ap not o) ∙ skip (ltb 1000 c) TooManyServices None (le-ltb 1000 c l))
      (ap (λ x. Warned c x) (ap (first_over c v.cycle m.pending 1) (let q : b.span ≡ v.span = omega arith in q) ∙ e), subst (Shows b v) s.numbers s)

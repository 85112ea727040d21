-- What stays true of the trays of a dispatcher that is open, over each change of them.
use Rattle.std.proofs.Common.{◌≡◌, ℕ, ◌+◌, ◌-◌, ◌%◌, ◌<◌, ◌≤◌, Bool, true, false, cond, not, eqb, List, [], ◌∷◌, ◌++◌, length, set, count_by, filter, sym, refl, ap, ◌∙◌, subst, ⊎_elim, add-zero, mod-lt, arith}
use native.Mathlib.Nat.{add-mod_right}
use Rattle.std.specs.List.{AllByRecursion as All}
use Rattle.std.proofs.lemmas.List.Elements.{filter-append}
use Rattle.std.proofs.ByRecursion.{All-weaker, all_kept_by, All-push, kept_by_passes}
use Rattle.std.proofs.lemmas.List.Filters.{length-filter_both}
use Rattle.std.proofs.lemmas.List.Sums.{length-filter, sum_by-append}
use Rattle.std.proofs.lemmas.List.{get_or-set_same, get_or-set_other, length-set, length_push, length-map, map_push, append-nil}
use Rattle.std.proofs.lemmas.Bool.{cases_lt, cases_eq, eq-eqb, ne_eqb, eqb-true, eqb-false, not-true, not-false}
use Rattle.banks.specs.declared.cell.Cell.{Cell}
use Rattle.banks.specs.Trays.{tray_at, without_first}
use Rattle.dispatcher.specs.declared.entry.Entry.{Entry}
use Rattle.dispatcher.specs.Machine.{Terms, without, due_at, in_tray}
use Rattle.dispatcher.specs.Shown.{Running, cells, cell_of}
use Rattle.dispatcher.proofs.Rings.{other_place, held_set}
use Rattle.dispatcher.proofs.Queues.{removed, kept_yes, kept_no, kept_none, kept_twice, rising_kept, rising_push, count_same, count_none, all_both}

other_here : (n z f : ℕ) → 0 < f → f < n → z % n ≡ (z + f) % n → ⊥
other_here n z f l k e = other_place n z 0 f (omega arith) k (λ i. omega arith) (ap (λ x. x % n) (add-zero z) ∙ e)

module _ {M : Type 0} {ts : List (List (Cell M))} {N z s : ℕ} {P W : List (Entry M)} (r : Running ts N z s P W) where
  pub inside : (x : ℕ) → x % (N + 1) < length ts
  inside x = let a : x % (N + 1) < N + 1 = mod-lt x (omega arith) in let b = r.trays in omega arith

  pub running_post : (i : ℕ) (x : M) (after : List (List (Cell M))) → 0 < i → i ≤ N → after ≡ set ts ((z + i) % (N + 1)) (tray_at ts ((z + i) % (N + 1)) ++ record { receipt = s; message = x } ∷ []) → Running after N z (s + 1) (P ++ record { receipt = s; message = x; deadline = z + i } ∷ []) W
  running_post i x after low high e = subst (λ t. Running t N z (s + 1) (P ++ new ∷ []) W) (sym e) go
    where
      new : Entry M
      new = record { receipt = s; message = x; deadline = z + i }

      k : ℕ
      k = (z + i) % (N + 1)

      t : List (Cell M)
      t = tray_at ts k ++ cell_of new ∷ []

      go : Running (set ts k t) N z (s + 1) (P ++ new ∷ []) W
      go =
          record {
            some = r.some;
            trays = length-set ts k t ∙ r.trays;
            here = get_or-set_other ts k (z % (N + 1)) t [] (λ j. other_here (N + 1) z i low (omega arith) j) ∙ r.here;
            ahead = λ f l h. ⊎_elim
                (λ (j : f ≡ i).
                subst (λ g. tray_at (set ts k t) ((z + g) % (N + 1)) ≡ cells (filter (due_at (z + g)) (P ++ new ∷ []))) (sym j)
                (get_or-set_same ts k t [] (inside (z + i))
                ∙ ap (λ u. u ++ cell_of new ∷ []) (r.ahead i low high)
                ∙ sym (ap cells (filter-append (due_at (z + i)) P (new ∷ []) ∙ ap (λ u. filter (due_at (z + i)) P ++ u) (kept_yes (due_at (z + i)) new [] (eq-eqb (z + i) (z + i) refl))) ∙ map_push cell_of (filter (due_at (z + i)) P) new)))
                (λ (d : f ≡ i → ⊥).
                get_or-set_other ts k ((z + f) % (N + 1)) t [] (λ j. other_place (N + 1) z f i (omega arith) (omega arith) d j)
                ∙ r.ahead f l h
                ∙ sym (ap cells (filter-append (due_at (z + f)) P (new ∷ []) ∙ ap (λ u. filter (due_at (z + f)) P ++ u) (kept_no (due_at (z + f)) new [] (ne_eqb (z + i) (z + f) (λ j. d (omega arith)))) ∙ append-nil (filter (due_at (z + f)) P))))
                (cases_eq f i);
            held = let a = held_set ts k t (inside (z + i)) in let b = length_push (tray_at ts k) (cell_of new) in let d = length_push P new in let h = r.held in omega arith;
            pending_due = All-push (λ e. (z < e.deadline) × (e.deadline ≤ z + N)) P new r.pending_due (omega arith, omega arith);
            waiting_due = r.waiting_due;
            rising = rising_push P new r.rising r.given;
            given = All-push (λ e. e.receipt < s + 1) P new (All-weaker (λ e. e.receipt < s) (λ e. e.receipt < s + 1) (λ e l. omega arith) P r.given) (omega arith);
          }

  pub running_dispatch : (f : ℕ) (e : Entry M) (rest : List (Entry M)) (after : List (List (Cell M))) → 0 < f → f ≤ N → filter (due_at (z + f)) P ≡ e ∷ rest → after ≡ set ts ((z + f) % (N + 1)) (without_first (tray_at ts ((z + f) % (N + 1)))) → Running after N z s (without e P) W
  running_dispatch f e rest after low high q eq = subst (λ t. Running t N z s (without e P) W) (sym eq) go
    where
      k : ℕ
      k = (z + f) % (N + 1)

      t : List (Cell M)
      t = without_first (tray_at ts k)

      go : Running (set ts k t) N z s (without e P) W
      go =
          let d = removed (due_at (z + f)) P e rest r.rising q in
          let due = eqb-true e.deadline (z + f) d.passes in
          let tray : tray_at ts k ≡ cells (e ∷ rest) = r.ahead f low high ∙ ap cells q in
          record {
            some = r.some;
            trays = length-set ts k t ∙ r.trays;
            here = get_or-set_other ts k (z % (N + 1)) t [] (λ j. other_here (N + 1) z f low (omega arith) j) ∙ r.here;
            ahead = λ g l h. ⊎_elim
                (λ (j : g ≡ f).
                subst (λ x. tray_at (set ts k t) ((z + x) % (N + 1)) ≡ cells (filter (due_at (z + x)) (without e P))) (sym j)
                (get_or-set_same ts k t [] (inside (z + f)) ∙ ap without_first tray ∙ sym (ap cells d.left)))
                (λ (n : g ≡ f → ⊥).
                get_or-set_other ts k ((z + g) % (N + 1)) t [] (λ j. other_place (N + 1) z g f (omega arith) (omega arith) n j)
                ∙ r.ahead g l h
                ∙ sym (ap cells (d.others (due_at (z + g)) (ne_eqb e.deadline (z + g) (λ j. n (omega arith))))))
                (cases_eq g f);
            held = let a = held_set ts k t (inside (z + f)) in let b = ap length tray in let c = ap (λ u. length (without_first u)) tray in let m = d.count in let h = r.held in omega arith;
            pending_due = all_kept_by (λ x. not (eqb e.receipt x.receipt)) (λ e. (z < e.deadline) × (e.deadline ≤ z + N)) P r.pending_due;
            waiting_due = r.waiting_due;
            rising = rising_kept (λ x. not (eqb e.receipt x.receipt)) P r.rising;
            given = all_kept_by (λ x. not (eqb e.receipt x.receipt)) (λ e. e.receipt < s) P r.given;
          }

  -- how many entries lie in the tray of z + i
  pub in_tray_is : (b : Terms M) (i : ℕ) → b.span ≡ N → 0 < i → i ≤ N → in_tray b (z + i) (P ++ W) ≡ length (tray_at ts ((z + i) % (N + 1)))
  in_tray_is b i e low high =
      ap (λ n. count_by (λ x. eqb (x.deadline % (n + 1)) ((z + i) % (n + 1))) (P ++ W)) e
      ∙ sum_by-append (λ x. cond (test x) 1 0) P W
      ∙ ap (λ n. count_by test P + n) (count_none test W (All-weaker (λ x. x.deadline ≡ z) (λ x. test x ≡ false) (λ x j. ne_eqb (x.deadline % (N + 1)) ((z + i) % (N + 1)) (λ h. other_here (N + 1) z i low (omega arith) (ap (λ y. y % (N + 1)) (sym j) ∙ h))) W r.waiting_due))
      ∙ add-zero (count_by test P)
      ∙ count_same test (due_at (z + i)) P (All-weaker (λ x. (z < x.deadline) × (x.deadline ≤ z + N)) (λ x. test x ≡ due_at (z + i) x) same P r.pending_due)
      ∙ sym (length-filter (due_at (z + i)) P)
      ∙ sym (length-map (filter (due_at (z + i)) P) cell_of)
      ∙ sym (ap length (r.ahead i low high))
    where
      test : Entry M → Bool
      test x = eqb (x.deadline % (N + 1)) ((z + i) % (N + 1))

      same : (x : Entry M) → (z < x.deadline) × (x.deadline ≤ z + N) → test x ≡ due_at (z + i) x
      same x h =
          ⊎_elim (λ (j : x.deadline ≡ z + i). eq-eqb (x.deadline % (N + 1)) ((z + i) % (N + 1)) (ap (λ y. y % (N + 1)) j) ∙ sym (eq-eqb x.deadline (z + i) j))
          (λ (n : x.deadline ≡ z + i → ⊥).
          let a = h.0 in let b = h.1 in
          let q : z + (x.deadline - z) ≡ x.deadline = omega arith in
          ne_eqb (x.deadline % (N + 1)) ((z + i) % (N + 1)) (λ h. other_place (N + 1) z (x.deadline - z) i (omega arith) (omega arith) (λ j. n (omega arith)) (ap (λ y. y % (N + 1)) q ∙ h)) ∙ sym (ne_eqb x.deadline (z + i) n))
          (cases_eq x.deadline (z + i))

  -- once the first waiting entry is named
  pub running_name : (e : Entry M) (es : List (Entry M)) (after : List (List (Cell M))) → W ≡ e ∷ es → after ≡ set ts (z % (N + 1)) (without_first (tray_at ts (z % (N + 1)))) → Running after N z s P es
  running_name e es after q eq = subst (λ t. Running t N z s P es) (sym eq) go
    where
      k : ℕ
      k = z % (N + 1)

      t : List (Cell M)
      t = without_first (tray_at ts k)

      go : Running (set ts k t) N z s P es
      go =
          let tray : tray_at ts k ≡ cells (e ∷ es) = r.here ∙ ap cells q in
          record {
            some = r.some;
            trays = length-set ts k t ∙ r.trays;
            here = get_or-set_same ts k t [] (inside z) ∙ ap without_first tray;
            ahead = λ f l h. get_or-set_other ts k ((z + f) % (N + 1)) t [] (λ j. other_here (N + 1) z f l (omega arith) (sym j)) ∙ r.ahead f l h;
            held = let a = held_set ts k t (inside z) in let b = ap length tray in let c = ap (λ u. length (without_first u)) tray in let d = ap length q in let h = r.held in let x = length-map es cell_of in omega arith;
            pending_due = r.pending_due;
            waiting_due = (subst (All (λ e. e.deadline ≡ z)) q r.waiting_due).1;
            rising = r.rising;
            given = r.given;
          }

  -- at the next cycle, where none waits
  pub running_turn : W ≡ [] → Running ts N (z + 1) s (filter (λ e. not (due_at (z + 1) e)) P) (filter (due_at (z + 1)) P)
  running_turn nil =
      record {
        some = r.some;
        trays = r.trays;
        here = r.ahead 1 (omega arith) r.some;
        ahead = λ f l h. ⊎_elim
            (λ (k : f < N).
            subst (λ t. tray_at ts (t % (N + 1)) ≡ cells (filter (due_at t) P)) (let e : z + (f + 1) ≡ z + 1 + f = omega arith in e) (r.ahead (f + 1) (omega arith) (omega arith))
            ∙ sym (ap cells (kept_twice rest (due_at (z + 1 + f)) (λ x j. let d = eqb-true x.deadline (z + 1) (not-false (due_at (z + 1) x) j) in ne_eqb x.deadline (z + 1 + f) (λ i. omega arith)) P)))
            (λ (k : N ≤ f).
            let e : z + 1 + f ≡ z + (N + 1) = omega arith in
            ap (tray_at ts) (ap (λ t. t % (N + 1)) e ∙ add-mod_right z (N + 1)) ∙ r.here ∙ ap cells nil
            ∙ sym (ap cells (kept_none (due_at (z + 1 + f)) (filter rest P) (all_kept_by rest (λ x. due_at (z + 1 + f) x ≡ false) P (All-weaker (λ e. (z < e.deadline) × (e.deadline ≤ z + N)) (λ x. due_at (z + 1 + f) x ≡ false) (λ x j. let d = j.1 in ne_eqb x.deadline (z + 1 + f) (λ i. omega arith)) P r.pending_due)))))
            (cases_lt f N);
        held = let a = r.held in let b = ap length nil in let c = length-filter_both (due_at (z + 1)) rest (λ _. refl) P in omega arith;
        pending_due = all_both (λ e. rest e ≡ true) (λ e. (z < e.deadline) × (e.deadline ≤ z + N)) (λ e. (z + 1 < e.deadline) × (e.deadline ≤ z + 1 + N)) after (filter rest P) (kept_by_passes rest P) (all_kept_by rest (λ e. (z < e.deadline) × (e.deadline ≤ z + N)) P r.pending_due);
        waiting_due = All-weaker (λ e. due_at (z + 1) e ≡ true) (λ e. e.deadline ≡ z + 1) (λ e j. eqb-true e.deadline (z + 1) j) (filter (due_at (z + 1)) P) (kept_by_passes (due_at (z + 1)) P);
        rising = rising_kept rest P r.rising;
        given = all_kept_by rest (λ e. e.receipt < s) P r.given;
      }
    where
      rest : Entry M → Bool
      rest e = not (due_at (z + 1) e)

      after : (e : Entry M) → rest e ≡ true → (z < e.deadline) × (e.deadline ≤ z + N) → (z + 1 < e.deadline) × (e.deadline ≤ z + 1 + N)
      after e j k =
          let n = eqb-false e.deadline (z + 1) (not-true (due_at (z + 1) e) j) in
          let l = k.0 in
          let h = k.1 in
          (⊎_elim (λ (i : z + 1 < e.deadline). i) (λ (i : e.deadline ≤ z + 1). absurd (n (omega arith))) (cases_lt (z + 1) e.deadline), omega arith)

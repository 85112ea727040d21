-- The calls turn and question.
use Rattle.std.proofs.Common.{◌≡◌, ℕ, ◌+◌, ◌-◌, ◌%◌, ◌<◌, ◌≤◌, true, false, not, eqb, ltb, List, [], ◌∷◌, ◌++◌, length, None, count_by, filter, sym, refl, ap, ◌∙◌, subst, ⊎_elim, arith}
use Rattle.std.proofs.lemmas.List.Filters.{length-filter_both}
use Rattle.std.proofs.lemmas.List.Sums.{length-filter, count_by-le-length}
use Rattle.std.proofs.lemmas.List.{length-map, nil_from_length}
use Rattle.std.proofs.lemmas.Bool.{cases_Bool, cond-false, cond-true, eq-eqb, ne_eqb, le-ltb, lt-ltb, true≢false}
use Rattle.banks.specs.Trays.{tray_at}
use Rattle.dispatcher.specs.Machine.{Terms, State, due_at, limit, step, is_empty}
use Rattle.dispatcher.specs.declared.call.Call.TheVariants.{Ask, Begin, Turn}
use Rattle.dispatcher.specs.declared.event.Event.TheVariants.{Asked, Begun, Refused, Turned}
use Rattle.messages.specs.declared.refusal.Refusal.TheVariants.{CyclesUsedUp, LateWaiting, NotNextCycle, OutOfPhase, Shut}
use Rattle.dispatcher.specs.Views.{View, waiting_in}
use Rattle.dispatcher.specs.Shown.{Shows, cell_of}
use Rattle.dispatcher.proofs.Keeps.{running_turn}
use Rattle.dispatcher.proofs.Calling.{accept, refuse, skip, here}

module _ {M : Type 0} (b : Terms M) (v : View M) (m : State M) (s : Shows b v m) (o : v.is_open ≡ true) where
  -- the tray of the cycle holds the waiting entries
  waiting_count : length (tray_at v.trays (v.cycle % (v.span + 1))) ≡ length m.waiting
  waiting_count = ap length (s.agrees.running o).here ∙ length-map m.waiting cell_of

  not_empty : {X : Type 0} (xs : List X) → 0 < length xs → not (is_empty xs) ≡ true
  not_empty [] l = absurd (omega arith)
  not_empty (x ∷ xs) l = refl

  pub turn_waiting : (t : ℕ) → 0 < length (tray_at v.trays (v.cycle % (v.span + 1))) → ((step b m (Turn t)).0 ≡ Refused (Turn t) LateWaiting) × Shows b v (step b m (Turn t)).1
  turn_waiting t l =
      let w = waiting_count in
      refuse b v m (Turn t) s LateWaiting (skip (not v.is_open) Shut _ (ap not o) ∙ here (not (is_empty m.waiting)) LateWaiting _ (not_empty m.waiting (omega arith)))

  none_waits : length (tray_at v.trays (v.cycle % (v.span + 1))) ≤ 0 → m.waiting ≡ []
  none_waits l = let w = waiting_count in nil_from_length m.waiting (omega arith)

  pub turn_not_next : (t : ℕ) → length (tray_at v.trays (v.cycle % (v.span + 1))) ≤ 0 → (t ≡ v.cycle + 1 → ⊥) → ((step b m (Turn t)).0 ≡ Refused (Turn t) NotNextCycle) × Shows b v (step b m (Turn t)).1
  turn_not_next t l n =
      refuse b v m (Turn t) s NotNextCycle
      (skip (not v.is_open) Shut _ (ap not o) ∙ skip (not (is_empty m.waiting)) LateWaiting _ (ap (λ w. not (is_empty w)) (none_waits l))
      ∙ here (not (eqb t (v.cycle + 1))) NotNextCycle _ (ap not (ne_eqb t (v.cycle + 1) n)))

  pub turn_last : (t : ℕ) → length (tray_at v.trays (v.cycle % (v.span + 1))) ≤ 0 → t ≡ v.cycle + 1 → limit < t → ((step b m (Turn t)).0 ≡ Refused (Turn t) CyclesUsedUp) × Shows b v (step b m (Turn t)).1
  turn_last t l e h =
      refuse b v m (Turn t) s CyclesUsedUp
      (skip (not v.is_open) Shut _ (ap not o) ∙ skip (not (is_empty m.waiting)) LateWaiting _ (ap (λ w. not (is_empty w)) (none_waits l))
      ∙ skip (not (eqb t (v.cycle + 1))) NotNextCycle _ (ap not (eq-eqb t (v.cycle + 1) e)) ∙ here (ltb limit (v.cycle + 1)) CyclesUsedUp None (lt-ltb limit (v.cycle + 1) (omega arith)))

  turned_view : ℕ → ℕ → View M
  turned_view t l = record { interval = v.interval; trays = v.trays; tray_limit = v.tray_limit; total_limit = v.total_limit; is_open = v.is_open; begun = v.begun; span = v.span; cycle = t; next = v.next; accepted = v.accepted; dispatched = v.dispatched; late = l }

  turns_next : (n lt : ℕ) → length (tray_at v.trays (v.cycle % (v.span + 1))) ≤ 0 → v.cycle + 1 ≤ limit → n ≡ length (tray_at v.trays ((v.cycle + 1) % (v.span + 1))) → (v.late + n ≤ limit → lt ≡ v.late + n)
      → ((step b m (Turn (v.cycle + 1))).0 ≡ Turned (v.cycle + 1) n) × Shows b (turned_view (v.cycle + 1) lt) (step b m (Turn (v.cycle + 1))).1
  unfolding turned_view
  turns_next n lt l h en el =
      let a = s.agrees in
      let r = a.running o in
      let P = m.pending in
      let z = v.cycle in
      let nil = none_waits l in
      let lk = length-filter (due_at (z + 1)) P in
      let cn : n ≡ count_by (due_at (z + 1)) P = en ∙ ap length (r.ahead 1 (omega arith) r.some) ∙ length-map (filter (due_at (z + 1)) P) cell_of ∙ lk in
      let cl = count_by-le-length (due_at (z + 1)) P in
      let bk = a.booked in
      let gv = a.given in
      let fw = a.few in
      let le : lt ≡ v.late + n = el (omega arith) in
      let ll : v.late + count_by (due_at (z + 1)) P ≡ lt = omega arith in
      let run = running_turn r nil in
      let both = length-filter_both (due_at (z + 1)) (λ e. not (due_at (z + 1) e)) (λ _. refl) P in
      accept b v m (Turn (z + 1)) s (turned_view (z + 1) lt) (Turned (z + 1) n)
      (skip (not v.is_open) Shut _ (ap not o) ∙ skip (not (is_empty m.waiting)) LateWaiting _ (ap (λ w. not (is_empty w)) nil)
      ∙ skip (not (eqb (z + 1) (z + 1))) NotNextCycle _ (ap not (eq-eqb (z + 1) (z + 1) refl)) ∙ skip (ltb limit (z + 1)) CyclesUsedUp None (le-ltb limit (z + 1) h)) (
        ap (λ x. Turned (z + 1) x) (sym cn),
        subst (λ W. Shows b (turned_view (z + 1) lt) (record { is_open = v.is_open; begun = v.begun; cycle = z + 1; next = v.next; pending = filter (λ e. not (due_at (z + 1) e)) P; waiting = W ++ filter (due_at (z + 1)) P; accepted = v.accepted; dispatched = v.dispatched; late = v.late + count_by (due_at (z + 1)) P })) (sym nil)
            (record {
              numbers = ap (λ x. record { is_open = v.is_open; begun = v.begun; cycle = z + 1; next = v.next; pending = filter (λ e. not (due_at (z + 1) e)) P; waiting = filter (due_at (z + 1)) P; accepted = v.accepted; dispatched = v.dispatched; late = x }) ll;
              agrees = record {
                interval = a.interval;
                tray_limit = a.tray_limit;
                total_limit = a.total_limit;
                span = a.span;
                few = a.few;
                booked = omega arith;
                given = a.given;
                shut = λ j. absurd (true≢false (sym o ∙ j));
                running = λ _. run;
              };
            }),
      )

  pub turns : (t n lt : ℕ) → length (tray_at v.trays (v.cycle % (v.span + 1))) ≤ 0 → t ≡ v.cycle + 1 → t ≤ limit → n ≡ length (tray_at v.trays (t % (v.span + 1))) → (v.late + n ≤ limit → lt ≡ v.late + n)
      → ((step b m (Turn t)).0 ≡ Turned t n) × Shows b (record { interval = v.interval; trays = v.trays; tray_limit = v.tray_limit; total_limit = v.total_limit; is_open = v.is_open; begun = v.begun; span = v.span; cycle = t; next = v.next; accepted = v.accepted; dispatched = v.dispatched; late = lt }) (step b m (Turn t)).1
  unfolding turned_view
  turns t n lt l e h en el =
      subst (λ u. ((step b m (Turn u)).0 ≡ Turned u n) × Shows b (turned_view u lt) (step b m (Turn u)).1) (sym e)
      (turns_next n lt l (omega arith) (en ∙ ap (λ u. length (tray_at v.trays (u % (v.span + 1)))) e) el)

  pub asks : (p w : ℕ) → (v.accepted ≤ limit → p ≡ v.accepted - v.dispatched - v.late) → w ≡ length (tray_at v.trays (v.cycle % (v.span + 1)))
      → ((step b m Ask).0 ≡ Asked (record { cycle = v.cycle; accepted = v.accepted; dispatched = v.dispatched; late = v.late; pending = p; waiting = w })) × Shows b v (step b m Ask).1
  asks p w ep ew =
      let a = s.agrees in
      let bk = a.booked in
      let gv = a.given in
      let fw = a.few in
      let ip : length m.pending ≡ p = let e = ep (omega arith) in omega arith in
      let iw : length m.waiting ≡ w = let e = waiting_count in omega arith in (
        ap (λ (x : State M). Asked (record { cycle = x.cycle; accepted = x.accepted; dispatched = x.dispatched; late = x.late; pending = length m.pending; waiting = length m.waiting })) s.numbers
            ∙ (λ i. Asked (record { cycle = v.cycle; accepted = v.accepted; dispatched = v.dispatched; late = v.late; pending = ip i; waiting = iw i })),
        s,
      )

  pub begins : v.begun ≡ false → ((step b m Begin).0 ≡ Begun) × Shows b (record { interval = v.interval; trays = v.trays; tray_limit = v.tray_limit; total_limit = v.total_limit; is_open = v.is_open; begun = true; span = v.span; cycle = v.cycle; next = v.next; accepted = v.accepted; dispatched = v.dispatched; late = v.late }) (step b m Begin).1
  begins e =
      let a = s.agrees in
      accept b v m Begin s _ Begun (skip (not v.is_open) Shut _ (ap not o) ∙ skip v.begun OutOfPhase None e) (
        refl,
        record {
          numbers = refl;
          agrees = record {
            interval = a.interval;
            tray_limit = a.tray_limit;
            total_limit = a.total_limit;
            span = a.span;
            few = a.few;
            booked = a.booked;
            given = a.given;
            shut = λ j. absurd (true≢false (sym o ∙ j));
            running = λ _. a.running o;
          };
        },
      )

module _ {M : Type 0} (b : Terms M) (v : View M) (m : State M) (s : Shows b v m) where
  asks_shut : v.is_open ≡ false → (p w : ℕ) → (v.accepted ≤ limit → p ≡ v.accepted - v.dispatched - v.late) → w ≡ 0
      → ((step b m Ask).0 ≡ Asked (record { cycle = v.cycle; accepted = v.accepted; dispatched = v.dispatched; late = v.late; pending = p; waiting = w })) × Shows b v (step b m Ask).1
  asks_shut o p w ep ew =
      let i = s.agrees.shut o in
      let none = i.accepted in
      let ip : length m.pending ≡ p = let e = ep (omega arith) in let l = ap length i.none_pending in omega arith in
      let iw : length m.waiting ≡ w = let l = ap length i.none_waiting in omega arith in (
        ap (λ (x : State M). Asked (record { cycle = x.cycle; accepted = x.accepted; dispatched = x.dispatched; late = x.late; pending = length m.pending; waiting = length m.waiting })) s.numbers
            ∙ (λ i. Asked (record { cycle = v.cycle; accepted = v.accepted; dispatched = v.dispatched; late = v.late; pending = ip i; waiting = iw i })),
        s,
      )

  -- open or not
  pub asks_any : (p w : ℕ) → (v.accepted ≤ limit → p ≡ v.accepted - v.dispatched - v.late) → w ≡ waiting_in v
      → ((step b m Ask).0 ≡ Asked (record { cycle = v.cycle; accepted = v.accepted; dispatched = v.dispatched; late = v.late; pending = p; waiting = w })) × Shows b v (step b m Ask).1
  asks_any p w ep ew =
      ⊎_elim
      (λ (o : v.is_open ≡ true). asks b v m s o p w ep (ew ∙ cond-true v.is_open _ 0 o))
      (λ (o : v.is_open ≡ false). asks_shut o p w ep (ew ∙ cond-false v.is_open _ 0 o))
      (cases_Bool v.is_open)

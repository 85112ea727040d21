-- The calls dispatch and name.
use Rattle.std.proofs.Common.{◌≡◌, ℕ, ◌+◌, ◌-◌, ◌%◌, ◌<◌, ◌≤◌, true, not, List, [], ◌∷◌, length, set, Some, None, Option, filter, sym, refl, ap, ◌∙◌, subst, arith}
use Rattle.std.specs.Prelude.{IfSome, option_map}
use Rattle.std.specs.List.{AllByRecursion as All}
use Rattle.std.proofs.ByRecursion.{All-weaker}
use Rattle.std.proofs.lemmas.List.{length-set, length-map, nil_from_length, set-get_or}
use Rattle.std.proofs.lemmas.Bool.{eqb-true, true≢false}
use Rattle.banks.specs.declared.cell.Cell.{Cell}
use Rattle.banks.specs.Trays.{tray_at, without_first, first_of}
use Rattle.dispatcher.specs.declared.entry.Entry.{Entry}
use Rattle.dispatcher.specs.Machine.{Terms, State, without, due_at, limit, step, soonest, serve, tell}
use Rattle.dispatcher.specs.declared.call.Call.TheVariants.{Dispatch, Name}
use Rattle.dispatcher.specs.declared.event.Event.TheVariants.{Dispatched, Named}
use Rattle.messages.specs.declared.refusal.Refusal.TheVariants.{Shut}
use Rattle.dispatcher.specs.Views.{View}
use Rattle.dispatcher.specs.Search.{tray_ahead, FirstHeld}
use Rattle.dispatcher.specs.Shown.{Shows, cells, cell_of, state_of}
use Rattle.dispatcher.proofs.Queues.{removed, none_kept, none_before, none_at_all, soonest_is}
use Rattle.dispatcher.proofs.Keeps.{running_dispatch, running_name}
use Rattle.dispatcher.proofs.Calling.{accept, skip}

some_of : {X : Type 0} (xs : List X) → 0 < length xs → (x : X) × (ys : List X) × (xs ≡ x ∷ ys)
some_of [] l = absurd (omega arith)
some_of (x ∷ xs) l = (x, xs, refl)

module _ {M : Type 0} where
  no_cells : (es : List (Entry M)) → cells es ≡ [] → es ≡ []
  no_cells es e = nil_from_length es (sym (length-map es cell_of) ∙ ap length e)

  same_entry : (e : Entry M) (c : Cell M) (d : ℕ) → cell_of e ≡ c → e.deadline ≡ d → e ≡ record { receipt = c.receipt; message = c.message; deadline = d }
  same_entry e c d p q = λ i. record { receipt = (p i).receipt; message = (p i).message; deadline = q i }

module _ {M : Type 0} (b : Terms M) (v : View M) (m : State M) (s : Shows b v m) (o : v.is_open ≡ true) where
  none_ahead : (f : ℕ) → f ≤ v.span + 1 → ((g : ℕ) → 0 < g → g < f → tray_ahead v.trays v.span v.cycle g ≡ []) → All (λ e. v.cycle + f ≤ e.deadline) m.pending
  none_ahead f high h =
      let r = s.agrees.running o in
      none_before v.cycle f m.pending (λ g l k. none_kept (due_at (v.cycle + g)) m.pending (no_cells (filter (due_at (v.cycle + g)) m.pending) (sym (r.ahead g l (omega arith)) ∙ h g l k)))
      (All-weaker (λ e. (v.cycle < e.deadline) × (e.deadline ≤ v.cycle + v.span)) (λ e. v.cycle < e.deadline) (λ e j. j.0) m.pending r.pending_due)

  pub dispatches_none : FirstHeld v.trays v.span v.cycle None → ((step b m Dispatch).0 ≡ Dispatched (None)) × Shows b v (step b m Dispatch).1
  dispatches_none h =
      let r = s.agrees.running o in
      let nil = none_at_all v.cycle v.span m.pending (none_ahead (v.span + 1) (omega arith) h) r.pending_due in
      let x = state_of v m.pending m.waiting in
      accept b v m Dispatch s v (Dispatched (None)) (skip (not v.is_open) Shut None (ap not o))
      (subst (λ q. ((serve x (soonest q)).0 ≡ Dispatched (None)) × Shows b v (serve x (soonest q)).1) (sym nil) (refl, subst (Shows b v) s.numbers s))

  pub dispatches : (f : ℕ) (c : Cell M) (ts : List (List (Cell M))) (each all dn : ℕ) → FirstHeld v.trays v.span v.cycle (Some f) → Some c ≡ first_of (tray_ahead v.trays v.span v.cycle f)
      → ts ≡ set v.trays ((v.cycle + f) % (v.span + 1)) (without_first (tray_ahead v.trays v.span v.cycle f)) → each ≡ v.tray_limit → all ≡ v.total_limit → (v.dispatched ≤ limit → dn ≡ v.dispatched + 1)
      → ((step b m Dispatch).0 ≡ Dispatched ((Some (record { receipt = c.receipt; message = c.message; deadline = v.cycle + f })))) × Shows b (record { interval = v.interval; trays = ts; tray_limit = each; total_limit = all; is_open = v.is_open; begun = v.begun; span = v.span; cycle = v.cycle; next = v.next; accepted = v.accepted; dispatched = dn; late = v.late }) (step b m Dispatch).1
  dispatches f c ts each all dn h ec et ee ea ed =
      let a = s.agrees in
      let r = a.running o in
      let P = m.pending in
      let z = v.cycle in
      let tray = r.ahead f h.0 h.1 in
      let ne : 0 < length (filter (due_at (z + f)) P) = let j = ap length tray in let k = length-map (filter (due_at (z + f)) P) cell_of in let i = h.2 in omega arith in
      let q = some_of (filter (due_at (z + f)) P) ne in
      let e = q.0 in
      let rest = q.1 in
      let rm = removed (due_at (z + f)) P e rest r.rising q.2 in
      let l1 = h.1 in
      let soon = soonest_is (z + f) P e rest (none_ahead f (omega arith) h.3) q.2 in
      let first : Some c ≡ Some (cell_of e) = ec ∙ ap first_of (tray ∙ ap cells q.2) in
      let cell : cell_of e ≡ c = cc in
      let bk = a.booked in
      let gv = a.given in
      let fw = a.few in
      let dd : dn ≡ v.dispatched + 1 = ed (omega arith) in
      accept b v m Dispatch s _ _ (skip (not v.is_open) Shut None (ap not o))
      (subst (λ p. ((serve (state_of v P m.waiting) p).0 ≡ Dispatched ((Some (record { receipt = c.receipt; message = c.message; deadline = z + f })))) × Shows b (record { interval = v.interval; trays = ts; tray_limit = each; total_limit = all; is_open = v.is_open; begun = v.begun; span = v.span; cycle = v.cycle; next = v.next; accepted = v.accepted; dispatched = dn; late = v.late }) (serve (state_of v P m.waiting) p).1) (sym soon) (
        ap (λ x. Dispatched ((Some x))) (same_entry e c (z + f) cell (eqb-true e.deadline (z + f) rm.passes)),
        record {
          numbers = ap (λ n. record { is_open = v.is_open; begun = v.begun; cycle = v.cycle; next = v.next; pending = without e P; waiting = m.waiting; accepted = v.accepted; dispatched = n; late = v.late }) (sym dd);
          agrees = record {
            interval = a.interval;
            tray_limit = a.tray_limit ∙ sym ee;
            total_limit = a.total_limit ∙ sym ea;
            span = a.span ∙ ap (λ n. n - 1) (sym (ap length et ∙ length-set _ _ _));
            few = a.few;
            booked = let ct = rm.count in omega arith;
            given = a.given;
            shut = λ j. absurd (true≢false (sym o ∙ j));
            running = λ _. running_dispatch r f e rest ts h.0 h.1 q.2 et;
          };
        },
      ))

  -- with other trays and limits, which are the same
  same_trays : (ts : List (List (Cell M))) (each all : ℕ) → ts ≡ v.trays → each ≡ v.tray_limit → all ≡ v.total_limit → Shows b (record { interval = v.interval; trays = ts; tray_limit = each; total_limit = all; is_open = v.is_open; begun = v.begun; span = v.span; cycle = v.cycle; next = v.next; accepted = v.accepted; dispatched = v.dispatched; late = v.late }) m
  same_trays ts each all et ee ea =
      subst (λ (x : List (List (Cell M)) × ℕ × ℕ). Shows b (record { interval = v.interval; trays = x.0; tray_limit = x.1; total_limit = x.2; is_open = v.is_open; begun = v.begun; span = v.span; cycle = v.cycle; next = v.next; accepted = v.accepted; dispatched = v.dispatched; late = v.late }) m) (λ i. (sym et i, sym ee i, sym ea i)) s

  pub names_none : (ts : List (List (Cell M))) (each all : ℕ) → None ≡ first_of (tray_at v.trays (v.cycle % (v.span + 1))) → ts ≡ set v.trays (v.cycle % (v.span + 1)) (without_first (tray_at v.trays (v.cycle % (v.span + 1)))) → each ≡ v.tray_limit → all ≡ v.total_limit
      → ((step b m Name).0 ≡ Named (None)) × Shows b (record { interval = v.interval; trays = ts; tray_limit = each; total_limit = all; is_open = v.is_open; begun = v.begun; span = v.span; cycle = v.cycle; next = v.next; accepted = v.accepted; dispatched = v.dispatched; late = v.late }) (step b m Name).1
  names_none ts each all ec et ee ea =
      let r = s.agrees.running o in
      let t = tray_at v.trays (v.cycle % (v.span + 1)) in
      let empty = is_nil t ec in
      let nil = no_cells m.waiting (sym r.here ∙ empty) in
      let same : ts ≡ v.trays = et ∙ ap (λ u. set v.trays (v.cycle % (v.span + 1)) u) (ap without_first empty ∙ sym empty) ∙ set-get_or v.trays (v.cycle % (v.span + 1)) [] in
      let x = state_of v m.pending m.waiting in
      accept b v m Name s _ (Named (None)) (skip (not v.is_open) Shut None (ap not o))
      (subst (λ q. ((tell x q).0 ≡ Named (None)) × Shows b (record { interval = v.interval; trays = ts; tray_limit = each; total_limit = all; is_open = v.is_open; begun = v.begun; span = v.span; cycle = v.cycle; next = v.next; accepted = v.accepted; dispatched = v.dispatched; late = v.late }) (tell x q).1) (sym nil) (refl, subst (Shows b _) s.numbers (same_trays ts each all same ee ea)))
    where
      is_nil : {X : Type 0} (xs : List X) → None ≡ first_of xs → xs ≡ []
      is_nil [] e = refl
      is_nil (y ∷ xs) e = absurd (let z : ◌≡◌ {A = ℕ} 0 1 = cc in omega arith)

  pub names : (c : Cell M) (ts : List (List (Cell M))) (each all : ℕ) → Some c ≡ first_of (tray_at v.trays (v.cycle % (v.span + 1))) → ts ≡ set v.trays (v.cycle % (v.span + 1)) (without_first (tray_at v.trays (v.cycle % (v.span + 1)))) → each ≡ v.tray_limit → all ≡ v.total_limit
      → ((step b m Name).0 ≡ Named ((Some (record { receipt = c.receipt; message = c.message; deadline = v.cycle })))) × Shows b (record { interval = v.interval; trays = ts; tray_limit = each; total_limit = all; is_open = v.is_open; begun = v.begun; span = v.span; cycle = v.cycle; next = v.next; accepted = v.accepted; dispatched = v.dispatched; late = v.late }) (step b m Name).1
  names c ts each all ec et ee ea =
      let a = s.agrees in
      let r = a.running o in
      let q = waits m.waiting (ec ∙ ap first_of r.here) in
      let e = q.0 in
      let es = q.1 in
      accept b v m Name s _ _ (skip (not v.is_open) Shut None (ap not o))
      (subst (λ p. ((tell (state_of v m.pending m.waiting) p).0 ≡ Named ((Some (record { receipt = c.receipt; message = c.message; deadline = v.cycle })))) × Shows b (record { interval = v.interval; trays = ts; tray_limit = each; total_limit = all; is_open = v.is_open; begun = v.begun; span = v.span; cycle = v.cycle; next = v.next; accepted = v.accepted; dispatched = v.dispatched; late = v.late }) (tell (state_of v m.pending m.waiting) p).1) (sym q.2) (
        ap (λ x. Named ((Some x))) (same_entry e c v.cycle q.3 (subst (All (λ e. e.deadline ≡ v.cycle)) q.2 r.waiting_due).0),
        record {
          numbers = refl;
          agrees = record {
            interval = a.interval;
            tray_limit = a.tray_limit ∙ sym ee;
            total_limit = a.total_limit ∙ sym ea;
            span = a.span ∙ ap (λ n. n - 1) (sym (ap length et ∙ length-set _ _ _));
            few = a.few;
            booked = a.booked;
            given = a.given;
            shut = λ j. absurd (true≢false (sym o ∙ j));
            running = λ _. running_name r e es ts q.2 et;
          };
        },
      ))
    where
      waits : (xs : List (Entry M)) → Some c ≡ first_of (cells xs) → (e : Entry M) × (es : List (Entry M)) × (xs ≡ e ∷ es) × (cell_of e ≡ c)
      waits [] k = absurd (let z : ◌≡◌ {A = ℕ} 0 1 = cc in omega arith)
      waits (x ∷ xs) k = (x, xs, refl, cc)

  -- whatever a take from the tray of the present cycle gave
  pub names_any : (r : Option (Entry M)) (ts : List (List (Cell M))) (each all : ℕ) → option_map cell_of r ≡ first_of (tray_at v.trays (v.cycle % (v.span + 1))) → ts ≡ set v.trays (v.cycle % (v.span + 1)) (without_first (tray_at v.trays (v.cycle % (v.span + 1)))) → each ≡ v.tray_limit → all ≡ v.total_limit → IfSome r (λ e. e.deadline ≡ v.cycle)
      → ((step b m Name).0 ≡ Named r) × Shows b (record { interval = v.interval; trays = ts; tray_limit = each; total_limit = all; is_open = v.is_open; begun = v.begun; span = v.span; cycle = v.cycle; next = v.next; accepted = v.accepted; dispatched = v.dispatched; late = v.late }) (step b m Name).1
  names_any None ts each all ec et ee ea due = names_none ts each all ec et ee ea
  names_any (Some e) ts each all ec et ee ea due =
      let x = names (cell_of e) ts each all ec et ee ea in
      (x.0 ∙ ap (λ y. Named (Some y)) (sym (same_entry e (cell_of e) v.cycle refl due)), x.1)

  -- whatever a take from the first tray ahead that holds a cell gave
  pub dispatches_any : (r : Option (Entry M)) (f : ℕ) (ts : List (List (Cell M))) (each all dn : ℕ) → FirstHeld v.trays v.span v.cycle (Some f) → option_map cell_of r ≡ first_of (tray_ahead v.trays v.span v.cycle f)
      → ts ≡ set v.trays ((v.cycle + f) % (v.span + 1)) (without_first (tray_ahead v.trays v.span v.cycle f)) → each ≡ v.tray_limit → all ≡ v.total_limit → (v.dispatched ≤ limit → dn ≡ v.dispatched + 1) → IfSome r (λ e. e.deadline ≡ v.cycle + f)
      → ((step b m Dispatch).0 ≡ Dispatched r) × Shows b (record { interval = v.interval; trays = ts; tray_limit = each; total_limit = all; is_open = v.is_open; begun = v.begun; span = v.span; cycle = v.cycle; next = v.next; accepted = v.accepted; dispatched = dn; late = v.late }) (step b m Dispatch).1
  dispatches_any None f ts each all dn h ec et ee ea ed due =
      let q = some_of (tray_ahead v.trays v.span v.cycle f) h.2 in
      absurd (let e = ec ∙ ap first_of q.2 in let z : ◌≡◌ {A = ℕ} 0 1 = cc in omega arith)
  dispatches_any (Some e) f ts each all dn h ec et ee ea ed due =
      let x = dispatches f (cell_of e) ts each all dn h ec et ee ea ed in
      (x.0 ∙ ap (λ y. Dispatched (Some y)) (sym (same_entry e (cell_of e) (v.cycle + f) refl due)), x.1)

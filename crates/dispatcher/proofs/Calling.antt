-- A dispatcher that shows a state of the machine shows the next one after a call.
use Rattle.std.proofs.Common.{◌≡◌, ℕ, ◌+◌, ◌-◌, ◌%◌, ◌<◌, ◌≤◌, Bool, true, false, cond, not, ◌||◌, eqb, ltb, leb, ◌⊎◌, List, [], ◌∷◌, ◌++◌, length, set, Some, None, Option, sym, refl, ap, ◌∙◌, subst, ⊎_elim, arith}
use Rattle.std.proofs.lemmas.List.{length-set, length_push, length-append}
use Rattle.std.proofs.lemmas.Bool.{eq-eqb, ne_eqb, le-ltb, lt-ltb, le-leb, lt-leb, or_from, or_left, or_right, true≢false, cond-true, cond-false}
use Rattle.banks.specs.declared.cell.Cell.{Cell}
use Rattle.banks.specs.Trays.{tray_at, held_in}
use Rattle.dispatcher.specs.declared.call.Call.{Call}
use Rattle.dispatcher.specs.declared.event.Event.{Event}
use Rattle.dispatcher.specs.Machine.{Terms, State, in_tray, limit, refusal, act, step, unless}
use Rattle.dispatcher.specs.declared.call.Call.TheVariants.{Open, Post}
use Rattle.dispatcher.specs.declared.event.Event.TheVariants.{Opened, Posted, Refused}
use Rattle.messages.specs.declared.refusal.Refusal.{Refusal}
use Rattle.messages.specs.declared.refusal.Refusal.TheVariants.{AlreadyOpen, Full, IntervalOutOfRange, ReceiptsUsedUp, Shut, StartTooHigh, UnfitBank}
use Rattle.dispatcher.specs.Views.{View}
use Rattle.dispatcher.specs.Shown.{Shows, Running, state_of}
use Rattle.dispatcher.proofs.Rings.{none_in}
use Rattle.dispatcher.proofs.Keeps.{running_post, in_tray_is}

-- the first of some tests holds, or it does not
pub here : (t : Bool) (k : Refusal) (rest : Option Refusal) → t ≡ true → cond t (Some k) rest ≡ Some k
here t k rest e = cond-true t (Some k) rest e

pub skip : (t : Bool) (k : Refusal) (rest : Option Refusal) → t ≡ false → cond t (Some k) rest ≡ rest
skip t k rest e = cond-false t (Some k) rest e

module _ {M : Type 0} (b : Terms M) (v : View M) (m : State M) (c : Call M) (s : Shows b v m) where
  pub refuse : (k : Refusal) → refusal b (state_of v m.pending m.waiting) c ≡ Some k → ((step b m c).0 ≡ Refused c k) × Shows b v (step b m c).1
  refuse k e =
      let h : refusal b m c ≡ Some k = ap (λ x. refusal b x c) s.numbers ∙ e in
      let st : step b m c ≡ (Refused c k, m) = ap (unless b m c) h in
      (ap (λ p. p.0) st, subst (λ p. Shows b v p.1) (sym st) s)

  pub accept : (w : View M) (e : Event M) → refusal b (state_of v m.pending m.waiting) c ≡ None → ((act b (state_of v m.pending m.waiting) c).0 ≡ e) × Shows b w (act b (state_of v m.pending m.waiting) c).1 → ((step b m c).0 ≡ e) × Shows b w (step b m c).1
  accept w e n k =
      let x = state_of v m.pending m.waiting in
      let st : step b m c ≡ act b x c = ap (λ y. step b y c) s.numbers ∙ ap (unless b x c) n in
      subst (λ p. (p.0 ≡ e) × Shows b w p.1) (sym st) k

pub running_open : {M : Type 0} (ts : List (List (Cell M))) (N z s : ℕ) → 0 < N → length ts ≡ N + 1 → held_in ts ≡ 0 → Running ts N z s [] []
running_open ts N z s l e h =
    record { some = l; trays = e; here = none_in ts (z % (N + 1)) h; ahead = λ f _ _. none_in ts ((z + f) % (N + 1)) h; held = h; pending_due = tt; waiting_due = tt; rising = tt; given = tt }

module _ {M : Type 0} (b : Terms M) (v : View M) (m : State M) (s : Shows b v m) where
  pub opens : (z r N : ℕ) → v.is_open ≡ false → z ≤ limit → r ≤ limit → length v.trays ≡ N + 1 → 0 < N → held_in v.trays ≡ 0 → ((step b m (Open z r)).0 ≡ Opened z r) × Shows b (record { interval = v.interval; trays = v.trays; tray_limit = v.tray_limit; total_limit = v.total_limit; is_open = true; begun = v.begun; span = N; cycle = z; next = r; accepted = v.accepted; dispatched = v.dispatched; late = v.late }) (step b m (Open z r)).1
  opens z r N o lz lr e l h =
      let a = s.agrees in
      let i = a.shut o in
      let sp = a.span in
      accept b v m (Open z r) s _ (Opened z r)
      (skip v.is_open AlreadyOpen _ o
      ∙ skip (ltb limit z || ltb limit r) StartTooHigh _ (or_from _ _ (le-ltb limit z lz) (le-ltb limit r lr))
      ∙ skip (eqb b.span 0 || b.holds) UnfitBank None (or_from _ _ (ne_eqb b.span 0 (λ j. omega arith)) (i.holds ∙ le-ltb 0 (held_in v.trays) (omega arith)))) (
        refl,
        record {
          numbers = refl;
          agrees = record {
            interval = a.interval;
            tray_limit = a.tray_limit;
            total_limit = a.total_limit;
            span = a.span;
            few = lr;
            booked = a.booked;
            given = let j = i.accepted in omega arith;
            shut = λ j. absurd (true≢false j);
            running = λ _. subst (λ P. Running v.trays N z r P m.waiting) (sym i.none_pending) (subst (λ W. Running v.trays N z r [] W) (sym i.none_waiting) (running_open v.trays N z r l e h));
          };
        },
      )

  -- the tests before the bank's own
  post_tests : (x : M) (i : ℕ) → v.is_open ≡ true → v.interval x ≡ i → 0 < i → i ≤ v.span → v.next < limit → (t : Bool) → (
      leb b.tray_limit (in_tray b (v.cycle + b.interval x) (m.pending ++ m.waiting))
      || leb b.total_limit (length (m.pending ++ m.waiting))
      ) ≡ t → refusal b (state_of v m.pending m.waiting) (Post x) ≡ cond t (Some Full) None
  post_tests x i o e low high few t q =
      let a = s.agrees in
      let sp = a.span in
      let tr = (a.running o).trays in
      let j = a.interval x in
      skip (not v.is_open) Shut _ (ap not o)
      ∙ skip (eqb (b.interval x) 0 || ltb b.span (b.interval x)) IntervalOutOfRange _ (or_from _ _ (ne_eqb (b.interval x) 0 (λ k. omega arith)) (le-ltb b.span (b.interval x) (omega arith)))
      ∙ skip (eqb v.next limit) ReceiptsUsedUp _ (ne_eqb v.next limit (λ k. omega arith))
      ∙ ap (λ u. cond u (Some Full) None) q

  room : (x : M) (i : ℕ) → v.is_open ≡ true → v.interval x ≡ i → 0 < i → i ≤ v.span → in_tray b (v.cycle + b.interval x) (m.pending ++ m.waiting) ≡ length (tray_at v.trays ((v.cycle + i) % (v.span + 1)))
  room x i o e low high =
      let a = s.agrees in
      let r = a.running o in
      let sp = a.span in
      let tr = r.trays in
      ap (λ k. in_tray b (v.cycle + k) (m.pending ++ m.waiting)) (a.interval x ∙ e) ∙ in_tray_is r b i (omega arith) low high

  all_in : v.is_open ≡ true → length (m.pending ++ m.waiting) ≡ held_in v.trays
  all_in o = let h = (s.agrees.running o).held in let l = length-append m.pending m.waiting in omega arith

  pub post_full : (x : M) (i : ℕ) → v.is_open ≡ true → v.interval x ≡ i → 0 < i → i ≤ v.span → v.next < limit → (v.tray_limit ≤ length (tray_at v.trays ((v.cycle + i) % (v.span + 1)))) ⊎ (v.total_limit ≤ held_in v.trays) → ((step b m (Post x)).0 ≡ Refused (Post x) Full) × Shows b v (step b m (Post x)).1
  post_full x i o e low high few h =
      let a = s.agrees in
      let rm = room x i o e low high in
      let al = all_in o in
      let tl = a.tray_limit in
      let ol = a.total_limit in
      refuse b v m (Post x) s Full
      (post_tests x i o e low high few true
      (⊎_elim (λ (l : v.tray_limit ≤ length (tray_at v.trays ((v.cycle + i) % (v.span + 1)))). or_left _ _ (le-leb b.tray_limit (in_tray b (v.cycle + b.interval x) (m.pending ++ m.waiting)) (omega arith)))
      (λ (l : v.total_limit ≤ held_in v.trays). or_right _ _ (le-leb b.total_limit (length (m.pending ++ m.waiting)) (omega arith))) h))

  pub posts : (x : M) (i : ℕ) (ts : List (List (Cell M))) (each all acc : ℕ) → v.is_open ≡ true → v.interval x ≡ i → 0 < i → i ≤ v.span → v.next < limit
      → length (tray_at v.trays ((v.cycle + i) % (v.span + 1))) < v.tray_limit → held_in v.trays < v.total_limit
      → ts ≡ set v.trays ((v.cycle + i) % (v.span + 1)) (tray_at v.trays ((v.cycle + i) % (v.span + 1)) ++ record { receipt = v.next; message = x } ∷ []) → each ≡ v.tray_limit → all ≡ v.total_limit → (v.accepted ≤ limit → acc ≡ v.accepted + 1)
      → ((step b m (Post x)).0 ≡ Posted (record { receipt = v.next; message = x; deadline = v.cycle + i })) × Shows b (record { interval = v.interval; trays = ts; tray_limit = each; total_limit = all; is_open = v.is_open; begun = v.begun; span = v.span; cycle = v.cycle; next = v.next + 1; accepted = acc; dispatched = v.dispatched; late = v.late }) (step b m (Post x)).1
  posts x i ts each all acc o e low high few re ra et ee ea ec =
      let a = s.agrees in
      let rm = room x i o e low high in
      let al = all_in o in
      let tl = a.tray_limit in
      let ol = a.total_limit in
      let gv = a.given in
      let fw = a.few in
      let ac : acc ≡ v.accepted + 1 = ec (omega arith) in
      accept b v m (Post x) s _ _
      (post_tests x i o e low high few false
      (or_from _ _ (lt-leb b.tray_limit (in_tray b (v.cycle + b.interval x) (m.pending ++ m.waiting)) (omega arith)) (lt-leb b.total_limit (length (m.pending ++ m.waiting)) (omega arith))))
      (subst (λ j. (Posted (record { receipt = v.next; message = x; deadline = v.cycle + j }) ≡ Posted (record { receipt = v.next; message = x; deadline = v.cycle + i })) × Shows b (record { interval = v.interval; trays = ts; tray_limit = each; total_limit = all; is_open = v.is_open; begun = v.begun; span = v.span; cycle = v.cycle; next = v.next + 1; accepted = acc; dispatched = v.dispatched; late = v.late }) (record { is_open = v.is_open; begun = v.begun; cycle = v.cycle; next = v.next + 1; pending = m.pending ++ record { receipt = v.next; message = x; deadline = v.cycle + j } ∷ []; waiting = m.waiting; accepted = v.accepted + 1; dispatched = v.dispatched; late = v.late })) (sym (a.interval x ∙ e)) (
        refl,
        record {
          numbers = ap (λ n. record { is_open = v.is_open; begun = v.begun; cycle = v.cycle; next = v.next + 1; pending = m.pending ++ record { receipt = v.next; message = x; deadline = v.cycle + i } ∷ []; waiting = m.waiting; accepted = n; dispatched = v.dispatched; late = v.late }) (sym ac);
          agrees = record {
            interval = a.interval;
            tray_limit = a.tray_limit ∙ sym ee;
            total_limit = a.total_limit ∙ sym ea;
            span = a.span ∙ ap (λ n. n - 1) (sym (ap length et ∙ length-set _ _ _));
            few = omega arith;
            booked = let bk = a.booked in let lp = length_push m.pending (record { receipt = v.next; message = x; deadline = v.cycle + i }) in omega arith;
            given = omega arith;
            shut = λ j. absurd (true≢false (sym o ∙ j));
            running = λ _. running_post (a.running o) i x ts low high et;
          };
        },
      ))

  pub post_wrong : (x : M) (i : ℕ) → v.is_open ≡ true → v.interval x ≡ i → (i ≡ 0) ⊎ (v.span < i) → ((step b m (Post x)).0 ≡ Refused (Post x) IntervalOutOfRange) × Shows b v (step b m (Post x)).1
  post_wrong x i o e h =
      let a = s.agrees in
      let sp = a.span in
      let tr = (a.running o).trays in
      let j = a.interval x in
      refuse b v m (Post x) s IntervalOutOfRange
      (skip (not v.is_open) Shut _ (ap not o)
      ∙ here (eqb (b.interval x) 0 || ltb b.span (b.interval x)) IntervalOutOfRange _
      (⊎_elim (λ (l : i ≡ 0). or_left _ _ (eq-eqb (b.interval x) 0 (omega arith))) (λ (l : v.span < i). or_right _ _ (lt-ltb b.span (b.interval x) (omega arith))) h))

  pub post_used_up : (x : M) (i : ℕ) → v.is_open ≡ true → v.interval x ≡ i → 0 < i → i ≤ v.span → limit ≤ v.next → ((step b m (Post x)).0 ≡ Refused (Post x) ReceiptsUsedUp) × Shows b v (step b m (Post x)).1
  post_used_up x i o e low high used =
      let a = s.agrees in
      let sp = a.span in
      let tr = (a.running o).trays in
      let j = a.interval x in
      let fw = a.few in
      refuse b v m (Post x) s ReceiptsUsedUp
      (skip (not v.is_open) Shut _ (ap not o)
      ∙ skip (eqb (b.interval x) 0 || ltb b.span (b.interval x)) IntervalOutOfRange _ (or_from _ _ (ne_eqb (b.interval x) 0 (λ k. omega arith)) (le-ltb b.span (b.interval x) (omega arith)))
      ∙ here (eqb v.next limit) ReceiptsUsedUp _ (eq-eqb v.next limit (omega arith)))

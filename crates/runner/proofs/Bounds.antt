-- How large the numbers of a run from cycle 0 and receipt 0 can grow: no larger than the number of its calls, but for the
-- intervals that deadlines add.
use Rattle.std.proofs.Common.{◌≡◌, ℕ, zero, suc, ◌+◌, ◌*◌, ◌<◌, ◌≤◌, Bool, true, false, cond, not, ◌||◌, eqb, ltb, leb, List, [], ◌∷◌, ◌++◌, length, Some, None, fold, filter, Option, refl, ap, subst, arith, length-append}
use Rattle.std.specs.List.{AllByRecursion}
use Rattle.std.proofs.ByRecursion.{All-append, all_kept_by, All-push, All-weaker}
use Rattle.std.proofs.lemmas.List.Filters.{length-filter_both}
use Rattle.std.proofs.lemmas.List.{length_push}
use Rattle.std.proofs.lemmas.List.Sums.{count_by-le-length, length-filter}
use Rattle.std.proofs.lemmas.Bool.{eqb-true, ltb-false, not-false, or_parts}
use Rattle.messages.specs.declared.refusal.Refusal.{Refusal}
use Rattle.messages.specs.declared.refusal.Refusal.TheVariants.{CyclesUsedUp, Full, IntervalOutOfRange, LateWaiting, NotNextCycle, ReceiptsUsedUp, Shut}
use Rattle.dispatcher.specs.declared.call.Call.{Call}
use Rattle.dispatcher.specs.declared.call.Call.TheVariants.{Ask, Begin, Dispatch, Name, Open, Post, Turn, Warn}
use Rattle.dispatcher.specs.declared.entry.Entry.{Entry}
use Rattle.dispatcher.specs.declared.event.Event.{Event}
use Rattle.dispatcher.specs.Machine.{State, Terms, Told, act, due_at, due_by, first_of, first_over, in_tray, is_empty, limit, new_entry, refusal, run, serve, sooner, soonest, start, step, tell, told, unless}
use Rattle.runner.specs.Room.{BriefEntry, BriefEvent, BriefWarning, FromZero}

-- an entry of a run of at most n calls
abbrev Near : {M : Type 0} → ℕ → Entry M → Type 0
Near n e = (e.receipt ≤ n) × (e.deadline ≤ n + 127)

-- a state after at most n calls
record Within {M : Type 0} (n : ℕ) (s : State M) : Type 0 where
  cycle : s.cycle ≤ n
  next : s.next ≤ n
  accepted : s.accepted ≤ n
  dispatched : s.dispatched ≤ n
  booked : s.late + length s.pending ≤ s.accepted
  waited : length s.waiting ≤ s.late
  pending : AllByRecursion (Near n) s.pending
  waiting : AllByRecursion (Near n) s.waiting

-- tests that all fail
first_none : (t : Bool) (k : Refusal) (xs : List (Bool × Refusal)) → first_of ((t, k) ∷ xs) ≡ None → (t ≡ false) × (first_of xs ≡ None)
first_none true k xs e = absurd (let z : ◌≡◌ {A = ℕ} 0 1 = cc in omega arith)
first_none false k xs e = (refl, e)

module _ {M : Type 0} where
  nearer : (n : ℕ) (es : List (Entry M)) → AllByRecursion (Near n) es → AllByRecursion (Near (n + 1)) es
  nearer n es a = All-weaker (Near n) (Near (n + 1)) (λ e h. let p = h.0 in let q = h.1 in (omega arith, omega arith)) es a

  kept_le : (t : Entry M → Bool) (es : List (Entry M)) → length (filter t es) ≤ length es
  kept_le t es = let a = length-filter t es in let b = count_by-le-length t es in omega arith

  near_sooner : (n : ℕ) (e : Entry M) (o : Option (Entry M)) → Near n e → ((f : Entry M) → o ≡ Some f → Near n f) → Near n (sooner e o)
  near_sooner n e None h k = h
  near_sooner n e (Some f) h k = pick (leb e.deadline f.deadline)
    where
      pick : (b : Bool) → Near n (cond b e f)
      pick true = h
      pick false = k f refl

  near_soonest : (n : ℕ) (es : List (Entry M)) → AllByRecursion (Near n) es → (f : Entry M) → soonest es ≡ Some f → Near n f
  near_soonest n [] a f e = absurd (let z : ◌≡◌ {A = ℕ} 0 1 = cc in omega arith)
  near_soonest n (x ∷ es) a f e =
      let same : sooner x (soonest es) ≡ f = cc in
      subst (Near n) same (near_sooner n x (soonest es) a.0 (near_soonest n es a.1))

  over_brief : (c z : ℕ) (es : List (Entry M)) (f left : ℕ) → f + left < 10000 → length es < 10000 → BriefWarning (first_over c z es f left)
  over_brief c z es f zero h l = tt
  over_brief c z es f (suc left) h l = pick (over_brief c z es (suc f) left (omega arith) l) (ltb (c * f) (due_by (z + f) es))
    where
      n : due_by (z + f) es ≤ length es
      n = count_by-le-length (λ e. leb e.deadline (z + f)) es

      pick : BriefWarning (first_over c z es (suc f) left) → (b : Bool) → BriefWarning (cond b (Some (record { ahead = f; load = due_by (z + f) es })) (first_over c z es (suc f) left))
      pick rest true = (omega arith, let k = n in omega arith)
      pick rest false = rest

module _ {M : Type 0} (b : Terms M) (narrow : b.span ≤ 127) (n : ℕ) (few : n < 9000) (s : State M) (w : Within n s) where
  -- one call more: its event is brief, and the state is one after n + 1 calls
  abbrev Goes_on : Event M × State M → Type 0
  Goes_on x = BriefEvent x.0 × Within (n + 1) x.1

  stays : Within (n + 1) s
  stays =
      record { cycle = omega (arith, w.cycle); next = omega (arith, w.next); accepted = omega (arith, w.accepted); dispatched = omega (arith, w.dispatched); booked = w.booked; waited = w.waited; pending = nearer n s.pending w.pending; waiting = nearer n s.waiting w.waiting }

  brief_near : (e : Entry M) → Near n e → BriefEntry (Some e)
  brief_near e h = let p = h.0 in let q = h.1 in (omega arith, omega arith)

  on_open : (z r : ℕ) → FromZero {M = M} (Open z r) → Goes_on (act b s (Open z r))
  on_open z r h =
      let p = h.0 in
      let q = h.1 in
      (tt, record { cycle = omega arith; next = omega arith; accepted = stays.accepted; dispatched = stays.dispatched; booked = w.booked; waited = w.waited; pending = stays.pending; waiting = stays.waiting })

  on_post : (m : M) → refusal b s (Post m) ≡ None → Goes_on (act b s (Post m))
  on_post m e =
      let range = eqb (b.interval m) 0 || ltb b.span (b.interval m) in
      let full = leb b.tray_limit (in_tray b (s.cycle + b.interval m) (s.pending ++ s.waiting)) || leb b.total_limit (length (s.pending ++ s.waiting)) in
      let rest : List (Bool × Refusal) = (eqb s.next limit, ReceiptsUsedUp) ∷ (full, Full) ∷ [] in
      let second = (first_none range IntervalOutOfRange rest (first_none (not s.is_open) Shut ((range, IntervalOutOfRange) ∷ rest) e).1).0 in
      let i : b.interval m ≤ b.span = ltb-false b.span (b.interval m) (or_parts (eqb (b.interval m) 0) _ second).1 in
      let c = w.cycle in
      let r = w.next in
      let a = w.accepted in
      let k = w.booked in
      let l = length_push s.pending (new_entry b s m) in
      ((omega arith, omega arith), record { cycle = stays.cycle; next = omega arith; accepted = omega arith; dispatched = stays.dispatched; booked = omega arith; waited = w.waited; pending = All-push (Near (n + 1)) s.pending (new_entry b s m) stays.pending (omega arith, omega arith); waiting = stays.waiting })

  on_dispatch : (o : Option (Entry M)) → soonest s.pending ≡ o → Goes_on (serve s o)
  on_dispatch None e = (tt, stays)
  on_dispatch (Some f) e =
      let k = kept_le (λ x. not (eqb f.receipt x.receipt)) s.pending in
      let d = w.dispatched in
      let q = w.booked in
      (brief_near f (near_soonest n s.pending w.pending f e), record { cycle = stays.cycle; next = stays.next; accepted = stays.accepted; dispatched = omega arith; booked = omega arith; waited = w.waited; pending = all_kept_by (λ x. not (eqb f.receipt x.receipt)) (Near (n + 1)) s.pending stays.pending; waiting = stays.waiting })

  on_turn : (t : ℕ) → refusal b s (Turn t) ≡ None → Goes_on (act b s (Turn t))
  on_turn t e =
      let other = not (eqb t (s.cycle + 1)) in
      let last : List (Bool × Refusal) = (ltb limit (s.cycle + 1), CyclesUsedUp) ∷ [] in
      let more : List (Bool × Refusal) = (other, NotNextCycle) ∷ last in
      let late = not (is_empty s.waiting) in
      let third = (first_none other NotNextCycle last (first_none late LateWaiting more (first_none (not s.is_open) Shut ((late, LateWaiting) ∷ more) e).1).1).0 in
      let next : t ≡ s.cycle + 1 = eqb-true t (s.cycle + 1) (not-false _ third) in
      let c = w.cycle in
      let a = w.accepted in
      let q = w.booked in
      let r = w.waited in
      let l = count_by-le-length (due_at t) s.pending in
      let k = length-filter (due_at t) s.pending in
      let both = length-filter_both (due_at t) (λ x. not (due_at t x)) (λ x. refl) s.pending in
      let longer = length-append s.waiting (filter (due_at t) s.pending) in
      ((omega arith, omega arith), record { cycle = omega arith; next = stays.next; accepted = stays.accepted; dispatched = stays.dispatched; booked = omega arith; waited = omega arith; pending = all_kept_by (λ x. not (due_at t x)) (Near (n + 1)) s.pending stays.pending; waiting = All-append (Near (n + 1)) s.waiting (filter (due_at t) s.pending) stays.waiting (all_kept_by (due_at t) (Near (n + 1)) s.pending stays.pending) })

  on_name : (es : List (Entry M)) → s.waiting ≡ es → Goes_on (tell s es)
  on_name [] e = (tt, stays)
  on_name (f ∷ es) e =
      let a = subst (AllByRecursion (Near n)) e w.waiting in
      let l = ap length e in
      let r = w.waited in
      (brief_near f a.0, record { cycle = stays.cycle; next = stays.next; accepted = stays.accepted; dispatched = stays.dispatched; booked = w.booked; waited = omega arith; pending = stays.pending; waiting = nearer n es a.1 })

  on_warn : (c : ℕ) → Goes_on (act b s (Warn c))
  on_warn c =
      let a = w.accepted in
      let q = w.booked in
      (over_brief c s.cycle s.pending 1 b.span (omega arith) (omega arith), stays)

  on_ask : Goes_on (act b s Ask)
  on_ask =
      let a = w.accepted in
      let d = w.dispatched in
      let q = w.booked in
      let r = w.waited in
      ((omega arith, omega arith, omega arith, omega arith, omega arith), stays)

  on_begin : Goes_on (act b s Begin)
  on_begin =
      (tt, record { cycle = stays.cycle; next = stays.next; accepted = stays.accepted; dispatched = stays.dispatched; booked = w.booked; waited = w.waited; pending = stays.pending; waiting = stays.waiting })

  on_act : (c : Call M) → FromZero c → refusal b s c ≡ None → Goes_on (act b s c)
  on_act (Open z r) h e = on_open z r h
  on_act (Post m) h e = on_post m e
  on_act Dispatch h e = on_dispatch (soonest s.pending) refl
  on_act (Turn t) h e = on_turn t e
  on_act Name h e = on_name s.waiting refl
  on_act (Warn c) h e = on_warn c
  on_act Begin h e = on_begin
  on_act Ask h e = on_ask

  on_unless : (c : Call M) (o : Option Refusal) → FromZero c → refusal b s c ≡ o → Goes_on (unless b s c o)
  on_unless c None h e = on_act c h e
  on_unless c (Some k) h e = (tt, stays)

  on_step : (c : Call M) → FromZero c → Goes_on (step b s c)
  on_step c h = on_unless c (refusal b s c) h refl

module _ {M : Type 0} (b : Terms M) (narrow : b.span ≤ 127) where
  abbrev go : Told M → Call M → Told M
  go r c = told r (step b r.state c)

  runs_brief : (calls : List (Call M)) (n : ℕ) (r : Told M) → n + length calls < 9000 → AllByRecursion FromZero calls → Within n r.state → AllByRecursion BriefEvent r.history → AllByRecursion BriefEvent (fold go r calls).history
  runs_brief [] n r l z w h = h
  runs_brief (c ∷ calls) n r l z w h =
      let k = on_step b narrow n (omega arith) r.state w c z.0 in
      runs_brief calls (n + 1) (go r c) (omega arith) z.1 k.1 (All-push BriefEvent r.history (step b r.state c).0 h k.0)

  begins : Within {M = M} 0 start
  begins = record { cycle = omega arith; next = omega arith; accepted = omega arith; dispatched = omega arith; booked = omega arith; waited = omega arith; pending = tt; waiting = tt }

  -- the events of a run of few calls are brief
  pub run_brief : (calls : List (Call M)) → length calls < 9000 → AllByRecursion FromZero calls → AllByRecursion BriefEvent (run b calls).history
  run_brief calls l z = runs_brief calls 0 (record { state = start; history = [] }) (omega arith) z begins tt

-- Each receipt is accounted for exactly once, at each step.
use Rattle.std.proofs.Common.{◌≡◌, ℕ, ◌+◌, ◌<◌, ◌≤◌, Bool, true, false, cond, not, ◌&&◌, eqb, leb, List, [], ◌∷◌, ◌++◌, length, Some, fold, count_by, filter, sym, refl, ap, ◌∙◌, subst, ⊎_elim, arith}
use Rattle.std.specs.List.{slice_get, AllByRecursion as All}
use Rattle.std.proofs.ByRecursion.{All-append, All-weaker, all_kept_by, kept_by_passes}
use Rattle.std.proofs.lemmas.Bool.{cases_eq, leb-true, le-leb, eq-eqb, ne_eqb, eqb-true, and_from, and_parts, false≢true}
use Rattle.dispatcher.specs.Machine.{Entry, Event, Call, Terms, State, Told, told, step, run, start, due_by, soonest, without, new_entry}
use Rattle.dispatcher.specs.declared.event.Event.TheVariants.{Named, Posted, Turned}
use Rattle.dispatcher.specs.History.{History, at_post, reaches, answers, names, is_pending, dispatches, namings, lying, NamedAfterTurn, Lies}
use Rattle.dispatcher.specs.Theorems.{EachOnce}
use Rattle.dispatcher.proofs.Counts.{count_lt, pigeonhole}
use Rattle.dispatcher.proofs.Places.{nth_inside, nth_push_new, any_from, nth_keeps, nth_cases, count_cons, count_append, count_kept, countBy_both}
use Rattle.dispatcher.proofs.Moves.{Move, step_moves}
use Rattle.dispatcher.proofs.Moves.Move.{refusing, opening, posting, idling, serving, turning, unnamed, naming, warning, beginning, asking}
use Rattle.dispatcher.proofs.Facts.{front, posts, IsPosted, posts_push, count_posts}
use Rattle.dispatcher.proofs.Sound.{Sound, pending_facts, pending_parts}
use Rattle.dispatcher.proofs.Orders.{at_post_true, at_post_from}
use Rattle.dispatcher.proofs.Soonest.{all_nth, count_nth, countBy_none, soonest_at, one_receipt}
use Rattle.dispatcher.proofs.Whole.{Known, known_step, known_start, later}

clash : {A : Type 0} → ◌≡◌ {A = ℕ} 0 1 → A
clash e = absurd (omega arith)

-- how often a receipt was given
abbrev given : {M : Type 0} → History M → ℕ → ℕ
given h r = count_by (λ e. eqb e.receipt r) (posts h)

-- the entry f was posted, and then an accepted turn was told its deadline or later
pub record Past {M : Type 0} (h : History M) (f : Entry M) : Type 0 where
  pub place : ℕ
  pub is_post : slice_get h place ≡ Some (Posted f)
  pub turn_place : ℕ
  pub told : ℕ
  pub late : ℕ
  pub is_turn : slice_get h turn_place ≡ Some (Turned told late)
  pub reached : f.deadline ≤ told
  pub post_first : place < turn_place

pub record Kept {M : Type 0} (s : State M) (h : History M) : Type 0 where
  pub once : (r : ℕ) → dispatches h r + namings h r + lying s.pending r + lying s.waiting r ≡ given h r
  pub named_late : (q : ℕ) (f : Entry M) → slice_get h q ≡ Some (Named (Some f)) → NamedAfterTurn h q f
  pub waits : All (Past h) s.waiting

module _ {M : Type 0} where
  given_push : (h : History M) (v : Event M) (r : ℕ) → given (h ++ v ∷ []) r ≡ given h r + lying (front v) r
  given_push h v r = ap (count_by (λ e. eqb e.receipt r)) (posts_push h v) ∙ count_append (λ e. eqb e.receipt r) (posts h) (front v)

  event_push : (f : Event M → Bool) (h : History M) (v : Event M) → count_by f (h ++ v ∷ []) ≡ count_by f h + cond (f v) 1 0
  event_push f h v = let a = count_append f h (v ∷ []) in let b = count_cons f v [] in omega arith

  -- an event leaves the receipts in balance
  once_push : (s s' : State M) (h : History M) (v : Event M) → ((r : ℕ) → dispatches h r + namings h r + lying s.pending r + lying s.waiting r ≡ given h r) → ((r : ℕ) → cond (answers r v) 1 0 + cond (names r v) 1 0 + lying s'.pending r + lying s'.waiting r ≡ lying (front v) r + lying s.pending r + lying s.waiting r) → (r : ℕ) → dispatches (h ++ v ∷ []) r + namings (h ++ v ∷ []) r + lying s'.pending r + lying s'.waiting r ≡ given (h ++ v ∷ []) r
  once_push s s' h v old change r =
      let a = old r in
      let b = change r in
      let c = event_push (answers r) h v in
      let d = event_push (names r) h v in
      let e = given_push h v r in
      omega arith

  named_push : (h : History M) (v : Event M) (q : ℕ) (f : Entry M) → NamedAfterTurn h q f → NamedAfterTurn (h ++ v ∷ []) q f
  named_push h v q f n = record { place = n.place; is_post = nth_keeps h v _ _ n.is_post; turn_place = n.turn_place; told = n.told; late = n.late; is_turn = nth_keeps h v _ _ n.is_turn; reached = n.reached; post_first = n.post_first; turn_first = n.turn_first }

  late_push : (h : History M) (v : Event M) → ((q : ℕ) (f : Entry M) → slice_get h q ≡ Some (Named (Some f)) → NamedAfterTurn h q f) → ((f : Entry M) → v ≡ Named (Some f) → NamedAfterTurn (h ++ v ∷ []) (length h) f) → (q : ℕ) (f : Entry M) → slice_get (h ++ v ∷ []) q ≡ Some (Named (Some f)) → NamedAfterTurn (h ++ v ∷ []) q f
  late_push h v old new q f m = ⊎_elim (λ k. named_push h v q f (old q f k)) (λ k. subst (λ i. NamedAfterTurn (h ++ v ∷ []) i f) (sym k.0) (new f k.1)) (nth_cases h v (Named (Some f)) q m)

  past_push : (h : History M) (v : Event M) (e : Entry M) → Past h e → Past (h ++ v ∷ []) e
  past_push h v f n = record { place = n.place; is_post = nth_keeps h v _ _ n.is_post; turn_place = n.turn_place; told = n.told; late = n.late; is_turn = nth_keeps h v _ _ n.is_turn; reached = n.reached; post_first = n.post_first }

  waits_push : (h : History M) (v : Event M) (es : List (Entry M)) → All (Past h) es → All (Past (h ++ v ∷ [])) es
  waits_push h v es a = All-weaker (Past h) (Past (h ++ v ∷ [])) (λ e l. past_push h v e l) es a

  past_lies : (h : History M) (e : Entry M) → Past h e → Lies h e true
  past_lies h e n = record { place = n.place; is_post = n.is_post; past = any_from (reaches e.deadline) h n.turn_place _ n.is_turn (le-leb e.deadline n.told n.reached) }

  -- an event that is no naming and moves nothing
  plain_kept : (s : State M) (h : History M) (v : Event M) → ((f : Entry M) → v ≡ Named (Some f) → ⊥) → ((r : ℕ) → cond (answers r v) 1 0 + cond (names r v) 1 0 ≡ lying (front v) r) → Kept s h → Kept s (h ++ v ∷ [])
  plain_kept s h v other same k =
      record { once = once_push s s h v k.once (λ r. let a = same r in omega arith); named_late = late_push h v k.named_late (λ f e. absurd (other f e)); waits = waits_push h v s.waiting k.waits }

  -- what is pending with the receipt r: the entry f, or something else
  without_lying : {o : Bool} {z n : ℕ} {P : List (Entry M)} {h : History M} → Sound o z n P h → (f : Entry M) → soonest P ≡ Some f → (r : ℕ) → cond (eqb f.receipt r) 1 0 + lying (without f P) r ≡ lying P r
  without_lying {P = P} s f k r =
      let a = count_kept (λ e. not (eqb f.receipt e.receipt)) (λ e. eqb e.receipt r) P in
      let b = countBy_both (λ e. eqb f.receipt e.receipt && eqb e.receipt r) (λ e. not (eqb f.receipt e.receipt) && eqb e.receipt r) (λ e. eqb e.receipt r) (λ e. split (eqb f.receipt e.receipt) (eqb e.receipt r)) P in
      let c = ⊎_elim yes' no' (cases_eq f.receipt r) in
      omega arith
    where
      split : (a b : Bool) → ◌≡◌ {A = ℕ} (cond (a && b) 1 0 + cond (not a && b) 1 0) (cond b 1 0)
      split true true = refl
      split true false = refl
      split false true = refl
      split false false = refl

      yes' : f.receipt ≡ r → count_by (λ e. eqb f.receipt e.receipt && eqb e.receipt r) P ≡ cond (eqb f.receipt r) 1 0
      yes' e =
          let i = soonest_at P f k in
          let a = one_receipt s f.receipt (λ e. eqb e.receipt r) in
          let b = count_nth (λ e. eqb f.receipt e.receipt && eqb e.receipt r) P i.0 f i.1 (and_from _ _ (eq-eqb f.receipt f.receipt refl) (eq-eqb f.receipt r e)) in
          rw (eq-eqb f.receipt r e) (omega arith)

      never : (d : f.receipt ≡ r → ⊥) (e : Entry M) → (eqb f.receipt e.receipt && eqb e.receipt r) ≡ false
      never d e = go _ refl
        where
          go : (b : Bool) → (eqb f.receipt e.receipt && eqb e.receipt r) ≡ b → (eqb f.receipt e.receipt && eqb e.receipt r) ≡ false
          go true q = let a = and_parts (eqb f.receipt e.receipt) (eqb e.receipt r) q in absurd (d (eqb-true _ _ a.0 ∙ eqb-true _ _ a.1))
          go false q = q

      all_never : (d : f.receipt ≡ r → ⊥) (es : List (Entry M)) → All (λ e. (eqb f.receipt e.receipt && eqb e.receipt r) ≡ false) es
      all_never d [] = tt
      all_never d (e ∷ es) = (never d e, all_never d es)

      no' : (f.receipt ≡ r → ⊥) → count_by (λ e. eqb f.receipt e.receipt && eqb e.receipt r) P ≡ cond (eqb f.receipt r) 1 0
      no' d = rw (ne_eqb f.receipt r d) (countBy_none (λ e. eqb f.receipt e.receipt && eqb e.receipt r) P (all_never d P))

module _ {M : Type 0} (b : Terms M) where
  kept_step : (s : State M) (h : History M) (v : Event M) (s' : State M) → Move b s v s' → Known s h → Kept s h → Kept s' (h ++ v ∷ [])
  unfolding past_push
  kept_step s h v s' (refusing c k) w x = plain_kept s h v (λ f e. clash (cc)) (λ r. refl) x
  kept_step s h v s' (opening z r e) w x =
      let y = plain_kept s h v (λ f e. clash (cc)) (λ r. refl) x in record { once = y.once; named_late = y.named_late; waits = y.waits }
  kept_step s h v s' (posting m e i j) w x =
      record { once = once_push s s' h v x.once (λ r. let a = count_append (λ e. eqb e.receipt r) s.pending (new_entry b s m ∷ []) in omega arith); named_late = late_push h v x.named_late (λ f e. clash (cc)); waits = waits_push h v s.waiting x.waits }
  kept_step s h v s' (idling e k) w x = plain_kept s h v (λ f e. clash (cc)) (λ r. refl) x
  kept_step s h v s' (serving f e k) w x =
      record { once = once_push s s' h v x.once (λ r. let a = without_lying w.sound f k r in omega arith); named_late = late_push h v x.named_late (λ f e. clash (cc)); waits = waits_push h v s.waiting x.waits }
  kept_step s h v s' (turning t e k l) w x =
      record { once = once_push s s' h v x.once balance; named_late = late_push h v x.named_late (λ f e. clash (cc)); waits = All-append (Past (h ++ v ∷ [])) s.waiting _ (waits_push h v s.waiting x.waits) moved }
    where
      balance : (r : ℕ) → 0 + 0 + lying (filter (λ e. not (leb e.deadline t)) s.pending) r + lying (s.waiting ++ filter (λ e. leb e.deadline t) s.pending) r ≡ 0 + lying s.pending r + lying s.waiting r
      balance r =
          let a = count_append (λ e. eqb e.receipt r) s.waiting (filter (λ e. leb e.deadline t) s.pending) in
          let c = count_kept (λ e. leb e.deadline t) (λ e. eqb e.receipt r) s.pending in
          let d = count_kept (λ e. not (leb e.deadline t)) (λ e. eqb e.receipt r) s.pending in
          let g = countBy_both (λ e. leb e.deadline t && eqb e.receipt r) (λ e. not (leb e.deadline t) && eqb e.receipt r) (λ e. eqb e.receipt r) (λ e. split (leb e.deadline t) (eqb e.receipt r)) s.pending in
          omega arith
        where
          split : (a b : Bool) → ◌≡◌ {A = ℕ} (cond (a && b) 1 0 + cond (not a && b) 1 0) (cond b 1 0)
          split true true = refl
          split true false = refl
          split false true = refl
          split false false = refl

      both : (es : List (Entry M)) → All (IsPosted h) es → All (λ e. leb e.deadline t ≡ true) es → All (Past (h ++ Turned t (due_by t s.pending) ∷ [])) es
      both [] a c = tt
      both (y ∷ es) a c = (record { place = a.0.0; is_post = nth_keeps h _ _ _ a.0.1; turn_place = length h; told = t; late = due_by t s.pending; is_turn = nth_push_new h _; reached = leb-true y.deadline t c.0; post_first = nth_inside h a.0.0 _ a.0.1 }, both es a.1 c.1)

      moved : All (Past (h ++ Turned t (due_by t s.pending) ∷ [])) (filter (λ e. leb e.deadline t) s.pending)
      moved = both _ (all_kept_by (λ e. leb e.deadline t) (IsPosted h) s.pending (All-weaker (λ e. IsPosted h e × (is_pending h e ≡ true)) (IsPosted h) (λ e q. q.0) s.pending (pending_facts w.sound))) (kept_by_passes (λ e. leb e.deadline t) s.pending)
  kept_step s h v s' (unnamed e) w x = plain_kept s h v (λ f e. clash (cc)) (λ r. refl) x
  kept_step s h v s' (naming f es e k) w x =
      record { once = once_push s s' h v x.once (λ r. let a = ap (λ ys. lying ys r) k in let c = count_cons (λ e. eqb e.receipt r) f es in omega arith); named_late = late_push h v x.named_late (λ g q. subst (λ y. NamedAfterTurn (h ++ Named (Some f) ∷ []) (length h) y) (same g q) here); waits = waits_push h v es all.1 }
    where
      all : All (Past h) (f ∷ es)
      all = subst (All (Past h)) k x.waits

      same : (g : Entry M) → ◌≡◌ {A = Event M} (Named (Some f)) (Named (Some g)) → f ≡ g
      same g q = cc

      here : NamedAfterTurn (h ++ Named (Some f) ∷ []) (length h) f
      here =
          let n = past_push h (Named (Some f)) f all.0 in
          record { place = n.place; is_post = n.is_post; turn_place = n.turn_place; told = n.told; late = n.late; is_turn = n.is_turn; reached = n.reached; post_first = n.post_first; turn_first = nth_inside h _ _ all.0.is_turn }
  kept_step s h v s' (warning c e) w x = plain_kept s h v (λ f e. clash (cc)) (λ r. refl) x
  kept_step s h v s' (beginning o) w x =
      let y = plain_kept s h v (λ f e. clash (cc)) (λ r. refl) x in record { once = y.once; named_late = y.named_late; waits = y.waits }
  kept_step s h v s' (asking g) w x = plain_kept s h v (λ f e. clash (cc)) (λ r. refl) x

  kept_from : (r : Told M) (calls : List (Call M)) → Known r.state r.history → Kept r.state r.history → (let r' = fold (λ r c. told r (step b r.state c)) r calls in Known r'.state r'.history × Kept r'.state r'.history)
  kept_from r [] w x = (w, x)
  kept_from r (c ∷ calls) w x =
      let m = step_moves b r.state (later w.sound) c in
      kept_from (told r (step b r.state c)) calls (known_step b r.state r.history _ _ m w) (kept_step r.state r.history _ _ m w x)

module _ {M : Type 0} {s : State M} {h : History M} (w : Known s h) where
  -- a receipt that was given was given once
  given_once : (p : ℕ) (e : Entry M) → slice_get h p ≡ Some (Posted e) → given h e.receipt ≡ 1
  given_once p e m =
      let a = count_posts t h in
      let b = pigeonhole (λ _. 0) (length h) 1 (λ q. at_post t (slice_get h q)) (λ q l k. omega arith) (λ q q' l l' k k' _. one q q' (at_post_true t (slice_get h q) k) (at_post_true t (slice_get h q') k')) in
      let c = count_lt (λ _. false) (λ q. at_post t (slice_get h q)) (length h) p (nth_inside h p _ m) refl (at_post_from t (slice_get h p) e m (eq-eqb e.receipt e.receipt refl)) (λ q l k. absurd (false≢true k)) in
      omega arith
    where
      t : Entry M → Bool
      t f = eqb f.receipt e.receipt

      one : (q q' : ℕ) → (f : Entry M) × (slice_get h q ≡ Some (Posted f)) × (t f ≡ true) → (f : Entry M) × (slice_get h q' ≡ Some (Posted f)) × (t f ≡ true) → q ≡ q'
      one q q' a c = w.sound.apart q q' a.0 c.0 a.1 c.1 (eqb-true _ _ a.2 ∙ sym (eqb-true _ _ c.2))

module _ {M : Type 0} where
  pub each_once : (b : Terms M) (calls : List (Call M)) → EachOnce (run b calls)
  each_once b calls =
      let k = kept_from b (record { state = start; history = [] }) calls (known_start b) (record { once = λ r. refl; named_late = λ q f m. clash (cc); waits = tt }) in
      let w = k.0 in
      let x = k.1 in
      record {
        receipts_apart = w.sound.apart;
        exactly_once = λ p e m. x.once e.receipt ∙ given_once w p e m;
        dispatched_in_time = λ q f m. let c = w.sound.came q f m in record { place = c.place; is_post = c.is_post; after = c.after; in_time = c.in_time };
        named_after_turn = x.named_late;
        pending_before = λ i f m. let a = all_nth _ _ i f (pending_facts w.sound) m in record { place = a.0.0; is_post = a.0.1; past = (pending_parts w.sound f a.1).1 };
        waiting_after = λ i f m. past_lies _ f (all_nth (Past (run b calls).history) _ i f x.waits m);
      }

-- All that is known of the machine, at each step; and the theorem on the late count.
use Rattle.std.proofs.Common.{◌≡◌, ℕ, ◌+◌, ◌<◌, ◌≤◌, Bool, true, not, ◌&&◌, leb, List, [], ◌∷◌, ◌++◌, length, Some, None, fold, count_by, filter, Option, sym, refl, ap, ◌∙◌, subst, inl, ⊎_elim, arith}
use Rattle.std.specs.List.{slice_get, AllByRecursion as All}
use Rattle.std.proofs.lemmas.Bool.{cases_lt, leb-true, eqb-true, and_from, and_parts, false≢true}
use Rattle.dispatcher.specs.Machine.{Entry, Event, Call, Terms, State, Told, told, step, run, start, due_by, without, new_entry}
use Rattle.dispatcher.specs.declared.event.Event.TheVariants.{Asked, Begun, Dispatched, Named, Opened, Posted, Refused, Turned, Warned}
use Rattle.dispatcher.specs.History.{History, place, is_some, at_post, is_pending, own, call_at, answers, turned_to, ServiceOrder, Serves, is_late, late_posts}
use Rattle.dispatcher.specs.Theorems.{LateIsLeast}
use Rattle.dispatcher.proofs.Counts.{count_le, count_same}
use Rattle.dispatcher.proofs.Places.{is_some_place, place_at}
use Rattle.dispatcher.proofs.Moves.{Move, step_moves}
use Rattle.dispatcher.proofs.Moves.Move.{refusing, opening, posting, idling, serving, turning, unnamed, naming, warning, beginning, asking}
use Rattle.dispatcher.proofs.Facts.{posts, is_lost, IsPosted, count_posts}
use Rattle.dispatcher.proofs.Sound.{Sound, Came, sound_plain, sound_open, sound_post, sound_serve, sound_turn, pending_facts, pending_parts}
use Rattle.std.proofs.ByRecursion.{All-weaker}
use Rattle.dispatcher.proofs.Lost.{lost_plain, lost_post, lost_serve, lost_turn}
use Rattle.dispatcher.proofs.Orders.{Least, open_by, at_post_true, at_post_from, least_other, least_post, least_turn, least_serve}
use Rattle.dispatcher.proofs.Soonest.{all_nth, soonest_at, due_less, due_one}

pub record Known {M : Type 0} (s : State M) (h : History M) : Type 0 where
  pub sound : Sound s.is_open s.cycle s.next s.pending h
  pub lost : s.late ≡ count_by (is_lost h) (posts h)
  pub least : Least s.late s.cycle s.pending h

-- what is pending is due after this cycle
pub later : {M : Type 0} {o : Bool} {z n : ℕ} {P : List (Entry M)} {h : History M} → Sound o z n P h → All (λ e. z < e.deadline) P
later {z = z} {P = P} {h = h} s = All-weaker (λ e. IsPosted h e × (is_pending h e ≡ true)) (λ e. z < e.deadline) (λ e k. ⊎_elim (λ l. l) (λ l. absurd (false≢true (sym (pending_parts s e k.1).1 ∙ s.passed k.0.0 e k.0.1 l))) (cases_lt z e.deadline)) P (pending_facts s)

module _ {M : Type 0} (b : Terms M) where
  pub known_step : (s : State M) (h : History M) (v : Event M) (s' : State M) → Move b s v s' → Known s h → Known s' (h ++ v ∷ [])
  known_step s h v s' (refusing c k) w = record { sound = sound_plain w.sound _ refl; lost = w.lost ∙ sym (lost_plain w.sound _ refl); least = least_other s.late s.cycle s.pending h w.least _ (λ a e. let z : ◌≡◌ {A = ℕ} 0 1 = cc in omega arith) }
  known_step s h v s' (opening z r e) w = record { sound = sound_plain (sound_open w.sound z r e) _ refl; lost = w.lost ∙ sym (lost_plain w.sound _ refl); least = λ o g x l. least_other s.late s.cycle s.pending h w.least (Opened z r) (λ a e. let z : ◌≡◌ {A = ℕ} 0 1 = cc in omega arith) o g x (let y = w.sound.origin e in omega arith) }
  known_step s h v s' (posting m e i j) w = record { sound = subst (λ q. Sound q s.cycle (s.next + 1) (s.pending ++ new_entry b s m ∷ []) (h ++ Posted (new_entry b s m) ∷ [])) (sym e) (sound_post w.sound (new_entry b s m) refl (omega arith)); lost = w.lost ∙ sym (lost_post w.sound (new_entry b s m) (omega arith)); least = least_post s.late s.cycle s.pending h w.least (new_entry b s m) }
  known_step s h v s' (idling e k) w = record { sound = sound_plain w.sound _ refl; lost = w.lost ∙ sym (lost_plain w.sound _ refl); least = least_serve s.late s.cycle s.pending h w.least None s.pending (λ e p. w.sound.passed p e) (λ x. inl (rw k refl)) (λ x. omega arith) }
  known_step s h v s' (serving f e k) w =
      let i = soonest_at s.pending f k in
      let a = all_nth (λ e. IsPosted h e × (is_pending h e ≡ true)) s.pending i.0 f (pending_facts w.sound) i.1 in
      record { sound = subst (λ q. Sound q s.cycle s.next (without f s.pending) (h ++ Dispatched (Some f) ∷ [])) (sym e) (sound_serve w.sound f a.0 a.1); lost = w.lost ∙ sym (lost_serve w.sound f a.0 a.1); least = least_serve s.late s.cycle s.pending h w.least (Some f) (without f s.pending) (λ e p. w.sound.passed p e) (due_one w.sound f k) (due_less w.sound f) }
  known_step s h v s' (turning t e k l) w = record { sound = subst (λ q. Sound q t s.next (filter (λ e. not (leb e.deadline t)) s.pending) (h ++ Turned t (due_by t s.pending) ∷ [])) (sym e) (sound_turn w.sound t (due_by t s.pending) l); lost = ap (λ y. y + due_by t s.pending) w.lost ∙ sym (lost_turn w.sound t (due_by t s.pending)); least = least_turn s.late s.cycle s.pending h w.least t (due_by t s.pending) (omega arith) }
  known_step s h v s' (unnamed e) w = record { sound = sound_plain w.sound _ refl; lost = w.lost ∙ sym (lost_plain w.sound _ refl); least = least_other s.late s.cycle s.pending h w.least _ (λ a e. let z : ◌≡◌ {A = ℕ} 0 1 = cc in omega arith) }
  known_step s h v s' (naming f es e k) w = record { sound = sound_plain w.sound _ refl; lost = w.lost ∙ sym (lost_plain w.sound _ refl); least = least_other s.late s.cycle s.pending h w.least _ (λ a e. let z : ◌≡◌ {A = ℕ} 0 1 = cc in omega arith) }
  known_step s h v s' (warning c e) w = record { sound = sound_plain w.sound _ refl; lost = w.lost ∙ sym (lost_plain w.sound _ refl); least = least_other s.late s.cycle s.pending h w.least _ (λ a e. let z : ◌≡◌ {A = ℕ} 0 1 = cc in omega arith) }
  known_step s h v s' (beginning o) w = record { sound = sound_plain w.sound _ refl; lost = w.lost ∙ sym (lost_plain w.sound _ refl); least = least_other s.late s.cycle s.pending h w.least _ (λ a e. let z : ◌≡◌ {A = ℕ} 0 1 = cc in omega arith) }
  known_step s h v s' (asking g) w = record { sound = sound_plain w.sound _ refl; lost = w.lost ∙ sym (lost_plain w.sound _ refl); least = least_other s.late s.cycle s.pending h w.least _ (λ a e. let z : ◌≡◌ {A = ℕ} 0 1 = cc in omega arith) }

  pub known_start : Known {M = M} start []
  known_start =
      record {
        sound = record {
          shut = λ _ p v e. absurd (let z : ◌≡◌ {A = ℕ} 0 1 = cc in omega arith);
          origin = λ _. refl;
          apart = λ p p' e e' m _ _. absurd (let z : ◌≡◌ {A = ℕ} 0 1 = cc in omega arith);
          below = λ p e m. absurd (let z : ◌≡◌ {A = ℕ} 0 1 = cc in omega arith);
          turns = λ r t k m. absurd (let z : ◌≡◌ {A = ℕ} 0 1 = cc in omega arith);
          passed = λ p e m _. absurd (let z : ◌≡◌ {A = ℕ} 0 1 = cc in omega arith);
          came = λ q f m. absurd (let z : ◌≡◌ {A = ℕ} 0 1 = cc in omega arith);
          kept = refl;
        };
        lost = refl;
        least = λ o s x l. omega arith;
      }

  known_from : (r : Told M) (calls : List (Call M)) → Known r.state r.history → (let r' = fold (λ r c. told r (step b r.state c)) r calls in Known r'.state r'.history)
  known_from r [] w = w
  known_from r (c ∷ calls) w = known_from (told r (step b r.state c)) calls (known_step r.state r.history _ _ (step_moves b r.state (later w.sound) c) w)

module _ {M : Type 0} where
  pub known : (b : Terms M) (calls : List (Call M)) → Known (run b calls).state (run b calls).history
  known b calls = known_from b (record { state = start; history = [] }) calls (known_start b)

  -- the dispatcher's own order
  own_post : (h : History M) (x : Option (Event M)) (q : ℕ) → call_at h x ≡ Some q → (e : Entry M) × (x ≡ Some (Posted e)) × (place (answers e.receipt) h ≡ Some q)
  own_post h None q k = absurd (let z : ◌≡◌ {A = ℕ} 0 1 = cc in omega arith)
  own_post h (Some (Refused c j)) q k = absurd (let z : ◌≡◌ {A = ℕ} 0 1 = cc in omega arith)
  own_post h (Some (Opened c j)) q k = absurd (let z : ◌≡◌ {A = ℕ} 0 1 = cc in omega arith)
  own_post h (Some (Posted e)) q k = (e, refl, k)
  own_post h (Some (Dispatched c)) q k = absurd (let z : ◌≡◌ {A = ℕ} 0 1 = cc in omega arith)
  own_post h (Some (Turned c j)) q k = absurd (let z : ◌≡◌ {A = ℕ} 0 1 = cc in omega arith)
  own_post h (Some (Named c)) q k = absurd (let z : ◌≡◌ {A = ℕ} 0 1 = cc in omega arith)
  own_post h (Some (Warned c j)) q k = absurd (let z : ◌≡◌ {A = ℕ} 0 1 = cc in omega arith)
  own_post h (Some (Asked c)) q k = absurd (let z : ◌≡◌ {A = ℕ} 0 1 = cc in omega arith)
  own_post h (Some Begun) q k = absurd (let z : ◌≡◌ {A = ℕ} 0 1 = cc in omega arith)

  pub answers_true : (r : ℕ) (v : Event M) → answers r v ≡ true → (f : Entry M) × (v ≡ Dispatched (Some f)) × (f.receipt ≡ r)
  answers_true r (Refused c j) k = absurd (false≢true k)
  answers_true r (Opened c j) k = absurd (false≢true k)
  answers_true r (Posted e) k = absurd (false≢true k)
  answers_true r (Dispatched None) k = absurd (false≢true k)
  answers_true r (Dispatched (Some f)) k = (f, refl, eqb-true f.receipt r k)
  answers_true r (Turned c j) k = absurd (false≢true k)
  answers_true r (Named c) k = absurd (false≢true k)
  answers_true r (Warned c j) k = absurd (false≢true k)
  answers_true r (Asked c) k = absurd (false≢true k)
  answers_true r Begun k = absurd (false≢true k)

  own_lost : (h : History M) (x : Option (Event M)) → at_post (λ e. turned_to h e.deadline && not (is_some (call_at h x))) x ≡ at_post (is_lost h) x
  own_lost h None = refl
  own_lost h (Some (Refused c j)) = refl
  own_lost h (Some (Opened c j)) = refl
  own_lost h (Some (Posted e)) = rw (is_some_place (answers e.receipt) h) refl
  own_lost h (Some (Dispatched c)) = refl
  own_lost h (Some (Turned c j)) = refl
  own_lost h (Some (Named c)) = refl
  own_lost h (Some (Warned c j)) = refl
  own_lost h (Some (Asked c)) = refl
  own_lost h (Some Begun) = refl

  -- what a call of the own order is
  pub record Own (h : History M) (p q : ℕ) : Type 0 where
    pub entry : Entry M
    pub is_post : slice_get h p ≡ Some (Posted entry)
    pub is_call : slice_get h q ≡ Some (Dispatched (Some entry))
    pub came : Came h q entry
    pub same_place : came.place ≡ p

  module _ {s : State M} {h : History M} (w : Known s h) where
    own_call : (p q : ℕ) → own h p ≡ Some q → Own h p q
    own_call p q k =
        let a = own_post h (slice_get h p) q k in
        let b = place_at (answers a.0.receipt) h q a.2 in
        let c = answers_true a.0.receipt b.0 b.2 in
        let m : slice_get h q ≡ Some (Dispatched (Some c.0)) = b.1 ∙ ap Some c.1 in
        let g = w.sound.came q c.0 m in
        let j = w.sound.apart g.place p c.0 a.0 g.is_post a.1 c.2 in
        let i : slice_get h p ≡ Some (Posted c.0) = subst (λ y. slice_get h y ≡ Some (Posted c.0)) j g.is_post in
        record { entry = c.0; is_post = i; is_call = m; came = g; same_place = j }

    own_order : ServiceOrder h (own h)
    own_order = record { serves = λ p q k. made p q (own_call p q k); one_each = λ p p' q k k'. once p p' q (own_call p q k) (own_call p' q k') }
      where
        made : (p q : ℕ) → Own h p q → Serves h p q
        made p q c = record { entry = c.entry; is_post = c.is_post; answer = Some c.entry; is_call = c.is_call; after = (let a = c.same_place in let b = c.came.after in omega arith); in_time = c.came.in_time }

        once : (p p' q : ℕ) → Own h p q → Own h p' q → p ≡ p'
        once p p' q c c' = w.sound.apart p p' c.entry c'.entry c.is_post c'.is_post (ap receipt_of (inside c.entry c'.entry (sym c.is_call ∙ c'.is_call)))
          where
            receipt_of : Entry M → ℕ
            receipt_of x = x.receipt

            inside : (x y : Entry M) → Some (Dispatched (Some x)) ≡ Some (Dispatched (Some y)) → x ≡ y
            inside x y k = cc

    own_late : s.late ≡ late_posts h (own h)
    own_late = w.lost ∙ sym (count_posts (is_lost h) h) ∙ sym (count_same (is_late h (own h)) (λ p. at_post (is_lost h) (slice_get h p)) (length h) (λ p l. own_lost h (slice_get h p)))

    least_late : (o : ℕ → Option ℕ) → ServiceOrder h o → s.late ≤ late_posts h o
    least_late o g =
        let a = w.least o g s.cycle (omega arith) in
        let b = count_le (open_by h o s.cycle) (is_late h o) (length h) each in
        omega arith
      where
        each : (p : ℕ) → p < length h → open_by h o s.cycle p ≡ true → is_late h o p ≡ true
        each p l k =
            let a = at_post_true (λ e. leb e.deadline s.cycle && not (is_some (o p))) (slice_get h p) k in
            let c = and_parts (leb a.0.deadline s.cycle) (not (is_some (o p))) a.2 in
            at_post_from (λ e. turned_to h e.deadline && not (is_some (o p))) (slice_get h p) a.0 a.1
            (and_from _ _ (w.sound.passed p a.0 a.1 (leb-true _ s.cycle c.0)) c.1)

  pub late_is_least : (b : Terms M) (calls : List (Call M)) → LateIsLeast (run b calls)
  late_is_least b calls = let w = known b calls in record { own_is_order = own_order w; own_late = own_late w; least = least_late w }

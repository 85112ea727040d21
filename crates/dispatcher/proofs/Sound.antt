-- The state as its history has it, at each step.
use Rattle.std.proofs.Common.{◌≡◌, ℕ, ◌+◌, ◌<◌, ◌≤◌, Bool, true, false, not, ◌&&◌, eqb, leb, ◌⊎◌, List, [], ◌∷◌, ◌++◌, length, Some, None, filter, sym, refl, ap, ◌∙◌, subst, inl, inr, ⊎_elim, append-nil, arith}
use Rattle.std.specs.List.{slice_get, AllByRecursion as All}
use Rattle.std.proofs.ByRecursion.{all_kept_by, kept_by_passes}
use Rattle.std.proofs.lemmas.Bool.{false≢true, true≢false, and_parts, eqb-true, not-true, le-leb, leb-true, or_left, or_right}
use Rattle.dispatcher.specs.Machine.{Entry, Event, without}
use Rattle.dispatcher.specs.declared.event.Event.TheVariants.{Asked, Begun, Dispatched, Named, Opened, Posted, Refused, Turned, Warned}
use Rattle.dispatcher.specs.History.{History, any, reaches, answers, turned_to, was_dispatched, is_pending}
use Rattle.dispatcher.proofs.Places.{nth_inside, nth_keeps, nth_cases, any_push, any_from, any_place, kept_same}
use Rattle.dispatcher.proofs.Facts.{posts, kind, passes, IsPosted, all_posts, old, no_front, pending_push, kept_push, kept_all, passes_plain}

-- the entry f, dispatched at q, was posted before q, and q comes before its deadline turn
pub record Came {M : Type 0} (h : History M) (q : ℕ) (f : Entry M) : Type 0 where
  pub place : ℕ
  pub is_post : slice_get h place ≡ Some (Posted f)
  pub after : place < q
  pub in_time : (r t n : ℕ) → slice_get h r ≡ Some (Turned t n) → f.deadline ≤ t → q < r

pub record Sound {M : Type 0} (o : Bool) (z n : ℕ) (P : List (Entry M)) (h : History M) : Type 0 where
  pub shut : o ≡ false → (p : ℕ) (v : Event M) → slice_get h p ≡ Some v → kind v ≡ 0
  pub origin : o ≡ false → z ≡ 0
  pub apart : (p p' : ℕ) (e e' : Entry M) → slice_get h p ≡ Some (Posted e) → slice_get h p' ≡ Some (Posted e') → e.receipt ≡ e'.receipt → p ≡ p'
  pub below : (p : ℕ) (e : Entry M) → slice_get h p ≡ Some (Posted e) → e.receipt < n
  pub turns : (r t k : ℕ) → slice_get h r ≡ Some (Turned t k) → t ≤ z
  pub passed : (p : ℕ) (e : Entry M) → slice_get h p ≡ Some (Posted e) → e.deadline ≤ z → turned_to h e.deadline ≡ true
  pub came : (q : ℕ) (f : Entry M) → slice_get h q ≡ Some (Dispatched (Some f)) → Came h q f
  pub kept : P ≡ filter (is_pending h) (posts h)

pub any_keeps : {X : Type 0} (t : X → Bool) (h : List X) (v : X) → any t h ≡ true → any t (h ++ v ∷ []) ≡ true
any_keeps t h v e = any_push t h v ∙ or_left (any t h) (t v) e

module _ {M : Type 0} where
  pub came_push : (h : History M) (v : Event M) (q : ℕ) (f : Entry M) → q < length h → Came h q f → Came (h ++ v ∷ []) q f
  came_push h v q f l c =
      record { place = c.place; is_post = nth_keeps h v (Posted f) c.place c.is_post; after = c.after; in_time = λ r t n e d. ⊎_elim (λ k. c.in_time r t n k d) (λ k. omega arith) (nth_cases h v (Turned t n) r e) }

  -- some turn in the history was told d or later only if the cycle is d or later
  pub turned_le : (h : History M) (z d : ℕ) → ((r t k : ℕ) → slice_get h r ≡ Some (Turned t k) → t ≤ z) → turned_to h d ≡ true → d ≤ z
  turned_le h z d turns e =
      let a = any_place (reaches d) h e in
      go a.1 a.2 a.3
    where
      go : (v : Event M) → slice_get h (any_place (reaches d) h e).0 ≡ Some v → reaches d v ≡ true → d ≤ z
      go (Refused c k) m r = absurd (false≢true r)
      go (Opened x y) m r = absurd (false≢true r)
      go (Posted x) m r = absurd (false≢true r)
      go (Dispatched x) m r = absurd (false≢true r)
      go (Turned t k) m r = let a = leb-true d t r in let b = turns _ t k m in omega arith
      go (Named x) m r = absurd (false≢true r)
      go (Warned c x) m r = absurd (false≢true r)
      go (Asked x) m r = absurd (false≢true r)
      go Begun m r = absurd (false≢true r)

  pub not_turned : (h : History M) (z d : ℕ) → ((r t k : ℕ) → slice_get h r ≡ Some (Turned t k) → t ≤ z) → z < d → turned_to h d ≡ false
  not_turned h z d turns l = go (turned_to h d) refl
    where
      go : (b : Bool) → turned_to h d ≡ b → turned_to h d ≡ false
      go true e = absurd (let k = turned_le h z d turns e in omega arith)
      go false e = e

  -- a receipt that no post has yet was not dispatched
  pub not_dispatched : (h : History M) (n : ℕ) → ((p : ℕ) (e : Entry M) → slice_get h p ≡ Some (Posted e) → e.receipt < n) → ((q : ℕ) (f : Entry M) → slice_get h q ≡ Some (Dispatched (Some f)) → Came h q f) → was_dispatched h n ≡ false
  not_dispatched h n below came = go (was_dispatched h n) refl
    where
      at : (q : ℕ) (v : Event M) → slice_get h q ≡ Some v → answers n v ≡ true → ⊥
      at q (Refused c k) m r = false≢true r
      at q (Opened x y) m r = false≢true r
      at q (Posted x) m r = false≢true r
      at q (Dispatched None) m r = false≢true r
      at q (Dispatched (Some f)) m r =
          let c = came q f m in
          let a = below c.place f c.is_post in
          let b = eqb-true f.receipt n r in
          omega arith
      at q (Turned t k) m r = false≢true r
      at q (Named x) m r = false≢true r
      at q (Warned c x) m r = false≢true r
      at q (Asked x) m r = false≢true r
      at q Begun m r = false≢true r

      go : (b : Bool) → was_dispatched h n ≡ b → was_dispatched h n ≡ false
      go true e = let a = any_place (answers n) h e in absurd (at a.0 a.1 a.2 a.3)
      go false e = e

  module _ {o : Bool} {z n : ℕ} {P : List (Entry M)} {h : History M} (s : Sound o z n P h) where
    -- an event that changes nothing of this
    pub sound_plain : (v : Event M) → kind v ≡ 0 → Sound o z n P (h ++ v ∷ [])
    sound_plain v k =
        record {
          shut = λ e p x m. ⊎_elim (λ a. s.shut e p x a) (λ a. ap kind (sym a.1) ∙ k) (nth_cases h v x p m);
          origin = s.origin;
          apart = λ p p' e e' m m'. s.apart p p' e e' (old h v _ p (λ a. omega arith) m) (old h v _ p' (λ a. omega arith) m');
          below = λ p e m. s.below p e (old h v _ p (λ a. omega arith) m);
          turns = λ r t j m. s.turns r t j (old h v _ r (λ a. omega arith) m);
          passed = λ p e m d. any_keeps (reaches e.deadline) h v (s.passed p e (old h v _ p (λ a. omega arith) m) d);
          came = λ q f m. let m' = old h v (Dispatched (Some f)) q (λ a. omega arith) m in came_push h v q f (nth_inside h q _ m') (s.came q f m');
          kept = s.kept ∙ sym (kept_push h v ∙ ap (λ es. filter (passes v) (filter (is_pending h) (posts h)) ++ filter (is_pending (h ++ v ∷ [])) es) (no_front v k) ∙ append-nil _ ∙ kept_all (passes v) (passes_plain v k) _);
        }

    pub sound_open : (z' n' : ℕ) → o ≡ false → Sound true z' n' P h
    sound_open z' n' e =
        record {
          shut = λ k. absurd (true≢false k);
          origin = λ k. absurd (true≢false k);
          apart = s.apart;
          below = λ p x m. absurd (let k = s.shut e p (Posted x) m in omega arith);
          turns = λ r t j m. absurd (let k = s.shut e r (Turned t j) m in omega arith);
          passed = λ p x m. absurd (let k = s.shut e p (Posted x) m in omega arith);
          came = s.came;
          kept = s.kept;
        }

    -- a new entry is not yet turned to, and its receipt was not dispatched
    pub fresh : (e : Entry M) → e.receipt ≡ n → z < e.deadline → is_pending h e ≡ true
    fresh e a d =
        let k : was_dispatched h e.receipt ≡ false = rw a (not_dispatched h n s.below s.came) in
        let j = not_turned h z e.deadline s.turns d in
        rw (k, j) refl

    pub sound_post : (e : Entry M) → e.receipt ≡ n → z < e.deadline → Sound true z (n + 1) (P ++ e ∷ []) (h ++ Posted e ∷ [])
    sound_post e a d =
        record {
          shut = λ k. absurd (true≢false k);
          origin = λ k. absurd (true≢false k);
          apart = λ p p' x x' m m' r. apart' p p' x x' r (nth_cases h (Posted e) (Posted x) p m) (nth_cases h (Posted e) (Posted x') p' m');
          below = λ p x m. ⊎_elim (λ k. let b = s.below p x k in omega arith) (λ k. let b = ap receipt_of (same x k.1) in omega arith) (nth_cases h (Posted e) (Posted x) p m);
          turns = λ r t j m. s.turns r t j (old h (Posted e) _ r (λ k. omega arith) m);
          passed = λ p x m l. ⊎_elim (λ k. any_keeps (reaches x.deadline) h (Posted e) (s.passed p x k l)) (λ k. absurd (let b = ap deadline_of (same x k.1) in omega arith)) (nth_cases h (Posted e) (Posted x) p m);
          came = λ q f m. let m' = old h (Posted e) (Dispatched (Some f)) q (λ k. omega arith) m in came_push h (Posted e) q f (nth_inside h q _ m') (s.came q f m');
          kept = ap (λ es. es ++ e ∷ []) (s.kept ∙ sym (kept_all (passes (Posted e)) (λ x. refl) _)) ∙ ap (λ es. filter (passes (Posted e)) (filter (is_pending h) (posts h)) ++ es) (sym (rw (pending_push h (Posted e) e, fresh e a d) refl)) ∙ sym (kept_push h (Posted e));
        }
      where
        receipt_of : Entry M → ℕ
        receipt_of x = x.receipt

        deadline_of : Entry M → ℕ
        deadline_of x = x.deadline

        same : (x : Entry M) → ◌≡◌ {A = Event M} (Posted e) (Posted x) → e ≡ x
        same x k = cc

        apart' : (p p' : ℕ) (x x' : Entry M) → x.receipt ≡ x'.receipt → (slice_get h p ≡ Some (Posted x)) ⊎ ((p ≡ length h) × (Posted e ≡ Posted x)) → (slice_get h p' ≡ Some (Posted x')) ⊎ ((p' ≡ length h) × (Posted e ≡ Posted x')) → p ≡ p'
        apart' p p' x x' r (inl m) (inl m') = s.apart p p' x x' m m' r
        apart' p p' x x' r (inl m) (inr k') = absurd (let b = ap receipt_of (same x' k'.1) in let c = s.below p x m in omega arith)
        apart' p p' x x' r (inr k) (inl m') = absurd (let b = ap receipt_of (same x k.1) in let c = s.below p' x' m' in omega arith)
        apart' p p' x x' r (inr k) (inr k') = k.0 ∙ sym k'.0

    -- each pending entry stands in the history as a pending post
    pub pending_facts : All (λ e. IsPosted h e × (is_pending h e ≡ true)) P
    pending_facts = subst (λ es. All (λ e. IsPosted h e × (is_pending h e ≡ true)) es) (sym s.kept) (both (filter (is_pending h) (posts h)) (all_kept_by (is_pending h) (IsPosted h) (posts h) (all_posts h)) (kept_by_passes (is_pending h) (posts h)))
      where
        both : (es : List (Entry M)) → All (IsPosted h) es → All (λ e. is_pending h e ≡ true) es → All (λ e. IsPosted h e × (is_pending h e ≡ true)) es
        both [] a b = tt
        both (e ∷ es) a b = ((a.0, b.0), both es a.1 b.1)

    pub pending_parts : (e : Entry M) → is_pending h e ≡ true → (was_dispatched h e.receipt ≡ false) × (turned_to h e.deadline ≡ false)
    pending_parts e k = let a = and_parts (not (was_dispatched h e.receipt)) _ k in (not-true _ a.0, not-true _ a.1)

    pub sound_serve : (f : Entry M) → IsPosted h f → is_pending h f ≡ true → Sound true z n (without f P) (h ++ Dispatched (Some f) ∷ [])
    sound_serve f a d =
        record {
          shut = λ k. absurd (true≢false k);
          origin = λ k. absurd (true≢false k);
          apart = λ p p' e e' m m'. s.apart p p' e e' (old h v _ p (λ k. omega arith) m) (old h v _ p' (λ k. omega arith) m');
          below = λ p e m. s.below p e (old h v _ p (λ k. omega arith) m);
          turns = λ r t j m. s.turns r t j (old h v _ r (λ k. omega arith) m);
          passed = λ p e m l. any_keeps (reaches e.deadline) h v (s.passed p e (old h v _ p (λ k. omega arith) m) l);
          came = λ q x m. ⊎_elim (λ k. came_push h v q x (nth_inside h q _ k) (s.came q x k)) (λ k. let e : f ≡ x = same x k.1 in subst (λ y. Came (h ++ v ∷ []) q y) e (subst (λ i. Came (h ++ v ∷ []) i f) (sym k.0) here)) (nth_cases h v (Dispatched (Some x)) q m);
          kept = ap (without f) s.kept ∙ kept_same _ (passes v) (λ x. sym (and_true (not (eqb f.receipt x.receipt)))) _ ∙ sym (append-nil _) ∙ sym (kept_push h v);
        }
      where
        v : Event M
        v = Dispatched (Some f)

        same : (x : Entry M) → ◌≡◌ {A = Event M} (Dispatched (Some f)) (Dispatched (Some x)) → f ≡ x
        same x k = cc

        and_true : (b : Bool) → (b && true) ≡ b
        and_true true = refl
        and_true false = refl

        here : Came (h ++ Dispatched (Some f) ∷ []) (length h) f
        here = record { place = a.0; is_post = nth_keeps h v (Posted f) a.0 a.1; after = nth_inside h a.0 _ a.1; in_time = λ r t j m l. absurd (false≢true (sym (pending_parts f d).1 ∙ any_from (reaches f.deadline) h r (Turned t j) (old h v _ r (λ k. omega arith) m) (le-leb f.deadline t l))) }

    pub sound_turn : (t j : ℕ) → z < t → Sound true t n (filter (λ e. not (leb e.deadline t)) P) (h ++ Turned t j ∷ [])
    sound_turn t j l =
        record {
          shut = λ k. absurd (true≢false k);
          origin = λ k. absurd (true≢false k);
          apart = λ p p' e e' m m'. s.apart p p' e e' (old h v _ p (λ k. omega arith) m) (old h v _ p' (λ k. omega arith) m');
          below = λ p e m. s.below p e (old h v _ p (λ k. omega arith) m);
          turns = λ r t' j' m. ⊎_elim (λ k. let a = s.turns r t' j' k in omega arith) (λ k. let e : t ≡ t' = same t' j' k.1 in omega arith) (nth_cases h v (Turned t' j') r m);
          passed = λ p e m d. any_push (reaches e.deadline) h v ∙ or_right _ _ (le-leb e.deadline t d);
          came = λ q f m. let m' = old h v (Dispatched (Some f)) q (λ k. omega arith) m in came_push h v q f (nth_inside h q _ m') (s.came q f m');
          kept = ap (filter (λ e. not (leb e.deadline t))) s.kept ∙ sym (append-nil _) ∙ sym (kept_push h v);
        }
      where
        v : Event M
        v = Turned t j

        same : (t' j' : ℕ) → ◌≡◌ {A = Event M} (Turned t j) (Turned t' j') → t ≡ t'
        same t' j' k = cc

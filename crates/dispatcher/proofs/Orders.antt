-- No service order leaves fewer posts unserved than the machine does.
use Rattle.std.proofs.Common.{◌≡◌, ℕ, suc, ◌+◌, ◌<◌, ◌≤◌, Bool, true, false, cond, not, ◌&&◌, ltb, leb, ◌⊎◌, List, [], ◌∷◌, ◌++◌, length, Some, None, filter, Option, sym, refl, ap, ◌∙◌, subst, inl, inr, arith}
use Rattle.std.specs.List.{slice_get}
use Rattle.std.proofs.lemmas.List.{length_push}
use Rattle.std.proofs.lemmas.Bool.{false≢true, true≢false, ltb-true, ltb-false, leb-true, le-leb, and_parts, and_from, not-true, not_from_false}
use Rattle.dispatcher.specs.Machine.{Entry, Event, due_by}
use Rattle.dispatcher.specs.declared.event.Event.TheVariants.{Asked, Begun, Dispatched, Named, Opened, Posted, Refused, Turned, Warned}
use Rattle.dispatcher.specs.History.{History, count, is_some, reaches, turned_to, at_post, Serves, ServiceOrder}
use Rattle.dispatcher.proofs.Counts.{count_le, count_one}
use Rattle.dispatcher.proofs.Places.{nth_inside, nth_push_new, nth_push_old, nth_keeps, nth_back, any_place, count_append, count_cons, count_kept, countBy_both}
use Rattle.dispatcher.proofs.Facts.{kind, old}

-- the order as far as the calls before n
pub before : ℕ → Option ℕ → Option ℕ
before n None = None
before n (Some q) = cond (ltb q n) (Some q) None

abbrev pub cut : ℕ → (ℕ → Option ℕ) → ℕ → Option ℕ
cut n o p = before n (o p)

before_some : (n : ℕ) (x : Option ℕ) (q : ℕ) → before n x ≡ Some q → (x ≡ Some q) × (q < n)
unfolding before
before_some n None q e = absurd (let z : ◌≡◌ {A = ℕ} 0 1 = cc in omega arith)
before_some n (Some r) q e = go (ltb r n) refl e
  where
    go : (b : Bool) → ltb r n ≡ b → cond b (Some r) None ≡ Some q → (Some r ≡ Some q) × (q < n)
    go true k e = let a = ltb-true r n k in let b : r ≡ q = cc in (e, omega arith)
    go false k e = absurd (let z : ◌≡◌ {A = ℕ} 0 1 = cc in omega arith)

-- what the cut takes away is a call from n on
before_lost : (n : ℕ) (x : Option ℕ) → is_some (before n x) ≡ false → is_some x ≡ true → (q : ℕ) × (x ≡ Some q) × (n ≤ q)
unfolding before
before_lost n None e k = absurd (false≢true k)
before_lost n (Some r) e k = go (ltb r n) refl e
  where
    go : (b : Bool) → ltb r n ≡ b → is_some (cond b (Some r) None) ≡ false → (q : ℕ) × (Some r ≡ Some q) × (n ≤ q)
    go true j e = absurd (true≢false e)
    go false j e = (r, refl, ltb-false r n j)

before_keeps : (n : ℕ) (x : Option ℕ) → is_some x ≡ false → is_some (before n x) ≡ false
unfolding before
before_keeps n None e = refl
before_keeps n (Some r) e = absurd (true≢false e)

-- the accepted post at p is due by x, and has no call in o
abbrev pub open_by : {M : Type 0} → History M → (ℕ → Option ℕ) → ℕ → ℕ → Bool
open_by h o x p = at_post (λ e. leb e.deadline x && not (is_some (o p))) (slice_get h p)

abbrev pub unserved : {M : Type 0} → History M → (ℕ → Option ℕ) → ℕ → ℕ
unserved h o x = count (open_by h o x) (length h)

module _ {M : Type 0} where
  pub at_post_true : (f : Entry M → Bool) (v : Option (Event M)) → at_post f v ≡ true → (e : Entry M) × (v ≡ Some (Posted e)) × (f e ≡ true)
  at_post_true f None k = absurd (false≢true k)
  at_post_true f (Some (Refused c j)) k = absurd (false≢true k)
  at_post_true f (Some (Opened c j)) k = absurd (false≢true k)
  at_post_true f (Some (Posted e)) k = (e, refl, k)
  at_post_true f (Some (Dispatched c)) k = absurd (false≢true k)
  at_post_true f (Some (Turned c j)) k = absurd (false≢true k)
  at_post_true f (Some (Named c)) k = absurd (false≢true k)
  at_post_true f (Some (Warned c j)) k = absurd (false≢true k)
  at_post_true f (Some (Asked c)) k = absurd (false≢true k)
  at_post_true f (Some Begun) k = absurd (false≢true k)

  pub at_post_from : (f : Entry M → Bool) (v : Option (Event M)) (e : Entry M) → v ≡ Some (Posted e) → f e ≡ true → at_post f v ≡ true
  at_post_from f v e k j = rw (k, j) refl

  -- an order over a longer history, cut, is an order over the shorter one
  pub cut_order : (h : History M) (v : Event M) (o : ℕ → Option ℕ) → ServiceOrder (h ++ v ∷ []) o → ServiceOrder h (cut (length h) o)
  cut_order h v o s = record { serves = λ p q e. serve p q (before_some (length h) (o p) q e); one_each = λ p p' q e e'. s.one_each p p' q (before_some (length h) (o p) q e).0 (before_some (length h) (o p') q e').0 }
    where
      serve : (p q : ℕ) → (o p ≡ Some q) × (q < length h) → Serves h p q
      serve p q k =
          let c = s.serves p q k.0 in
          record { entry = c.entry; is_post = nth_back h v _ p (let a = c.after in let b = k.1 in omega arith) c.is_post; answer = c.answer; is_call = nth_back h v _ q k.1 c.is_call; after = c.after; in_time = λ r t n m d. c.in_time r t n (nth_keeps h v _ r m) d }

  -- a post of the longer history has the same event in the shorter one
  same_at : (h : History M) (v : Event M) (f : Entry M → Bool) (p : ℕ) → p < length h → at_post f (slice_get (h ++ v ∷ []) p) ≡ at_post f (slice_get h p)
  same_at h v f p l = ap (at_post f) (nth_push_old h v p l)

  grown : (h : History M) (v : Event M) (o : ℕ → Option ℕ) (x : ℕ) → unserved (h ++ v ∷ []) o x ≡ count (open_by (h ++ v ∷ []) o x) (length h) + cond (open_by (h ++ v ∷ []) o x (length h)) 1 0
  grown h v o x = ap (count (open_by (h ++ v ∷ []) o x)) (length_push h v ∙ add_one' (length h))
    where
      add_one' : (n : ℕ) → n + 1 ≡ suc n
      add_one' n = omega arith

  -- where each post that the cut leaves without a call has none at all, nothing is served by the last event
  pub unserved_same : (h : History M) (v : Event M) (o : ℕ → Option ℕ) (x : ℕ) → ServiceOrder (h ++ v ∷ []) o → ((p : ℕ) (e : Entry M) → o p ≡ Some (length h) → slice_get (h ++ v ∷ []) p ≡ Some (Posted e) → e.deadline ≤ x → ⊥) → unserved h (cut (length h) o) x + cond (open_by (h ++ v ∷ []) o x (length h)) 1 0 ≤ unserved (h ++ v ∷ []) o x
  unserved_same h v o x s no_call =
      let a = grown h v o x in
      let b = count_le (open_by h (cut (length h) o) x) (open_by (h ++ v ∷ []) o x) (length h) each in
      omega arith
    where
      each : (p : ℕ) → p < length h → open_by h (cut (length h) o) x p ≡ true → open_by (h ++ v ∷ []) o x p ≡ true
      each p l k =
          let a = at_post_true (λ e. leb e.deadline x && not (is_some (cut (length h) o p))) (slice_get h p) k in
          let b = and_parts (leb a.0.deadline x) (not (is_some (cut (length h) o p))) a.2 in
          at_post_from (λ e. leb e.deadline x && not (is_some (o p))) (slice_get (h ++ v ∷ []) p) a.0 (nth_keeps h v _ p a.1)
          (and_from (leb a.0.deadline x) _ b.0 (not_from_false _ (none p a.0 a.1 (leb-true _ x b.0) (not-true _ b.1) (is_some (o p)) refl)))
        where
          none : (p : ℕ) (e : Entry M) → slice_get h p ≡ Some (Posted e) → e.deadline ≤ x → is_some (before (length h) (o p)) ≡ false → (b : Bool) → is_some (o p) ≡ b → is_some (o p) ≡ false
          none p e m d c false j = j
          none p e m d c true j =
              let r = before_lost (length h) (o p) c j in
              let w = s.serves p r.0 r.1 in
              let i = nth_inside (h ++ v ∷ []) r.0 _ w.is_call in
              let n = length_push h v in
              let g : r.0 ≡ length h = let u = r.2 in omega arith in
              absurd (no_call p e (subst (λ y. o p ≡ Some y) g r.1) (nth_keeps h v _ p m) d)

  -- the last event serves one post at most
  pub unserved_one : (h : History M) (v : Event M) (o : ℕ → Option ℕ) (x : ℕ) → ServiceOrder (h ++ v ∷ []) o → unserved h (cut (length h) o) x ≤ unserved (h ++ v ∷ []) o x + 1
  unserved_one h v o x s =
      let a = grown h v o x in
      let b = count_one (open_by h (cut (length h) o) x) (open_by (h ++ v ∷ []) o x) (length h) (λ p p' l l' k j k' j'. s.one_each p p' (length h) (last p l k j) (last p' l' k' j')) in
      omega arith
    where
      last : (p : ℕ) → p < length h → open_by h (cut (length h) o) x p ≡ true → open_by (h ++ v ∷ []) o x p ≡ false → o p ≡ Some (length h)
      last p l k j =
          let a = at_post_true (λ e. leb e.deadline x && not (is_some (cut (length h) o p))) (slice_get h p) k in
          let b = and_parts (leb a.0.deadline x) (not (is_some (cut (length h) o p))) a.2 in
          go a.0 (nth_keeps h v _ p a.1) b.0 (not-true _ b.1) (is_some (o p)) refl
        where
          go : (e : Entry M) → slice_get (h ++ v ∷ []) p ≡ Some (Posted e) → leb e.deadline x ≡ true → is_some (before (length h) (o p)) ≡ false → (b : Bool) → is_some (o p) ≡ b → o p ≡ Some (length h)
          go e m d c false i = absurd (false≢true (sym j ∙ at_post_from (λ e. leb e.deadline x && not (is_some (o p))) (slice_get (h ++ v ∷ []) p) e m (and_from (leb e.deadline x) _ d (not_from_false _ i))))
          go e m d c true i =
              let r = before_lost (length h) (o p) c i in
              let w = s.serves p r.0 r.1 in
              let y = nth_inside (h ++ v ∷ []) r.0 _ w.is_call in
              let n = length_push h v in
              let g : r.0 ≡ length h = let u = r.2 in omega arith in
              subst (λ y. o p ≡ Some y) g r.1

  -- more posts are due by a later cycle
  pub unserved_later : (h : History M) (o : ℕ → Option ℕ) (x y : ℕ) → x ≤ y → unserved h o x ≤ unserved h o y
  unserved_later h o x y l = count_le (open_by h o x) (open_by h o y) (length h) each
    where
      each : (p : ℕ) → p < length h → open_by h o x p ≡ true → open_by h o y p ≡ true
      each p i k =
          let a = at_post_true (λ e. leb e.deadline x && not (is_some (o p))) (slice_get h p) k in
          let b = and_parts (leb a.0.deadline x) (not (is_some (o p))) a.2 in
          let d = leb-true a.0.deadline x b.0 in
          at_post_from (λ e. leb e.deadline y && not (is_some (o p))) (slice_get h p) a.0 a.1 (and_from _ _ (le-leb a.0.deadline y (omega arith)) b.1)

  -- An order's calls are dispatches: an event of another sort is no call.
  no_call : (h : History M) (v : Event M) (o : ℕ → Option ℕ) → ServiceOrder (h ++ v ∷ []) o → ((a : Option (Entry M)) → v ≡ Dispatched a → ⊥) → (p : ℕ) → o p ≡ Some (length h) → ⊥
  no_call h v o s other p e =
      let w = s.serves p (length h) e in
      other w.answer (inside v (Dispatched w.answer) (sym (nth_push_new h v) ∙ w.is_call))
    where
      inside : (x y : Event M) → Some x ≡ Some y → x ≡ y
      inside x y k = cc

  -- L late already, and P pending, is the least that any order leaves unserved by each cycle from z on.
  abbrev pub Least : ℕ → ℕ → List (Entry M) → History M → Type 0
  Least L z P h = (o : ℕ → Option ℕ) → ServiceOrder h o → (x : ℕ) → z ≤ x → L + due_by x P ≤ unserved h o x

  module _ (L z : ℕ) (P : List (Entry M)) (h : History M) (s : Least L z P h) where
    -- an event that is neither a dispatch nor a post
    pub least_other : (v : Event M) → ((a : Option (Entry M)) → v ≡ Dispatched a → ⊥) → Least L z P (h ++ v ∷ [])
    least_other v other o w x l =
        let a = s (cut (length h) o) (cut_order h v o w) x l in
        let b = unserved_same h v o x w (λ p e c m d. no_call h v o w other p c) in
        omega arith

    pub least_post : (e : Entry M) → Least L z (P ++ e ∷ []) (h ++ Posted e ∷ [])
    least_post e o w x l =
        let a = s (cut (length h) o) (cut_order h (Posted e) o w) x l in
        let b = unserved_same h (Posted e) o x w (λ p e' c m d. no_call h (Posted e) o w clash p c) in
        let c = count_append (λ f. leb f.deadline x) P (e ∷ []) in
        let d = count_cons (λ f. leb f.deadline x) e [] in
        let g = new (o (length h)) refl in
        omega arith
      where
        clash : (a : Option (Entry M)) → ◌≡◌ {A = Event M} (Posted e) (Dispatched a) → ⊥
        clash a k = let z : ◌≡◌ {A = ℕ} 0 1 = cc in omega arith

        and_true : (b : Bool) → (b && true) ≡ b
        and_true true = refl
        and_true false = refl

        new : (y : Option ℕ) → o (length h) ≡ y → ◌≡◌ {A = ℕ} (cond (leb e.deadline x) 1 0) (cond (open_by (h ++ Posted e ∷ []) o x (length h)) 1 0)
        new None k = rw (nth_push_new h (Posted e), k, and_true) refl
        new (Some q) k =
            absurd (let c = w.serves (length h) q k in let i = nth_inside (h ++ Posted e ∷ []) q _ c.is_call in let j = length_push h (Posted e) in let a = c.after in omega arith)

    -- the cycle goes on, and what is due by then becomes late
    pub least_turn : (t j : ℕ) → z ≤ t → Least (L + due_by t P) t (filter (λ e. not (leb e.deadline t)) P) (h ++ Turned t j ∷ [])
    least_turn t j l o w x k =
        let a = least_other (Turned t j) clash o w x (omega arith) in
        let b = count_kept (λ e. not (leb e.deadline t)) (λ e. leb e.deadline x) P in
        let c = countBy_both (λ e. leb e.deadline t) (λ e. not (leb e.deadline t) && leb e.deadline x) (λ e. leb e.deadline x) (λ e. split e.deadline (leb e.deadline t) refl) P in
        omega arith
      where
        clash : (a : Option (Entry M)) → ◌≡◌ {A = Event M} (Turned t j) (Dispatched a) → ⊥
        clash a k = let z : ◌≡◌ {A = ℕ} 0 1 = cc in omega arith

        split : (d : ℕ) (a : Bool) → leb d t ≡ a → ◌≡◌ {A = ℕ} (cond a 1 0 + cond (not a && leb d x) 1 0) (cond (leb d x) 1 0)
        split d true e = let i : leb d x ≡ true = (let q = leb-true d t e in le-leb d x (omega arith)) in rw i refl
        split d false e = omega arith

    -- a dispatch that leaves P': where something is due by x, it takes one of those
    pub least_serve : (a : Option (Entry M)) (P' : List (Entry M)) → ((e : Entry M) (p : ℕ) → slice_get h p ≡ Some (Posted e) → e.deadline ≤ z → turned_to h e.deadline ≡ true) → ((x : ℕ) → (due_by x P ≡ 0) ⊎ (due_by x P ≡ due_by x P' + 1)) → ((x : ℕ) → due_by x P' ≤ due_by x P) → Least L z P' (h ++ Dispatched a ∷ [])
    least_serve a P' passed one less o w x l = go (one x)
      where
        v : Event M
        v = Dispatched a

        -- what the call serves was not yet turned to
        late : (p : ℕ) (e : Entry M) → o p ≡ Some (length h) → slice_get (h ++ v ∷ []) p ≡ Some (Posted e) → e.deadline ≤ z → ⊥
        late p e c m d =
            let k = w.serves p (length h) c in
            let i = old h v (Posted e) p (λ q. differ a q) m in
            let f = any_place (reaches e.deadline) h (passed e p i d) in
            turn_at f.0 f.1 f.2 f.3 k (ap deadline_of (same k.entry e (sym k.is_post ∙ m)))
          where
            differ : (a : Option (Entry M)) → kind (Dispatched a) ≡ 1 → ⊥
            differ None q = omega arith
            differ (Some x) q = omega arith

            same : (x y : Entry M) → Some (Posted x) ≡ Some (Posted y) → x ≡ y
            same x y k = cc

            deadline_of : Entry M → ℕ
            deadline_of x = x.deadline

            turn_at : (r : ℕ) (u : Event M) → slice_get h r ≡ Some u → reaches e.deadline u ≡ true → (k : Serves (h ++ v ∷ []) p (length h)) → k.entry.deadline ≡ e.deadline → ⊥
            turn_at r (Refused c j) m b k q = false≢true b
            turn_at r (Opened c j) m b k q = false≢true b
            turn_at r (Posted c) m b k q = false≢true b
            turn_at r (Dispatched c) m b k q = false≢true b
            turn_at r (Turned t j) m b k q =
                let y = leb-true e.deadline t b in
                let i = nth_inside h r _ m in
                let g = k.in_time r t j (nth_keeps h v _ r m) (omega arith) in
                omega arith
            turn_at r (Named c) m b k q = false≢true b
            turn_at r (Warned c j) m b k q = false≢true b
            turn_at r (Asked c) m b k q = false≢true b
            turn_at r Begun m b k q = false≢true b

        go : (due_by x P ≡ 0) ⊎ (due_by x P ≡ due_by x P' + 1) → L + due_by x P' ≤ unserved (h ++ v ∷ []) o x
        go (inl e) =
            let b = s (cut (length h) o) (cut_order h v o w) z (omega arith) in
            let c = unserved_same h v o z w late in
            let d = unserved_later (h ++ v ∷ []) o z x l in
            let f = less x in
            omega arith
        go (inr e) =
            let b = s (cut (length h) o) (cut_order h v o w) x l in
            let c = unserved_one h v o x w in
            omega arith

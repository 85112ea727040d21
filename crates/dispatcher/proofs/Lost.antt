-- The late count is the number of posts that were turned past and never dispatched.
use Rattle.std.proofs.Common.{◌≡◌, ℕ, ◌+◌, ◌<◌, Bool, true, false, cond, not, ◌&&◌, ◌||◌, eqb, leb, ◌⊎◌, List, [], ◌∷◌, ◌++◌, Some, count_by, sym, refl, ap, ◌∙◌, subst, inl, inr, append-nil, arith}
use Rattle.std.specs.List.{slice_get, AllByRecursion as All}
use Rattle.std.proofs.ByRecursion.{All-weaker}
use Rattle.std.proofs.lemmas.Bool.{cases_eq, ne_eqb}
use Rattle.dispatcher.specs.Machine.{Entry, Event, due_by}
use Rattle.dispatcher.specs.declared.event.Event.TheVariants.{Dispatched, Posted, Turned}
use Rattle.dispatcher.specs.History.{History, reaches, answers, turned_to, was_dispatched, is_pending}
use Rattle.dispatcher.proofs.Places.{any_push, count_cons, count_append, count_kept, countBy_both}
use Rattle.dispatcher.proofs.Facts.{posts, kind, is_lost, IsPosted, posts_push, all_posts, no_answer, no_reach, no_front}
use Rattle.dispatcher.proofs.Sound.{Sound, not_turned, pending_parts}

pub countBy_all : {X : Type 0} (f g : X → Bool) (xs : List X) → All (λ x. f x ≡ g x) xs → count_by f xs ≡ count_by g xs
countBy_all f g [] h = refl
countBy_all f g (x ∷ xs) h = rw (count_cons f x xs, count_cons g x xs, h.0, countBy_all f g xs h.1) refl

or_false : (b : Bool) → (b || false) ≡ b
or_false true = refl
or_false false = refl

and_false : (b : Bool) → (b && false) ≡ false
and_false true = refl
and_false false = refl

module _ {M : Type 0} where
  lost_push : (h : History M) (v : Event M) (e : Entry M) → is_lost (h ++ v ∷ []) e ≡ ((turned_to h e.deadline || reaches e.deadline v) && not (was_dispatched h e.receipt || answers e.receipt v))
  lost_push h v e = rw (any_push (answers e.receipt) h v, any_push (reaches e.deadline) h v) refl

  module _ {o : Bool} {z n : ℕ} {P : List (Entry M)} {h : History M} (s : Sound o z n P h) where
    pub lost_plain : (v : Event M) → kind v ≡ 0 → count_by (is_lost (h ++ v ∷ [])) (posts (h ++ v ∷ [])) ≡ count_by (is_lost h) (posts h)
    lost_plain v k =
        ap (count_by (is_lost (h ++ v ∷ []))) (posts_push h v ∙ ap (λ es. posts h ++ es) (no_front v k) ∙ append-nil _)
        ∙ countBy_all (is_lost (h ++ v ∷ [])) (is_lost h) (posts h) (All-weaker (IsPosted h) (λ e. is_lost (h ++ v ∷ []) e ≡ is_lost h e) (λ e _. lost_push h v e ∙ rw (no_answer v e.receipt k, no_reach v e.deadline k, or_false (turned_to h e.deadline), or_false (was_dispatched h e.receipt)) refl) (posts h) (all_posts h))

    pub lost_post : (e : Entry M) → z < e.deadline → count_by (is_lost (h ++ Posted e ∷ [])) (posts (h ++ Posted e ∷ [])) ≡ count_by (is_lost h) (posts h)
    lost_post e d =
        ap (count_by (is_lost (h ++ Posted e ∷ []))) (posts_push h (Posted e))
        ∙ count_append (is_lost (h ++ Posted e ∷ [])) (posts h) (e ∷ [])
        ∙ (let a = countBy_all (is_lost (h ++ Posted e ∷ [])) (is_lost h) (posts h) (All-weaker (IsPosted h) (λ e'. is_lost (h ++ Posted e ∷ []) e' ≡ is_lost h e') (λ e' _. lost_push h (Posted e) e' ∙ rw (or_false (turned_to h e'.deadline), or_false (was_dispatched h e'.receipt)) refl) (posts h) (all_posts h)) in
        let b = count_cons (is_lost (h ++ Posted e ∷ [])) e [] in
        let c : is_lost (h ++ Posted e ∷ []) e ≡ false = lost_push h (Posted e) e ∙ rw (not_turned h z e.deadline s.turns d) refl in
        let g : ◌≡◌ {A = ℕ} (cond (is_lost (h ++ Posted e ∷ []) e) 1 0) 0 = rw c refl in
        omega arith)

    pub lost_serve : (f : Entry M) → IsPosted h f → is_pending h f ≡ true → count_by (is_lost (h ++ Dispatched (Some f) ∷ [])) (posts (h ++ Dispatched (Some f) ∷ [])) ≡ count_by (is_lost h) (posts h)
    lost_serve f a d =
        ap (count_by (is_lost (h ++ Dispatched (Some f) ∷ []))) (posts_push h (Dispatched (Some f)) ∙ append-nil _)
        ∙ countBy_all (is_lost (h ++ Dispatched (Some f) ∷ [])) (is_lost h) (posts h) (All-weaker (IsPosted h) (λ e. is_lost (h ++ Dispatched (Some f) ∷ []) e ≡ is_lost h e) (λ e m. lost_push h (Dispatched (Some f)) e ∙ each e m (cases_eq f.receipt e.receipt)) (posts h) (all_posts h))
      where
        deadline_same : (e : Entry M) → IsPosted h e → f.receipt ≡ e.receipt → turned_to h e.deadline ≡ false
        deadline_same e m r =
            let p : a.0 ≡ m.0 = s.apart a.0 m.0 f e a.1 m.1 r in
            let q : slice_get h m.0 ≡ Some (Posted f) = subst (λ i. slice_get h i ≡ Some (Posted f)) p a.1 in
            let j : f ≡ e = posted_same f e (sym q ∙ m.1) in
            subst (λ x. turned_to h x.deadline ≡ false) j (pending_parts s f d).1
          where
            posted_same : (x y : Entry M) → Some (Posted x) ≡ Some (Posted y) → x ≡ y
            posted_same x y k = cc

        each : (e : Entry M) → IsPosted h e → (f.receipt ≡ e.receipt) ⊎ (f.receipt ≡ e.receipt → ⊥) → ((turned_to h e.deadline || false) && not (was_dispatched h e.receipt || eqb f.receipt e.receipt)) ≡ is_lost h e
        each e m (inl r) = rw (deadline_same e m r) refl
        each e m (inr r) = rw (ne_eqb f.receipt e.receipt r, or_false (turned_to h e.deadline), or_false (was_dispatched h e.receipt)) refl

    pub lost_turn : (t j : ℕ) → count_by (is_lost (h ++ Turned t j ∷ [])) (posts (h ++ Turned t j ∷ [])) ≡ count_by (is_lost h) (posts h) + due_by t P
    lost_turn t j =
        ap (count_by (is_lost (h ++ Turned t j ∷ []))) (posts_push h (Turned t j) ∙ append-nil _)
        ∙ sym (countBy_both (is_lost h) (λ e. is_pending h e && leb e.deadline t) (is_lost (h ++ Turned t j ∷ [])) (λ e. split (turned_to h e.deadline) (was_dispatched h e.receipt) (leb e.deadline t) ∙ ap (λ (b : Bool). cond b 1 0) (sym (lost_push h (Turned t j) e))) (posts h))
        ∙ ap (λ k. count_by (is_lost h) (posts h) + k) (sym (count_kept (is_pending h) (λ e. leb e.deadline t) (posts h)) ∙ ap (due_by t) (sym s.kept))
      where
        split : (a b c : Bool) → cond (a && not b) 1 0 + cond ((not b && not a) && c) 1 0 ≡ cond ((a || c) && not (b || false)) 1 0
        split true true c = refl
        split true false c = refl
        split false true true = refl
        split false true false = refl
        split false false true = refl
        split false false false = refl

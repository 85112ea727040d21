-- The entry that is dispatched, and what is due without it.
use Rattle.std.proofs.Common.{◌≡◌, ℕ, zero, suc, ◌+◌, ◌<◌, ◌≤◌, Bool, true, false, cond, not, ◌&&◌, eqb, leb, ◌⊎◌, List, [], ◌∷◌, length, Some, count_by, sym, refl, ap, ◌∙◌, subst, inl, inr, ⊎_elim, arith}
use Rattle.std.specs.List.{slice_get, AllByRecursion as All}
use Rattle.std.proofs.ByRecursion.{All-weaker}
use Rattle.std.proofs.lemmas.Bool.{cases_lt, leb-true, leb-false, le-leb, lt-leb, eq-eqb, eqb-true, and_from, and_parts}
use Rattle.dispatcher.specs.Machine.{Entry, due_by, soonest, sooner, without}
use Rattle.dispatcher.specs.declared.event.Event.TheVariants.{Posted}
use Rattle.dispatcher.specs.History.{History, at_post, is_pending}
use Rattle.dispatcher.proofs.Counts.{pigeonhole}
use Rattle.dispatcher.proofs.Places.{count_cons, count_kept, countBy_both}
use Rattle.dispatcher.proofs.Facts.{posts, count_posts}
use Rattle.dispatcher.proofs.Sound.{Sound}
use Rattle.dispatcher.proofs.Orders.{at_post_true}

module _ {X : Type 0} where
  pub all_nth : (Q : X → Type 0) (xs : List X) (i : ℕ) (x : X) → All Q xs → slice_get xs i ≡ Some x → Q x
  all_nth Q [] i x a e = absurd (let z : ◌≡◌ {A = ℕ} 0 1 = cc in omega arith)
  all_nth Q (y ∷ xs) zero x a e = let k : y ≡ x = cc in subst Q k a.0
  all_nth Q (y ∷ xs) (suc i) x a e = all_nth Q xs i x a.1 e

  pub count_nth : (g : X → Bool) (xs : List X) (i : ℕ) (x : X) → slice_get xs i ≡ Some x → g x ≡ true → 0 < count_by g xs
  count_nth g [] i x e h = absurd (let z : ◌≡◌ {A = ℕ} 0 1 = cc in omega arith)
  count_nth g (y ∷ xs) zero x e h = let k : y ≡ x = cc in rw (count_cons g y xs, k, h) (omega arith)
  count_nth g (y ∷ xs) (suc i) x e h = let k = count_nth g xs i x e h in rw (count_cons g y xs) (omega arith)

  pub countBy_none : (g : X → Bool) (xs : List X) → All (λ x. g x ≡ false) xs → count_by g xs ≡ 0
  countBy_none g [] h = refl
  countBy_none g (x ∷ xs) h = rw (count_cons g x xs, h.0, countBy_none g xs h.1) refl

module _ {M : Type 0} where
  pub soonest_at : (es : List (Entry M)) (f : Entry M) → soonest es ≡ Some f → (i : ℕ) × (slice_get es i ≡ Some f)
  soonest_at [] f e = absurd (let z : ◌≡◌ {A = ℕ} 0 1 = cc in omega arith)
  soonest_at (x ∷ []) f e = (0, e)
  soonest_at (x ∷ y ∷ es) f e = go (leb x.deadline (sooner y (soonest es)).deadline) e (soonest_at (y ∷ es) (sooner y (soonest es)) refl)
    where
      go : (b : Bool) → Some (cond b x (sooner y (soonest es))) ≡ Some f → (i : ℕ) × (slice_get (y ∷ es) i ≡ Some (sooner y (soonest es))) → (i : ℕ) × (slice_get (x ∷ y ∷ es) i ≡ Some f)
      go true k r = (0, k)
      go false k r = (suc r.0, r.1 ∙ k)

  pub soonest_least : (es : List (Entry M)) (f : Entry M) → soonest es ≡ Some f → All (λ e. f.deadline ≤ e.deadline) es
  soonest_least [] f e = tt
  soonest_least (x ∷ []) f e = let k : x ≡ f = cc in subst (λ y. (y.deadline ≤ x.deadline) × Unit {0}) k (omega arith, tt)
  soonest_least (x ∷ y ∷ es) f e = go (leb x.deadline g.deadline) refl e (soonest_least (y ∷ es) g refl)
    where
      g : Entry M
      g = sooner y (soonest es)

      go : (b : Bool) → leb x.deadline g.deadline ≡ b → Some (cond b x g) ≡ Some f → All (λ e. g.deadline ≤ e.deadline) (y ∷ es) → All (λ e. f.deadline ≤ e.deadline) (x ∷ y ∷ es)
      go true k j r =
          let a : x ≡ f = cc in
          let b = leb-true x.deadline g.deadline k in
          subst (λ w. All (λ e. w.deadline ≤ e.deadline) (x ∷ y ∷ es)) a (omega arith, All-weaker (λ e. g.deadline ≤ e.deadline) (λ e. x.deadline ≤ e.deadline) (λ e c. omega arith) (y ∷ es) r)
      go false k j r =
          let a : g ≡ f = cc in
          let b = leb-false x.deadline g.deadline k in
          subst (λ w. All (λ e. w.deadline ≤ e.deadline) (x ∷ y ∷ es)) a (omega arith, r)

  -- without the entry f, of what is due by x: the rest, and those with f's receipt
  due_split : (f : Entry M) (x : ℕ) (es : List (Entry M)) → count_by (λ e. eqb f.receipt e.receipt && leb e.deadline x) es + due_by x (without f es) ≡ due_by x es
  due_split f x es =
      ap (λ k. count_by (λ e. eqb f.receipt e.receipt && leb e.deadline x) es + k) (count_kept (λ e. not (eqb f.receipt e.receipt)) (λ e. leb e.deadline x) es)
      ∙ countBy_both (λ e. eqb f.receipt e.receipt && leb e.deadline x) (λ e. not (eqb f.receipt e.receipt) && leb e.deadline x) (λ e. leb e.deadline x) (λ e. split (eqb f.receipt e.receipt) (leb e.deadline x)) es
    where
      split : (a b : Bool) → ◌≡◌ {A = ℕ} (cond (a && b) 1 0 + cond (not a && b) 1 0) (cond b 1 0)
      split true true = refl
      split true false = refl
      split false true = refl
      split false false = refl

  module _ {o : Bool} {z n : ℕ} {P : List (Entry M)} {h : History M} (s : Sound o z n P h) where
    -- no two pending entries have one receipt
    pub one_receipt : (r : ℕ) (g : Entry M → Bool) → count_by (λ e. eqb r e.receipt && g e) P ≤ 1
    one_receipt r g =
        let a = ap (count_by (λ e. eqb r e.receipt && g e)) s.kept ∙ count_kept (is_pending h) (λ e. eqb r e.receipt && g e) (posts h) in
        let b = count_posts (λ e. is_pending h e && (eqb r e.receipt && g e)) h in
        let c = pigeonhole (λ _. 0) (length h) 1 (λ p. at_post (λ e. is_pending h e && (eqb r e.receipt && g e)) (slice_get h p)) (λ p l k. omega arith) (λ p p' l l' k k' _. one p p' (at_post_true _ (slice_get h p) k) (at_post_true _ (slice_get h p') k')) in
        omega arith
      where
        receipt_is : (e : Entry M) → (is_pending h e && (eqb r e.receipt && g e)) ≡ true → r ≡ e.receipt
        receipt_is e k = eqb-true r e.receipt (and_parts (eqb r e.receipt) (g e) (and_parts (is_pending h e) (eqb r e.receipt && g e) k).1).0

        Found : ℕ → Type 0
        Found p = (e : Entry M) × (slice_get h p ≡ Some (Posted e)) × ((is_pending h e && (eqb r e.receipt && g e)) ≡ true)

        one : (p p' : ℕ) → Found p → Found p' → p ≡ p'
        one p p' a b = s.apart p p' a.0 b.0 a.1 b.1 (sym (receipt_is a.0 a.2) ∙ receipt_is b.0 b.2)

    pub due_less : (f : Entry M) (x : ℕ) → due_by x (without f P) ≤ due_by x P
    due_less f x = let a = due_split f x P in omega arith

    pub due_one : (f : Entry M) → soonest P ≡ Some f → (x : ℕ) → (due_by x P ≡ 0) ⊎ (due_by x P ≡ due_by x (without f P) + 1)
    due_one f k x = ⊎_elim none some (cases_lt x f.deadline)
      where
        none : x < f.deadline → (due_by x P ≡ 0) ⊎ (due_by x P ≡ due_by x (without f P) + 1)
        none l = inl (countBy_none (λ e. leb e.deadline x) P (All-weaker (λ e. f.deadline ≤ e.deadline) (λ e. leb e.deadline x ≡ false) (λ e j. lt-leb e.deadline x (omega arith)) P (soonest_least P f k)))

        some : f.deadline ≤ x → (due_by x P ≡ 0) ⊎ (due_by x P ≡ due_by x (without f P) + 1)
        some l =
            let a = due_split f x P in
            let b = one_receipt f.receipt (λ e. leb e.deadline x) in
            let i = soonest_at P f k in
            let c = count_nth (λ e. eqb f.receipt e.receipt && leb e.deadline x) P i.0 f i.1 (and_from _ _ (eq-eqb f.receipt f.receipt refl) (le-leb f.deadline x l)) in
            inr (omega arith)

-- Elements by position, and what one more at the end changes.
use Rattle.std.proofs.Common.{◌≡◌, ℕ, zero, suc, ◌+◌, ◌<◌, Bool, true, false, cond, ◌&&◌, ◌||◌, ◌⊎◌, List, [], ◌∷◌, ◌++◌, length, Some, None, count_by, filter, Option, sym, refl, ap, ◌∙◌, inl, inr, ⊎_elim, arith}
use Rattle.std.specs.List.{slice_get}
use Rattle.std.proofs.lemmas.List.Sums.{sum_by-cons, sum_by-append}
use Rattle.std.proofs.lemmas.Bool.{false≢true}
use Rattle.dispatcher.specs.History.{any, place, later, is_some}

module _ {X : Type 0} where
  pub nth_inside : (xs : List X) (p : ℕ) (x : X) → slice_get xs p ≡ Some x → p < length xs
  nth_inside [] p x e = absurd (let z : ◌≡◌ {A = ℕ} 0 1 = cc in omega arith)
  nth_inside (y ∷ xs) zero x e = omega arith
  nth_inside (y ∷ xs) (suc p) x e = let k = nth_inside xs p x e in omega arith

  pub nth_push_new : (xs : List X) (x : X) → slice_get (xs ++ x ∷ []) (length xs) ≡ Some x
  nth_push_new [] x = refl
  nth_push_new (y ∷ xs) x = nth_push_new xs x

  pub nth_push_old : (xs : List X) (x : X) (p : ℕ) → p < length xs → slice_get (xs ++ x ∷ []) p ≡ slice_get xs p
  nth_push_old [] x p l = absurd (omega arith)
  nth_push_old (y ∷ xs) x zero l = refl
  nth_push_old (y ∷ xs) x (suc p) l = nth_push_old xs x p (omega arith)

  pub nth_keeps : (xs : List X) (y x : X) (p : ℕ) → slice_get xs p ≡ Some x → slice_get (xs ++ y ∷ []) p ≡ Some x
  nth_keeps xs y x p e = nth_push_old xs y p (nth_inside xs p x e) ∙ e

  pub nth_back : (xs : List X) (y x : X) (p : ℕ) → p < length xs → slice_get (xs ++ y ∷ []) p ≡ Some x → slice_get xs p ≡ Some x
  nth_back xs y x p l e = sym (nth_push_old xs y p l) ∙ e

  pub nth_cases : (xs : List X) (y x : X) (p : ℕ) → slice_get (xs ++ y ∷ []) p ≡ Some x → (slice_get xs p ≡ Some x) ⊎ ((p ≡ length xs) × (y ≡ x))
  nth_cases [] y x zero e = inr (refl, cc)
  nth_cases [] y x (suc p) e = absurd (let z : ◌≡◌ {A = ℕ} 0 1 = cc in omega arith)
  nth_cases (z ∷ xs) y x zero e = inl e
  nth_cases (z ∷ xs) y x (suc p) e = ⊎_elim inl (λ k. inr (ap suc k.0, k.1)) (nth_cases xs y x p e)

  module _ (t : X → Bool) where
    pub any_push : (xs : List X) (x : X) → any t (xs ++ x ∷ []) ≡ (any t xs || t x)
    any_push [] x = or_false (t x)
      where
        or_false : (b : Bool) → (b || false) ≡ b
        or_false true = refl
        or_false false = refl
    any_push (y ∷ xs) x = go (any_push xs x) (t y)
      where
        go : any t (xs ++ x ∷ []) ≡ (any t xs || t x) → (b : Bool) → (b || any t (xs ++ x ∷ [])) ≡ ((b || any t xs) || t x)
        go ih true = refl
        go ih false = ih

    pub any_from : (xs : List X) (p : ℕ) (x : X) → slice_get xs p ≡ Some x → t x ≡ true → any t xs ≡ true
    any_from [] p x e h = absurd (let z : ◌≡◌ {A = ℕ} 0 1 = cc in omega arith)
    any_from (y ∷ xs) zero x e h = let k : y ≡ x = cc in rw (k, h) refl
    any_from (y ∷ xs) (suc p) x e h = go (t y) (any_from xs p x e h)
      where
        go : (b : Bool) → any t xs ≡ true → (b || any t xs) ≡ true
        go true k = refl
        go false k = k

    pub any_place : (xs : List X) → any t xs ≡ true → (p : ℕ) × (x : X) × (slice_get xs p ≡ Some x) × (t x ≡ true)
    any_place [] e = absurd (false≢true e)
    any_place (y ∷ xs) e = go (any_place xs) (t y) refl e
      where
        go : (any t xs ≡ true → (p : ℕ) × (x : X) × (slice_get xs p ≡ Some x) × (t x ≡ true)) → (b : Bool) → t y ≡ b → (b || any t xs) ≡ true → (p : ℕ) × (x : X) × (slice_get (y ∷ xs) p ≡ Some x) × (t x ≡ true)
        go ih true k e = (0, y, refl, k)
        go ih false k e = let r = ih e in (suc r.0, r.1, r.2, r.3)

    pub is_some_place : (xs : List X) → is_some (place t xs) ≡ any t xs
    is_some_place [] = refl
    is_some_place (y ∷ xs) = go (is_some_place xs) (t y)
      where
        later_some : (o : Option ℕ) → is_some (later o) ≡ is_some o
        later_some None = refl
        later_some (Some p) = refl

        go : is_some (place t xs) ≡ any t xs → (b : Bool) → is_some (cond b (Some 0) (later (place t xs))) ≡ (b || any t xs)
        go ih true = refl
        go ih false = later_some (place t xs) ∙ ih

    pub place_at : (xs : List X) (q : ℕ) → place t xs ≡ Some q → (x : X) × (slice_get xs q ≡ Some x) × (t x ≡ true)
    place_at [] q e = absurd (let z : ◌≡◌ {A = ℕ} 0 1 = cc in omega arith)
    place_at (y ∷ xs) q e = go (t y) refl e (place_at xs)
      where
        Below : Type 0
        Below = (q : ℕ) → place t xs ≡ Some q → (x : X) × (slice_get xs q ≡ Some x) × (t x ≡ true)

        down : Below → (o : Option ℕ) → place t xs ≡ o → later o ≡ Some q → (x : X) × (slice_get (y ∷ xs) q ≡ Some x) × (t x ≡ true)
        down ih None k e = absurd (let z : ◌≡◌ {A = ℕ} 0 1 = cc in omega arith)
        down ih (Some p) k e =
            let r = ih p k in
            let s : suc p ≡ q = cc in
            (r.0, rw (← s) r.1, r.2)

        go : (b : Bool) → t y ≡ b → cond b (Some 0) (later (place t xs)) ≡ Some q → Below → (x : X) × (slice_get (y ∷ xs) q ≡ Some x) × (t x ≡ true)
        go true k e ih = let s : 0 ≡ q = cc in (y, rw (← s) refl, k)
        go false k e ih = down ih (place t xs) refl e

  pub kept_same : (f g : X → Bool) → ((x : X) → f x ≡ g x) → (xs : List X) → filter f xs ≡ filter g xs
  kept_same f g h [] = refl
  kept_same f g h (x ∷ xs) = rw (h x, kept_same f g h xs) refl

  pub kept_kept : (f g : X → Bool) (xs : List X) → filter g (filter f xs) ≡ filter (λ x. f x && g x) xs
  kept_kept f g [] = refl
  kept_kept f g (x ∷ xs) = go (kept_kept f g xs) (f x)
    where
      go : filter g (filter f xs) ≡ filter (λ x. f x && g x) xs → (b : Bool) → filter g (cond b (x ∷ filter f xs) (filter f xs)) ≡ cond (b && g x) (x ∷ filter (λ x. f x && g x) xs) (filter (λ x. f x && g x) xs)
      go ih true = rw ih refl
      go ih false = ih

  pub count_cons : (f : X → Bool) (x : X) (xs : List X) → count_by f (x ∷ xs) ≡ cond (f x) 1 0 + count_by f xs
  count_cons f x xs = sum_by-cons (λ x. cond (f x) 1 0) x xs

  pub count_append : (f : X → Bool) (xs ys : List X) → count_by f (xs ++ ys) ≡ count_by f xs + count_by f ys
  count_append f xs ys = sum_by-append (λ x. cond (f x) 1 0) xs ys

  pub count_kept : (f g : X → Bool) (xs : List X) → count_by g (filter f xs) ≡ count_by (λ x. f x && g x) xs
  count_kept f g [] = refl
  count_kept f g (x ∷ xs) = rw (count_cons (λ y. f y && g y) x xs) (go (count_kept f g xs) (f x))
    where
      go : count_by g (filter f xs) ≡ count_by (λ x. f x && g x) xs → (b : Bool) → count_by g (cond b (x ∷ filter f xs) (filter f xs)) ≡ cond (b && g x) 1 0 + count_by (λ x. f x && g x) xs
      go ih true = rw (count_cons g x (filter f xs), ih) refl
      go ih false = omega arith

  pub countBy_same : (f g : X → Bool) → ((x : X) → f x ≡ g x) → (xs : List X) → count_by f xs ≡ count_by g xs
  countBy_same f g h [] = refl
  countBy_same f g h (x ∷ xs) = rw (count_cons f x xs, count_cons g x xs, h x, countBy_same f g h xs) refl

  -- three tests, the third of which passes where one of the others does
  pub countBy_both : (f g k : X → Bool) → ((x : X) → cond (f x) 1 0 + cond (g x) 1 0 ≡ cond (k x) 1 0) → (xs : List X) → count_by f xs + count_by g xs ≡ count_by k xs
  countBy_both f g k h [] = refl
  countBy_both f g k h (x ∷ xs) =
      let ih = countBy_both f g k h xs in
      let e = h x in
      rw (count_cons f x xs, count_cons g x xs, count_cons k x xs) (omega arith)

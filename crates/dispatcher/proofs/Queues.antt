-- Lists of entries: what a test keeps, and the soonest of them.
use Rattle.std.proofs.Common.{◌≡◌, ℕ, ◌+◌, ◌-◌, ◌<◌, ◌≤◌, Bool, true, false, cond, not, eqb, leb, List, [], ◌∷◌, ◌++◌, length, Some, count_by, filter, sym, refl, ap, ◌∙◌, subst, ⊎_elim, arith}
use Rattle.std.specs.List.{AllByRecursion as All}
use Rattle.std.proofs.ByRecursion.{All-weaker, all_kept_by, All-push, kept_by_passes}
use Rattle.std.proofs.lemmas.Bool.{cases_lt, cases_Bool, eq-eqb, ne_eqb, eqb-true, eqb-false, le-leb, lt-leb, cond-true, cond-false, cond_both}
use Rattle.std.proofs.lemmas.List.Sums.{sum_by-cons, length-filter}
use Rattle.dispatcher.specs.declared.entry.Entry.{Entry}
use Rattle.dispatcher.specs.Machine.{soonest, sooner, without, due_at}
use Rattle.dispatcher.specs.Shown.{Rising}

module _ {X : Type 0} where
  pub kept_yes : (p : X → Bool) (x : X) (xs : List X) → p x ≡ true → filter p (x ∷ xs) ≡ x ∷ filter p xs
  kept_yes p x xs e = cond-true (p x) (x ∷ filter p xs) (filter p xs) e

  pub kept_no : (p : X → Bool) (x : X) (xs : List X) → p x ≡ false → filter p (x ∷ xs) ≡ filter p xs
  kept_no p x xs e = cond-false (p x) (x ∷ filter p xs) (filter p xs) e

  pub kept_all : (p : X → Bool) (xs : List X) → All (λ x. p x ≡ true) xs → filter p xs ≡ xs
  kept_all p [] a = refl
  kept_all p (x ∷ xs) a = kept_yes p x xs a.0 ∙ ap (λ ys. x ∷ ys) (kept_all p xs a.1)

  pub kept_none : (p : X → Bool) (xs : List X) → All (λ x. p x ≡ false) xs → filter p xs ≡ []
  kept_none p [] a = refl
  kept_none p (x ∷ xs) a = kept_no p x xs a.0 ∙ kept_none p xs a.1

  pub none_kept : (p : X → Bool) (xs : List X) → filter p xs ≡ [] → All (λ x. p x ≡ false) xs
  none_kept p [] e = tt
  none_kept p (x ∷ xs) e =
      ⊎_elim (λ (y : p x ≡ true). absurd (let k = kept_yes p x xs y in let z : ◌≡◌ {A = ℕ} 0 1 = cc in omega arith))
      (λ (n : p x ≡ false). (n, none_kept p xs (sym (kept_no p x xs n) ∙ e))) (cases_Bool (p x))

  -- of what passes q, none is lost where what fails p fails q
  pub kept_twice : (p q : X → Bool) → ((x : X) → p x ≡ false → q x ≡ false) → (xs : List X) → filter q (filter p xs) ≡ filter q xs
  kept_twice p q h [] = refl
  kept_twice p q h (x ∷ xs) =
      ⊎_elim (λ (y : p x ≡ true). ap (filter q) (kept_yes p x xs y) ∙ ap (λ ys. cond (q x) (x ∷ ys) ys) (kept_twice p q h xs))
      (λ (n : p x ≡ false). ap (filter q) (kept_no p x xs n) ∙ kept_twice p q h xs ∙ sym (kept_no q x xs (h x n))) (cases_Bool (p x))

  pub all_both : (Q R S : X → Type 0) → ((x : X) → Q x → R x → S x) → (xs : List X) → All Q xs → All R xs → All S xs
  all_both Q R S h [] a b = tt
  all_both Q R S h (x ∷ xs) a b = (h x a.0 b.0, all_both Q R S h xs a.1 b.1)

  -- P is e and then `rest`, of what passes p
  pub record Removed (p : X → Bool) (P P' : List X) (e : X) (rest : List X) : Type 0 where
    pub passes : p e ≡ true
    pub left : filter p P' ≡ rest
    pub others : (q : X → Bool) → q e ≡ false → filter q P' ≡ filter q P
    pub count : length P' + 1 ≡ length P

module _ {M : Type 0} where
  pub rising_kept : (p : Entry M → Bool) (es : List (Entry M)) → Rising es → Rising (filter p es)
  rising_kept p [] r = tt
  rising_kept p (e ∷ es) r =
      ⊎_elim (λ (y : p e ≡ true). subst Rising (sym (kept_yes p e es y)) (all_kept_by p (λ f. e.receipt < f.receipt) es r.0, rising_kept p es r.1))
      (λ (n : p e ≡ false). subst Rising (sym (kept_no p e es n)) (rising_kept p es r.1)) (cases_Bool (p e))

  pub rising_push : (es : List (Entry M)) (f : Entry M) → Rising es → All (λ e. e.receipt < f.receipt) es → Rising (es ++ f ∷ [])
  rising_push [] f r a = (tt, tt)
  rising_push (e ∷ es) f r a = (All-push (λ g. e.receipt < g.receipt) es f r.0 a.0, rising_push es f r.1 a.1)

  apart : Entry M → Entry M → Bool
  apart e f = not (eqb e.receipt f.receipt)

  -- without the first that passes p
  pub removed : (p : Entry M → Bool) (P : List (Entry M)) (e : Entry M) (rest : List (Entry M)) → Rising P → filter p P ≡ e ∷ rest → Removed p P (without e P) e rest
  removed p [] e rest r k = absurd (let z : ◌≡◌ {A = ℕ} 0 1 = cc in omega arith)
  removed p (x ∷ P) e rest r k =
      ⊎_elim
      (λ (y : p x ≡ true).
      let h = sym (kept_yes p x P y) ∙ k in
      let s : x ≡ e = cc in
      let t : filter p P ≡ rest = cc in
      let same : without x (x ∷ P) ≡ P =
      kept_no (λ f. not (eqb x.receipt f.receipt)) x P (ap not (eq-eqb x.receipt x.receipt refl))
      ∙ kept_all (λ f. not (eqb x.receipt f.receipt)) P (All-weaker (λ f. x.receipt < f.receipt) (λ f. not (eqb x.receipt f.receipt) ≡ true) (λ f l. ap not (ne_eqb x.receipt f.receipt (λ i. omega arith))) P r.0) in
      subst (λ d. Removed p (x ∷ P) (without d (x ∷ P)) d rest) s
      (record { passes = y; left = ap (filter p) same ∙ t; others = λ q n. ap (filter q) same ∙ sym (kept_no q x P n); count = let j = ap length same in omega arith }))
      (λ (n : p x ≡ false).
      let h = sym (kept_no p x P n) ∙ k in
      let ih = removed p P e rest r.1 h in
      let lower : x.receipt < e.receipt = (subst (All (λ f. x.receipt < f.receipt)) h (all_kept_by p (λ f. x.receipt < f.receipt) P r.0)).0 in
      let same : without e (x ∷ P) ≡ x ∷ without e P = kept_yes (λ f. not (eqb e.receipt f.receipt)) x P (ap not (ne_eqb e.receipt x.receipt (λ i. omega arith))) in
      record { passes = ih.passes; left = ap (filter p) same ∙ kept_no p x (without e P) n ∙ ih.left; others = λ q f. ap (filter q) same ∙ ap (λ ys. cond (q x) (x ∷ ys) ys) (ih.others q f); count = let j = ap length same in let i = ih.count in omega arith })
      (cases_Bool (p x))

  sooner_least : (d : ℕ) (x : Entry M) (xs : List (Entry M)) → All (λ e. d ≤ e.deadline) (x ∷ xs) → d ≤ (sooner x (soonest xs)).deadline
  sooner_least d x [] a = a.0
  sooner_least d x (y ∷ ys) a = cond_both (leb x.deadline (sooner y (soonest ys)).deadline) x (sooner y (soonest ys)) (λ e. d ≤ e.deadline) (λ _. a.0) (λ _. sooner_least d y ys a.1)

  soonest_first : (d : ℕ) (x : Entry M) (xs : List (Entry M)) → x.deadline ≡ d → All (λ e. d ≤ e.deadline) xs → soonest (x ∷ xs) ≡ Some x
  soonest_first d x [] e a = refl
  soonest_first d x (y ∷ ys) e a =
      let l = sooner_least d y ys a in
      ap Some (cond-true (leb x.deadline (sooner y (soonest ys)).deadline) x (sooner y (soonest ys)) (le-leb x.deadline (sooner y (soonest ys)).deadline (omega arith)))

  -- the first of those due at d, where none is due before
  pub soonest_is : (d : ℕ) (P : List (Entry M)) (e : Entry M) (rest : List (Entry M)) → All (λ x. d ≤ x.deadline) P → filter (due_at d) P ≡ e ∷ rest → soonest P ≡ Some e
  soonest_is d [] e rest a k = absurd (let z : ◌≡◌ {A = ℕ} 0 1 = cc in omega arith)
  soonest_is d (x ∷ P) e rest a k =
      ⊎_elim
      (λ (y : due_at d x ≡ true).
      let h = sym (kept_yes (due_at d) x P y) ∙ k in
      let s : x ≡ e = cc in
      soonest_first d x P (eqb-true x.deadline d y) a.1 ∙ ap Some s)
      (λ (n : due_at d x ≡ false).
      let h = sym (kept_no (due_at d) x P n) ∙ k in
      let ne = eqb-false x.deadline d n in
      let due = eqb-true e.deadline d (subst (All (λ f. due_at d f ≡ true)) h (kept_by_passes (due_at d) P)).0 in
      let l : e.deadline < x.deadline = ⊎_elim (λ (lt : e.deadline < x.deadline). lt) (λ (le : x.deadline ≤ e.deadline). absurd (ne (let b = a.0 in omega arith))) (cases_lt e.deadline x.deadline) in
      ap (λ o. Some (sooner x o)) (soonest_is d P e rest a.1 h)
      ∙ ap Some (cond-false (leb x.deadline e.deadline) x e (lt-leb x.deadline e.deadline l)))
      (cases_Bool (due_at d x))

  pub none_before : (z f : ℕ) (P : List (Entry M)) → ((g : ℕ) → 0 < g → g < f → All (λ e. due_at (z + g) e ≡ false) P) → All (λ e. z < e.deadline) P → All (λ e. z + f ≤ e.deadline) P
  none_before z f [] h a = tt
  none_before z f (x ∷ P) h a = (
    ⊎_elim (λ (l : x.deadline < z + f). absurd (let b = a.0 in eqb-false x.deadline (z + (x.deadline - z)) (h (x.deadline - z) (omega arith) (omega arith)).0 (omega arith))) (λ (l : z + f ≤ x.deadline). l) (cases_lt x.deadline (z + f)),
    none_before z f P (λ g l k. (h g l k).1) a.1,
  )

  pub none_at_all : (z N : ℕ) (P : List (Entry M)) → All (λ e. z + (N + 1) ≤ e.deadline) P → All (λ e. (z < e.deadline) × (e.deadline ≤ z + N)) P → P ≡ []
  none_at_all z N [] a r = refl
  none_at_all z N (x ∷ P) a r = absurd (let b = a.0 in let c = r.0.1 in omega arith)

  pub count_same : (p q : Entry M → Bool) (es : List (Entry M)) → All (λ e. p e ≡ q e) es → count_by p es ≡ count_by q es
  count_same p q [] a = refl
  count_same p q (e ∷ es) a =
      sum_by-cons (λ x. cond (p x) 1 0) e es ∙ ap (λ b. cond b 1 0 + count_by p es) a.0 ∙ ap (λ n. cond (q e) 1 0 + n) (count_same p q es a.1) ∙ sym (sum_by-cons (λ x. cond (q x) 1 0) e es)

  pub count_none : (p : Entry M → Bool) (es : List (Entry M)) → All (λ e. p e ≡ false) es → count_by p es ≡ 0
  count_none p es a = sym (length-filter p es) ∙ ap length (kept_none p es a)

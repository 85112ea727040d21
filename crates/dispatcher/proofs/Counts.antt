-- Counts over positions.
use Rattle.std.proofs.Common.{◌≡◌, ℕ, zero, suc, ◌+◌, ◌<◌, ◌≤◌, Bool, true, false, cond, not, ◌&&◌, eqb, sym, refl, ◌∙◌, subst, ⊎_elim, arith}
use Rattle.std.proofs.lemmas.Bool.{cases_eq, false≢true, and_parts, and_from, ne_eqb, eqb-false, not-true, not_from_false}
use Rattle.dispatcher.specs.History.{count}

cond_le : (a b : Bool) (m n : ℕ) → (a ≡ true → b ≡ true) → m ≤ n → m + cond a 1 0 ≤ n + cond b 1 0
cond_le true true m n f h = omega arith
cond_le true false m n f h = absurd (false≢true (f refl))
cond_le false true m n f h = omega arith
cond_le false false m n f h = omega arith

pub count_le : (t u : ℕ → Bool) (n : ℕ) → ((p : ℕ) → p < n → t p ≡ true → u p ≡ true) → count t n ≤ count u n
count_le t u zero h = omega arith
count_le t u (suc n) h =
    cond_le (t n) (u n) (count t n) (count u n) (h n (omega arith)) (count_le t u n (λ p l e. h p (omega arith) e))

pub count_same : (t u : ℕ → Bool) (n : ℕ) → ((p : ℕ) → p < n → t p ≡ u p) → count t n ≡ count u n
count_same t u zero h = refl
count_same t u (suc n) h =
    let ih = count_same t u n (λ p l. h p (omega arith)) in
    let e : t n ≡ u n = h n (omega arith) in
    cc

-- one position at most passes t and not u
pub count_one : (t u : ℕ → Bool) (n : ℕ) → ((p p' : ℕ) → p < n → p' < n → t p ≡ true → u p ≡ false → t p' ≡ true → u p' ≡ false → p ≡ p') → count t n ≤ count u n + 1
count_one t u zero h = omega arith
count_one t u (suc n) h = go (t n) (u n) refl refl (count_one t u n (λ p p' l l'. h p p' (omega arith) (omega arith)))
  where
    other : t n ≡ true → u n ≡ false → (p : ℕ) → p < n → t p ≡ true → (a : Bool) → u p ≡ a → u p ≡ true
    other tn un p l tp true e = e
    other tn un p l tp false e = absurd (let k = h p n (omega arith) (omega arith) tp e tn un in omega arith)

    go : (a b : Bool) → t n ≡ a → u n ≡ b → count t n ≤ count u n + 1 → count t n + cond a 1 0 ≤ count u n + cond b 1 0 + 1
    go true true e f ih = omega arith
    go true false e f ih = let k = count_le t u n (λ p l tp. other e f p l tp (u p) refl) in omega arith
    go false true e f ih = omega arith
    go false false e f ih = omega arith

pub count_lt : (t u : ℕ → Bool) (n q : ℕ) → q < n → t q ≡ false → u q ≡ true → ((p : ℕ) → p < n → t p ≡ true → u p ≡ true) → count t n < count u n
count_lt t u zero q l tq uq h = absurd (omega arith)
count_lt t u (suc n) q l tq uq h = ⊎_elim here (λ d. below (count_lt t u n q (omega arith) tq uq (λ p l. h p (omega arith)))) (cases_eq q n)
  where
    here : q ≡ n → count t n + cond (t n) 1 0 < count u n + cond (u n) 1 0
    here e =
        let a : t n ≡ false = subst (λ x. t x ≡ false) e tq in
        let b : u n ≡ true = subst (λ x. u x ≡ true) e uq in
        let k = count_le t u n (λ p l. h p (omega arith)) in
        rw (a, b) (omega arith)

    below : count t n < count u n → count t n + cond (t n) 1 0 < count u n + cond (u n) 1 0
    below k =
        let j : suc (count t n) + cond (t n) 1 0 ≤ count u n + cond (u n) 1 0 =
        cond_le (t n) (u n) (suc (count t n)) (count u n) (h n (omega arith)) k in
        omega arith

pub count_none : (t : ℕ → Bool) (n : ℕ) → ((p : ℕ) → p < n → t p ≡ false) → count t n ≡ 0
count_none t zero h = refl
count_none t (suc n) h = rw (count_none t n (λ p l. h p (omega arith)), h n (omega arith)) refl

-- no two positions that pass have one number, and each has a number below m
pub pigeonhole : (g : ℕ → ℕ) (n m : ℕ) (t : ℕ → Bool) → ((p : ℕ) → p < n → t p ≡ true → g p < m) → ((p p' : ℕ) → p < n → p' < n → t p ≡ true → t p' ≡ true → g p ≡ g p' → p ≡ p') → count t n ≤ m
pigeonhole g n zero t below apart = let k = count_none t n (λ p l. none p l (t p) refl) in omega arith
  where
    none : (p : ℕ) → p < n → (a : Bool) → t p ≡ a → t p ≡ false
    none p l true e = absurd (let k = below p l e in omega arith)
    none p l false e = e
pigeonhole g n (suc m) t below apart =
    let k = count_one t u n one in
    let ih = pigeonhole g n m u lower (λ p p' l l' e e'. apart p p' l l' (and_parts (t p) _ e).0 (and_parts (t p') _ e').0) in
    omega arith
  where
    u : ℕ → Bool
    u p = t p && not (eqb (g p) m)

    lower : (p : ℕ) → p < n → u p ≡ true → g p < m
    lower p l e =
        let a = and_parts (t p) (not (eqb (g p) m)) e in
        let b = below p l a.0 in
        let d = eqb-false (g p) m (not-true (eqb (g p) m) a.1) in
        omega arith

    top : (p : ℕ) → t p ≡ true → u p ≡ false → g p ≡ m
    top p e f = ⊎_elim (λ x. x) (λ d. absurd (false≢true (sym f ∙ and_from (t p) (not (eqb (g p) m)) e (not_from_false _ (ne_eqb (g p) m d))))) (cases_eq (g p) m)

    one : (p p' : ℕ) → p < n → p' < n → t p ≡ true → u p ≡ false → t p' ≡ true → u p' ≡ false → p ≡ p'
    one p p' l l' e f e' f' = apart p p' l l' e e' (top p e f ∙ sym (top p' e' f'))

-- two tests that pass at different positions, and a third that passes where one of them does
pub count_both : (t u v : ℕ → Bool) (n : ℕ) → ((p : ℕ) → p < n → cond (t p) 1 0 + cond (u p) 1 0 ≡ cond (v p) 1 0) → count t n + count u n ≡ count v n
count_both t u v zero h = refl
count_both t u v (suc n) h =
    let ih = count_both t u v n (λ p l. h p (omega arith)) in
    let k = h n (omega arith) in
    omega arith

pub count_first : (t : ℕ → Bool) (n : ℕ) → count t (suc n) ≡ cond (t 0) 1 0 + count (λ p. t (suc p)) n
count_first t zero = omega arith
count_first t (suc n) = let ih = count_first t n in omega arith

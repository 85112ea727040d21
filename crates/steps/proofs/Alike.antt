-- How far two lists of bytes begin alike.
use Rattle.std.proofs.Common.{◌≡◌, ℕ, zero, suc, ◌+◌, ◌<◌, ◌≤◌, true, false, eqb, List, [], ◌∷◌, ◌++◌, length, get_or, refl, ⊎_elim, arith}
use Rattle.std.proofs.lemmas.Bool.{cases_Bool, cond-true, cond-false, eq-eqb, ne_eqb, eqb-true}
use Rattle.std.proofs.lemmas.List.Sums.{common_prefix_len-le}
use Rattle.steps.specs.Beginnings.{common, Longest}

pub common_same : (x : ℕ) (xs ys : List ℕ) → common (x ∷ xs) (x ∷ ys) ≡ 1 + common xs ys
common_same x xs ys = cond-true _ _ _ (eq-eqb x x refl)

pub common_apart : (x y : ℕ) (xs ys : List ℕ) → (x ≡ y → ⊥) → common (x ∷ xs) (y ∷ ys) ≡ 0
common_apart x y xs ys h = cond-false _ _ _ (ne_eqb x y h)

-- where the test of the first bytes is known
on : (x y : ℕ) (xs ys : List ℕ) → eqb x y ≡ true → common (x ∷ xs) (y ∷ ys) ≡ 1 + common xs ys
on x y xs ys e = cond-true _ _ _ e

off : (x y : ℕ) (xs ys : List ℕ) → eqb x y ≡ false → common (x ∷ xs) (y ∷ ys) ≡ 0
off x y xs ys e = cond-false _ _ _ e

pub common_whole : (xs : List ℕ) → common xs xs ≡ length xs
common_whole [] = refl
common_whole (x ∷ xs) = let a = common_same x xs xs in let ih = common_whole xs in omega arith

pub common_fits : (xs ys : List ℕ) → common xs ys ≤ length ys
common_fits xs ys = (common_prefix_len-le (λ x y. eqb x y) xs ys).1

-- what two lists share before more that they share
pub common_after : (xs ys zs : List ℕ) → common (xs ++ ys) (xs ++ zs) ≡ length xs + common ys zs
common_after [] ys zs = omega arith
common_after (x ∷ xs) ys zs =
    let a = common_same x (xs ++ ys) (xs ++ zs) in let ih = common_after xs ys zs in omega arith

-- blocks of one length: what follows them counts only where they are equal
pub common_blocks : (xs ys us vs : List ℕ) → length xs ≡ length ys → common (xs ++ us) (ys ++ vs) ≤ length xs + common us vs
common_blocks [] [] us vs e = omega arith
common_blocks [] (y ∷ ys) us vs e = absurd (omega arith)
common_blocks (x ∷ xs) [] us vs e = absurd (omega arith)
common_blocks (x ∷ xs) (y ∷ ys) us vs e =
    ⊎_elim
    (λ t.
    let a = on x y (xs ++ us) (ys ++ vs) t in
    let l : length xs ≡ length ys = omega arith in let ih = common_blocks xs ys us vs l in omega arith)
    (λ t. let a = off x y (xs ++ us) (ys ++ vs) t in omega arith)
    (cases_Bool (eqb x y))

-- a list that differs from another within its own length differs there whatever follows it
pub common_front : (xs us ys : List ℕ) → common xs ys < length xs → common (xs ++ us) ys ≡ common xs ys
common_front [] us ys h = absurd (omega arith)
common_front (x ∷ xs) us [] h = refl
common_front (x ∷ xs) us (y ∷ ys) h =
    ⊎_elim
    (λ t.
    let a = on x y (xs ++ us) ys t in let b = on x y xs ys t in
    let l : common xs ys < length xs = omega arith in let ih = common_front xs us ys l in omega arith)
    (λ t. let a = off x y (xs ++ us) ys t in let b = off x y xs ys t in omega arith)
    (cases_Bool (eqb x y))

pub common_reads : (i : ℕ) (xs ys : List ℕ) → i < common xs ys → get_or xs i 0 ≡ get_or ys i 0
common_reads i [] ys h = absurd (omega arith)
common_reads i (x ∷ xs) [] h = absurd (omega arith)
common_reads zero (x ∷ xs) (y ∷ ys) h =
    ⊎_elim (eqb-true x y) (λ t. let a = off x y xs ys t in absurd (omega arith)) (cases_Bool (eqb x y))
common_reads (suc i) (x ∷ xs) (y ∷ ys) h =
    ⊎_elim
    (λ t. let a = on x y xs ys t in let l : i < common xs ys = omega arith in common_reads i xs ys l)
    (λ t. let a = off x y xs ys t in absurd (omega arith))
    (cases_Bool (eqb x y))

-- two descriptions of the same lists
pub longest_same : {P Q : List ℕ → Type 0} {bytes : List ℕ} {k : ℕ} → ((g : List ℕ) → P g → Q g) → ((g : List ℕ) → Q g → P g) → Longest P bytes k → Longest Q bytes k
longest_same to from l =
    record { shared = (l.shared.0, to _ l.shared.1, l.shared.2); most = λ g q. l.most g (from g q) }

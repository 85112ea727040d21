-- What is known of a result that was passed on.
use Rattle.std.proofs.Common.{◌≡◌, ℕ, Ok, Err, Result, sym, refl, ap, arith}
use Rattle.std.specs.Result.{IsErrAnd, MatchResult}

-- what the exit of a `?` returns is the error
pub err_is : {X E : Type 0} (r : Result X E) (e : E) → IsErrAnd r (λ x. x ≡ e) → r ≡ Err e
err_is (Ok x) e h = absurd h
err_is (Err x) e h = ap (λ y. Err y) h

pub same_err : {X Y : Type 0} (x y : Y) → ◌≡◌ {A = Result X Y} (Err x) (Err y) → x ≡ y
same_err x y e = cc

pub ok_not_err : {X Y : Type 0} (x : X) (y : Y) → ◌≡◌ {A = Result X Y} (Ok x) (Err y) → ⊥
ok_not_err x y e = let z : ◌≡◌ {A = ℕ} 0 1 = cc in omega arith

-- what came out of `map_err` tells what went in: a value as it was, and an error of which this was made
pub mapped_ok : {X E : Type 0} (D : Type 0) (r : Result X E) (x : X) → MatchResult r (λ y. ◌≡◌ {A = Result X D} (Ok x) (Ok y)) (λ _. ⊥) → r ≡ Ok x
mapped_ok D (Ok y) x h = cc
mapped_ok D (Err e) x h = absurd h

pub mapped_err : {X E D : Type 0} (P : E → Type 0) (Q : E → Type 0) (r : Result X E) (d : D) → ((e : E) → Q e → P e) → MatchResult r (λ y. ◌≡◌ {A = Result X D} (Err d) (Ok y)) Q → (e : E) × (r ≡ Err e) × P e
mapped_err P Q (Ok y) d f h = absurd (ok_not_err y d (sym h))
mapped_err P Q (Err e) d f h = (e, refl, f e h)

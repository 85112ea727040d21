-- An error that `map_err` made of another.
use Rattle.std.proofs.Common.{◌≡◌, ℕ, Ok, Err, Result, MatchResult, refl, ap, arith}

pub mapped : {V E F : Type 0} {Q : E → Type 0} (make : E → F) (r : Result V E) (f : F) → MatchResult r (λ x. ◌≡◌ {A = Result V F} (Err f) (Ok x)) Q → ((e : E) → Q e → f ≡ make e) → (e : E) × (r ≡ Err e) × (f ≡ make e)
mapped make (Ok x) f h made = let z : ◌≡◌ {A = ℕ} 0 1 = cc in absurd (omega arith)
mapped make (Err e) f h made = (e, refl, made e h)

-- a value that `map_err` let pass
pub unmapped : {V E : Type 0} {Q : E → Type 0} (F : Type 0) (r : Result V E) (v : V) → MatchResult r (λ x. ◌≡◌ {A = Result V F} (Ok v) (Ok x)) Q → ((e : E) → Q e → ⊥) → r ≡ Ok v
unmapped F (Ok x) v h never = let z : x ≡ v = cc in ap Ok z
unmapped F (Err e) v h never = absurd (never e h)

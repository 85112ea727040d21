-- What the answer of a bank's put says.
use Rattle.std.proofs.Common.{◌≡◌, ℕ, ◌<◌, ◌≤◌, ◌⊎◌, List, [], ◌∷◌, ◌++◌, length, set, Ok, Err, inl, inr, ⊎_elim, arith}
use Rattle.std.proofs.lemmas.Bool.{cases_lt}
use Rattle.messages.specs.declared.refusal.Refusal.{Refusal}
use Rattle.banks.proofs.Holding.{empty_room}
use Rattle.banks.specs.Trays.{tray_at, held_in, HasRoom, NoRoom, Puts}

module _ {B C : Type 0} (trays : B → List (List C)) (each all : B → ℕ) (before after : B) (k : ℕ) (c : C) where
  rooms : NoRoom (trays before) k (each before) (all before) ⊎ HasRoom (trays before) k (each before) (all before)
  rooms =
      ⊎_elim
      (λ (l : length (tray_at (trays before) k) < each before).
      ⊎_elim (λ (h : held_in (trays before) < all before). inr (l, h)) (λ (h : all before ≤ held_in (trays before)). inl (inr h)) (cases_lt (held_in (trays before)) (all before)))
      (λ (l : each before ≤ length (tray_at (trays before) k)). inl (inl l)) (cases_lt (length (tray_at (trays before) k)) (each before))

  -- a refused put leaves the bank as it was
  pub put_refused : (e : Refusal) → Puts trays each all before after k c (Err e) → after ≡ before
  put_refused e p =
      ⊎_elim
      (λ (l : k < length (trays before)).
      ⊎_elim (λ (n : NoRoom (trays before) k (each before) (all before)). (p.full l n).1)
      (λ (h : HasRoom (trays before) k (each before) (all before)). absurd (let q = (p.placed l h).0 in let z : ◌≡◌ {A = ℕ} 0 1 = cc in omega arith)) rooms)
      (λ (l : length (trays before) ≤ k). (p.absent l).1) (cases_lt k (length (trays before)))

  pub put_full : (e : Refusal) → Puts trays each all before after k c (Err e) → k < length (trays before) → NoRoom (trays before) k (each before) (all before)
  put_full e p l =
      ⊎_elim (λ (n : NoRoom (trays before) k (each before) (all before)). n)
      (λ (h : HasRoom (trays before) k (each before) (all before)). absurd (let q = (p.placed l h).0 in let z : ◌≡◌ {A = ℕ} 0 1 = cc in omega arith)) rooms

  pub put_placed : (u : Unit {0}) → Puts trays each all before after k c (Ok u) → k < length (trays before) → HasRoom (trays before) k (each before) (all before) × (trays after ≡ set (trays before) k (tray_at (trays before) k ++ c ∷ []))
  put_placed u p l =
      ⊎_elim (λ (n : NoRoom (trays before) k (each before) (all before)). absurd (let q = (p.full l n).0 in let z : ◌≡◌ {A = ℕ} 0 1 = cc in omega arith))
      (λ (h : HasRoom (trays before) k (each before) (all before)). (h, (p.placed l h).1)) rooms

-- where nothing lies and neither limit is 0, there is room
pub empty_has_room : {C : Type 0} (ts : List (List C)) (k each all : ℕ) → held_in ts ≡ 0 → (0 < each) × (0 < all) → NoRoom ts k each all → ⊥
empty_has_room ts k each all h l n =
    let r = empty_room ts k each all h l in
    ⊎_elim (λ (x : each ≤ length (tray_at ts k)). omega (arith, r.0)) (λ (x : all ≤ held_in ts). omega (arith, r.1)) n

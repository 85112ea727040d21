-- How many cells trays hold: what every bank shares.
use Rattle.std.proofs.Common.{◌≡◌, ℕ, zero, suc, ◌<◌, ◌≤◌, List, [], ◌∷◌, length, arith}
use Rattle.banks.specs.Trays.{HasRoom, held_in, tray_at}

-- a tray holds no more than all together
pub tray_held : {C : Type 0} (ts : List (List C)) (k : ℕ) → length (tray_at ts k) ≤ held_in ts
tray_held [] k = omega arith
tray_held (t ∷ ts) zero = omega arith
tray_held (t ∷ ts) (suc k) = let e = tray_held ts k in omega arith

-- an empty bank has room wherever its limits leave some
pub empty_room : {C : Type 0} (ts : List (List C)) (k each all : ℕ) → held_in ts ≡ 0 → (0 < each) × (0 < all) → HasRoom ts k each all
empty_room ts k each all e l = let h = tray_held ts k in (omega (arith, l.0), omega (arith, l.1))

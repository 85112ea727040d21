-- Trays as lists of cells, and what a put and a take answer and leave.
use Rattle.std.specs.Prelude.{◌≡◌, ℕ, ◌+◌, ◌<◌, ◌≤◌, ◌⊎◌, List, [], ◌∷◌, ◌++◌, length, Some, None, Ok, Err, Option, Result, slice_index_or, slice_set}
use Rattle.messages.specs.declared.refusal.Refusal.{Refusal}
use Rattle.messages.specs.declared.refusal.Refusal.TheVariants.{Full, NoSuchTray}

-- the cells of tray k, none where there is no such tray
abbrev pub tray_at : {C : Type 0} → List (List C) → ℕ → List C
tray_at trays k = slice_index_or trays k []

-- how many cells all trays hold
abbrev pub held_in : {C : Type 0} → List (List C) → ℕ
held_in [] = 0
held_in (t ∷ ts) = length t + held_in ts

-- tray k takes one cell more, under a limit of each tray and one of all
abbrev pub HasRoom : {C : Type 0} → List (List C) → ℕ → ℕ → ℕ → Type 0
HasRoom trays k each all = (length (tray_at trays k) < each) × (held_in trays < all)

abbrev pub NoRoom : {C : Type 0} → List (List C) → ℕ → ℕ → ℕ → Type 0
NoRoom trays k each all = (each ≤ length (tray_at trays k)) ⊎ (all ≤ held_in trays)

abbrev pub first_of : {C : Type 0} → List C → Option C
first_of [] = None
first_of (c ∷ cs) = Some c

abbrev pub without_first : {C : Type 0} → List C → List C
without_first [] = []
without_first (c ∷ cs) = cs

-- B is the type of a bank, `trays` what its trays hold, and `each` and `all` are its limits
module _ {B C : Type 0} (trays : B → List (List C)) (each all : B → ℕ) where
  -- a put of the cell c into tray k: refused where there is no such tray, otherwise where there is no room, and then the
  -- bank is as it was; otherwise c goes to the end of the tray, and every other tray stays
  pub record Puts (before after : B) (k : ℕ) (c : C) (r : Result (Unit {0}) Refusal) : Type 0 where
    pub absent : length (trays before) ≤ k → (r ≡ Err NoSuchTray) × (after ≡ before)
    pub full : k < length (trays before) → NoRoom (trays before) k (each before) (all before) → (r ≡ Err Full) × (after ≡ before)
    pub placed : k < length (trays before) → HasRoom (trays before) k (each before) (all before) → (r ≡ Ok tt) × (trays after ≡ slice_set (trays before) k (tray_at (trays before) k ++ c ∷ []))
    pub limits : (each after ≡ each before) × (all after ≡ all before)

  -- a take from tray k: the first cell leaves, if there is one, and every other tray stays
  pub record Takes (before after : B) (k : ℕ) (r : Option C) : Type 0 where
    pub answer : r ≡ first_of (tray_at (trays before) k)
    pub left : trays after ≡ slice_set (trays before) k (without_first (tray_at (trays before) k))
    pub limits : (each after ≡ each before) × (all after ≡ all before)

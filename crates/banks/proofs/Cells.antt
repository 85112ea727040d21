-- Cells of a table after one is written, a front of a list after a write, lists of one element, and a take from an empty tray.
use Rattle.std.proofs.Common.{◌≡◌, ℕ, zero, suc, ◌<◌, List, [], ◌∷◌, length, get_or, take, set, replicate, None, sym, refl, ap, ◌∙◌, arith}
use Rattle.std.proofs.lemmas.List.{set-get_or}
use Rattle.banks.specs.Tables.{cell_at}
use Rattle.banks.specs.Trays.{first_of, tray_at, without_first}

pub cell_other : {C : Type 0} (cells : List C) (i j : ℕ) (c : C) → (i ≡ j → ⊥) → cell_at (set cells i c) j ≡ cell_at cells j
cell_other [] i j c ne = refl
cell_other (x ∷ xs) zero zero c ne = absurd (ne refl)
cell_other (x ∷ xs) zero (suc j) c ne = refl
cell_other (x ∷ xs) (suc i) zero c ne = refl
cell_other (x ∷ xs) (suc i) (suc j) c ne = cell_other xs i j c (λ e. ne (ap suc e))

pub cell_same : {C : Type 0} (cells : List C) (i : ℕ) (c : C) → i < length cells → cell_at (set cells i c) i ≡ c ∷ []
cell_same [] i c l = absurd (omega arith)
cell_same (x ∷ xs) zero c l = refl
cell_same (x ∷ xs) (suc i) c l = cell_same xs i c (omega arith)

pub cell_read : {C : Type 0} (cells : List C) (i : ℕ) (c : C) → i < length cells → c ≡ get_or cells i c → cell_at cells i ≡ c ∷ []
cell_read [] i c l e = absurd (omega arith)
cell_read (x ∷ xs) zero c l e = ap (λ y. y ∷ []) (sym e)
cell_read (x ∷ xs) (suc i) c l e = cell_read xs i c (omega arith) e

pub cell_one : {C : Type 0} (cells : List C) (i : ℕ) → i < length cells → length (cell_at cells i) ≡ 1
cell_one [] i l = absurd (omega arith)
cell_one (x ∷ xs) zero l = refl
cell_one (x ∷ xs) (suc i) l = cell_one xs i (omega arith)

-- a write to a front of a list
pub take_set : {C : Type 0} (n : ℕ) (l : List C) (i : ℕ) (a : C) → take n (set l i a) ≡ set (take n l) i a
take_set zero l i a = refl
take_set (suc n) [] i a = refl
take_set (suc n) (x ∷ l) zero a = refl
take_set (suc n) (x ∷ l) (suc i) a = ap (λ t. x ∷ t) (take_set n l i a)

-- a read of a list of one element alone, with that element for what lies past the end
pub get_or_replicate_self : {C : Type 0} (n k : ℕ) (d : C) → get_or (replicate n d) k d ≡ d
get_or_replicate_self zero k d = refl
get_or_replicate_self (suc n) zero d = refl
get_or_replicate_self (suc n) (suc k) d = get_or_replicate_self n k d

-- what a take finds and leaves where the tray is empty
pub take_none : {C : Type 0} (ts : List (List C)) (k : ℕ) → tray_at ts k ≡ [] → (None ≡ first_of (tray_at ts k)) × (ts ≡ set ts k (without_first (tray_at ts k)))
take_none ts k e =
    let same : without_first (tray_at ts k) ≡ tray_at ts k = ap without_first e ∙ sym e in
    (sym (ap first_of e), sym (ap (λ t. set ts k t) same ∙ set-get_or ts k []))

-- Each cell in the trays of an open dispatcher is that of an accepted post, in the tray of its deadline.
use Rattle.std.proofs.Common.{◌≡◌, ℕ, zero, suc, ◌+◌, ◌%◌, ◌<◌, ◌≤◌, true, List, [], ◌∷◌, ◌++◌, length, Some, filter, sym, refl, subst, ⊎_elim, arith}
use Rattle.std.specs.List.{slice_get, AllByRecursion as All}
use Rattle.std.proofs.ByRecursion.{All-append, all_kept_by, kept_by_passes}
use Rattle.std.proofs.lemmas.List.{get_or_past}
use Rattle.std.proofs.lemmas.Bool.{cases_lt, eqb-true}
use Rattle.banks.specs.declared.cell.Cell.{Cell}
use Rattle.banks.specs.Trays.{tray_at}
use Rattle.dispatcher.specs.Machine.{Call, Entry, Terms, run}
use Rattle.dispatcher.specs.Shown.{Running, cell_of, cells}
use Rattle.dispatcher.specs.WholeRuns.{InItsTray}
use Rattle.dispatcher.proofs.Facts.{IsPosted}
use Rattle.dispatcher.proofs.Once.{each_once}
use Rattle.dispatcher.proofs.Placing.{by_number, lies_in}

-- what holds at each place of a list
all_places : {X : Type 0} (P : X → Type 0) (xs : List X) → ((i : ℕ) (x : X) → slice_get xs i ≡ Some x → P x) → All P xs
all_places P [] h = tt
all_places P (x ∷ xs) h = (h 0 x refl, all_places P xs (λ i y e. h (suc i) y e))

module _ {M : Type 0} where
  -- a cell of some entries is that of one of them
  cell_in : (P Q : Entry M → Type 0) (es : List (Entry M)) (i : ℕ) (c : Cell M) → All P es → All Q es → slice_get (cells es) i ≡ Some c → (e : Entry M) × P e × Q e × (c ≡ cell_of e)
  cell_in P Q [] i c a b m = absurd (let z : ◌≡◌ {A = ℕ} 0 1 = cc in omega arith)
  cell_in P Q (e ∷ es) zero c a b m = let k : c ≡ cell_of e = cc in (e, a.0, b.0, k)
  cell_in P Q (e ∷ es) (suc i) c a b m = cell_in P Q es i c a.1 b.1 m

  module _ (b : Terms M) (calls : List (Call M)) where
    posted : All (IsPosted (run b calls).history) ((run b calls).state.waiting ++ (run b calls).state.pending)
    posted =
        let o = each_once b calls in
        All-append _ (run b calls).state.waiting (run b calls).state.pending
        (all_places _ _ (λ i f m. let l = o.waiting_after i f m in (l.place, l.is_post)))
        (all_places _ _ (λ i f m. let l = o.pending_before i f m in (l.place, l.is_post)))

    pub in_its_tray : (ts : List (List (Cell M))) (N z s : ℕ) → Running ts N z s (run b calls).state.pending (run b calls).state.waiting → (k i : ℕ) (c : Cell M) → slice_get (tray_at ts k) i ≡ Some c → InItsTray (run b calls).history (length ts) k c
    in_its_tray ts N z s r k i c m = ⊎_elim inside outside (cases_lt k (N + 1))
      where
        inside : k < N + 1 → InItsTray (run b calls).history (length ts) k c
        inside l =
            let t = lies_in (N + 1) k in
            let all = (run b calls).state.waiting ++ (run b calls).state.pending in
            let x = cell_in (IsPosted (run b calls).history) (λ e. t e ≡ true) (filter t all) i c (all_kept_by t (IsPosted (run b calls).history) all posted) (kept_by_passes t all) (subst (λ y. slice_get y i ≡ Some c) (by_number r k l) m) in
            record {
              entry = x.0;
              place = x.1.0;
              is_post = x.1.1;
              same = x.3;
              by_deadline = subst (λ n. x.0.deadline % n ≡ k) (sym r.trays) (eqb-true (x.0.deadline % (N + 1)) k x.2);
            }

        outside : N + 1 ≤ k → InItsTray (run b calls).history (length ts) k c
        outside l =
            let n = r.trays in
            let none : tray_at ts k ≡ [] = get_or_past ts k [] (omega arith) in
            let e : slice_get {X = Cell M} [] i ≡ Some c = subst (λ y. slice_get y i ≡ Some c) none m in
            absurd (let z : ◌≡◌ {A = ℕ} 0 1 = cc in omega arith)

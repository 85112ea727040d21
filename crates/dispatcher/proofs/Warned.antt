-- The theorem on warnings, at each step.
use Rattle.std.proofs.Common.{◌≡◌, ℕ, ◌+◌, ◌≤◌, Bool, ◌↔◌, List, [], ◌∷◌, ◌++◌, length, take, Some, None, fold, Option, sym, refl, ap, ◌∙◌, subst, ⊎_elim, arith}
use Rattle.std.specs.List.{slice_get}
use Rattle.std.proofs.lemmas.List.{take_at, take-append-le}
use Rattle.std.proofs.lemmas.List.Sums.{fold_push}
use Rattle.dispatcher.specs.Machine.{Warning, Entry, Event, Call, Terms, State, Told, told, step, run, start, first_over, new_entry}
use Rattle.dispatcher.specs.declared.event.Event.TheVariants.{Posted, Warned}
use Rattle.dispatcher.specs.History.{History, tells, cycle_of, Service, Meets}
use Rattle.dispatcher.specs.Theorems.{NamesLeast, WarningsLeast, WarningsRight}
use Rattle.dispatcher.proofs.Places.{nth_inside, nth_cases}
use Rattle.dispatcher.proofs.Moves.{Move, step_moves}
use Rattle.dispatcher.proofs.Moves.Move.{refusing, opening, posting, idling, serving, turning, unnamed, naming, warning, beginning, asking}
use Rattle.dispatcher.proofs.Facts.{kind, old}
use Rattle.dispatcher.proofs.Whole.{Known, known_step, known_start, later}
use Rattle.dispatcher.proofs.Sound.{Sound}
use Rattle.dispatcher.proofs.Warnings.{names_least, warns}

-- what a warning said of the history before it
abbrev Leads : {M : Type 0} → ℕ → History M → ℕ → Option Warning → Type 0
Leads N h c None = Unit {0}
Leads N h c (Some a) = NamesLeast h N c a

abbrev Right : {M : Type 0} → ℕ → History M → ℕ → Option Warning → Type 0
Right N h c a = ((a ≡ None) ↔ ((plan : ℕ → Service) × Meets h c plan)) × Leads N h c a

abbrev AllRight : {M : Type 0} → ℕ → History M → Type 0
AllRight N h = (w c : ℕ) (a : Option Warning) → slice_get h w ≡ Some (Warned c a) → Right N (take w h) c a

pub record Clear {M : Type 0} (b : Terms M) (s : State M) (h : History M) : Type 0 where
  pub clock : s.cycle ≡ cycle_of h
  pub near : (p : ℕ) (e : Entry M) → slice_get h p ≡ Some (Posted e) → e.deadline ≤ s.cycle + b.span
  pub right : AllRight b.span h

clash : {A : Type 0} → ◌≡◌ {A = ℕ} 0 1 → A
clash e = absurd (omega arith)

module _ {M : Type 0} where
  clock_push : (h : History M) (v : Event M) (z z' : ℕ) → z ≡ cycle_of h → tells z v ≡ z' → z' ≡ cycle_of (h ++ v ∷ [])
  clock_push h v z z' e k = sym k ∙ ap (λ y. tells y v) e ∙ sym (fold_push tells 0 h v)

  right_push : (N : ℕ) (h : History M) (v : Event M) → AllRight N h → ((c : ℕ) (a : Option Warning) → v ≡ Warned c a → Right N h c a) → AllRight N (h ++ v ∷ [])
  right_push N h v r new w c a e = ⊎_elim before here (nth_cases h v (Warned c a) w e)
    where
      before : slice_get h w ≡ Some (Warned c a) → Right N (take w (h ++ v ∷ [])) c a
      before m = subst (λ g. Right N g c a) (sym (take-append-le w h (v ∷ []) (let l = nth_inside h w _ m in omega arith))) (r w c a m)

      here : (w ≡ length h) × (v ≡ Warned c a) → Right N (take w (h ++ v ∷ [])) c a
      here k = subst (λ g. Right N g c a) (sym (take_at h (v ∷ []) w (sym k.0))) (new c a k.1)

  near_push : (h : History M) (v : Event M) (x y : ℕ) → x ≤ y → (kind v ≡ 1 → ⊥) → ((p : ℕ) (e : Entry M) → slice_get h p ≡ Some (Posted e) → e.deadline ≤ x) → (p : ℕ) (e : Entry M) → slice_get (h ++ v ∷ []) p ≡ Some (Posted e) → e.deadline ≤ y
  near_push h v x y l k n p e m = let a = n p e (old h v (Posted e) p k m) in omega arith

  -- the warning that the machine gives
  right_now : {o : Bool} {z n : ℕ} {P : List (Entry M)} {h : History M} → Sound o z n P h → (c N : ℕ) → z ≡ cycle_of h → ((p : ℕ) (e : Entry M) → slice_get h p ≡ Some (Posted e) → e.deadline ≤ z + N) → (a : Option Warning) → first_over c z P 1 N ≡ a → Right N h c a
  right_now {z = z} {P = P} {h = h} s c N clock near a j = (subst (λ y. (y ≡ None) ↔ ((plan : ℕ → Service) × Meets h c plan)) j (warns s c N clock near), leads a j)
    where
      leads : (a : Option Warning) → first_over c z P 1 N ≡ a → Leads N h c a
      leads None j = tt
      leads (Some a) j = names_least s c N clock a j

module _ {M : Type 0} (b : Terms M) where
  clear_step : (s : State M) (h : History M) (v : Event M) (s' : State M) → Move b s v s' → Known s h → Clear b s h → Clear b s' (h ++ v ∷ [])
  clear_step s h v s' (refusing c k) w x = record { clock = clock_push h v _ _ x.clock refl; near = near_push h v _ _ (omega arith) (λ q. omega arith) x.near; right = right_push b.span h v x.right (λ c a e. clash (cc)) }
  clear_step s h v s' (opening z r e) w x = record { clock = clock_push h v _ _ x.clock refl; near = λ p f m. absurd (let q = w.sound.shut e p (Posted f) (old h v (Posted f) p (λ q. omega arith) m) in omega arith); right = right_push b.span h v x.right (λ c a e. clash (cc)) }
  clear_step s h v s' (posting m e i j) w x = record { clock = clock_push h v _ _ x.clock refl; near = λ p f k. ⊎_elim (λ q. x.near p f q) (λ q. new f q.1) (nth_cases h v (Posted f) p k); right = right_push b.span h v x.right (λ c a e. clash (cc)) }
    where
      new : (f : Entry M) → ◌≡◌ {A = Event M} (Posted (new_entry b s m)) (Posted f) → f.deadline ≤ s.cycle + b.span
      new f q = let g : new_entry b s m ≡ f = cc in subst (λ y. y.deadline ≤ s.cycle + b.span) g (omega arith)
  clear_step s h v s' (idling e k) w x = record { clock = clock_push h v _ _ x.clock refl; near = near_push h v _ _ (omega arith) (λ q. omega arith) x.near; right = right_push b.span h v x.right (λ c a e. clash (cc)) }
  clear_step s h v s' (serving f e k) w x = record { clock = clock_push h v _ _ x.clock refl; near = near_push h v _ _ (omega arith) (λ q. omega arith) x.near; right = right_push b.span h v x.right (λ c a e. clash (cc)) }
  clear_step s h v s' (turning t e k l) w x = record { clock = clock_push h v _ _ x.clock refl; near = near_push h v _ _ (omega arith) (λ q. omega arith) x.near; right = right_push b.span h v x.right (λ c a e. clash (cc)) }
  clear_step s h v s' (unnamed e) w x = record { clock = clock_push h v _ _ x.clock refl; near = near_push h v _ _ (omega arith) (λ q. omega arith) x.near; right = right_push b.span h v x.right (λ c a e. clash (cc)) }
  clear_step s h v s' (naming f es e k) w x = record { clock = clock_push h v _ _ x.clock refl; near = near_push h v _ _ (omega arith) (λ q. omega arith) x.near; right = right_push b.span h v x.right (λ c a e. clash (cc)) }
  clear_step s h v s' (warning c e) w x = record { clock = clock_push h v _ _ x.clock refl; near = near_push h v _ _ (omega arith) (λ q. omega arith) x.near; right = right_push b.span h v x.right new }
    where
      new : (c' : ℕ) (a : Option Warning) → ◌≡◌ {A = Event M} (Warned c (first_over c s.cycle s.pending 1 b.span)) (Warned c' a) → Right b.span h c' a
      new c' a q =
          let i : c ≡ c' = cc in
          let j : first_over c s.cycle s.pending 1 b.span ≡ a = cc in
          subst (λ y. Right b.span h y a) i (right_now w.sound c b.span x.clock x.near a j)
  clear_step s h v s' (beginning o) w x = record { clock = clock_push h v _ _ x.clock refl; near = near_push h v _ _ (omega arith) (λ q. omega arith) x.near; right = right_push b.span h v x.right (λ c a e. clash (cc)) }
  clear_step s h v s' (asking g) w x = record { clock = clock_push h v _ _ x.clock refl; near = near_push h v _ _ (omega arith) (λ q. omega arith) x.near; right = right_push b.span h v x.right (λ c a e. clash (cc)) }

  clear_from : (r : Told M) (calls : List (Call M)) → Known r.state r.history → Clear b r.state r.history → (let r' = fold (λ r c. told r (step b r.state c)) r calls in Clear b r'.state r'.history)
  clear_from r [] w x = x
  clear_from r (c ∷ calls) w x =
      let m = step_moves b r.state (later w.sound) c in
      clear_from (told r (step b r.state c)) calls (known_step b r.state r.history _ _ m w) (clear_step r.state r.history _ _ m w x)

  all_right : (calls : List (Call M)) → AllRight b.span (run b calls).history
  all_right calls = (clear_from (record { state = start; history = [] }) calls (known_start b) (record { clock = refl; near = λ p e m. clash (cc); right = λ w c a m. clash (cc) })).right

  pub warnings_right : (calls : List (Call M)) → WarningsRight (run b calls).history
  warnings_right calls w c a m = (all_right calls w c a m).0

  pub warnings_least : (calls : List (Call M)) → WarningsLeast b.span (run b calls).history
  warnings_least calls w c a m = (all_right calls w c (Some a) m).1

-- The steps of the machine, one by one, with what an acceptance says.
use Rattle.std.proofs.Common.{◌≡◌, ℕ, ◌+◌, ◌<◌, ◌≤◌, Bool, true, false, cond, not, ◌||◌, eqb, ltb, leb, List, [], ◌∷◌, ◌++◌, Some, None, count_by, filter, Option, sym, refl, ◌∙◌, subst, ⊎_elim, arith}
use Rattle.std.proofs.lemmas.Bool.{true≢false, or_parts, not-false, ltb-false, eqb-false, eqb-true, cases_eq, le-leb, lt-leb, eq-eqb, ne_eqb}
use Rattle.std.proofs.ByRecursion.{All-weaker}
use Rattle.std.specs.List.{AllByRecursion as All}
use Rattle.dispatcher.proofs.Places.{count_cons}
use Rattle.messages.specs.declared.refusal.Refusal.{Refusal}
use Rattle.dispatcher.specs.Machine.{Entry, Call, Event, Figures, Terms, State, act, unless, step, refusal, serve, tell, soonest, new_entry, due_by, due_at, first_over, is_empty}
use Rattle.dispatcher.specs.declared.call.Call.TheVariants.{Ask, Begin, Dispatch, Name, Open, Post, Turn, Warn}
use Rattle.dispatcher.specs.declared.event.Event.TheVariants.{Asked, Begun, Dispatched, Named, Opened, Posted, Refused, Turned, Warned}

-- A turn told a cycle t, where all that is due by t becomes late. The machine's turn is this one at the next cycle, since
-- nothing that is pending is due by the cycle that it leaves. What follows holds of a turn told any later cycle.
abbrev pub turn_by : {M : Type 0} → State M → ℕ → Event M × State M
turn_by s t =
    (Turned t (due_by t s.pending), record { is_open = s.is_open; begun = s.begun; cycle = t; next = s.next; pending = filter (λ e. not (leb e.deadline t)) s.pending; waiting = s.waiting ++ filter (λ e. leb e.deadline t) s.pending; accepted = s.accepted; dispatched = s.dispatched; late = s.late + due_by t s.pending })

pub data Move {M : Type 0} (b : Terms M) (s : State M) : Event M → State M → Type 0 where
  refusing : (c : Call M) (k : Refusal) → Move b s (Refused c k) s
  opening : (z r : ℕ) → s.is_open ≡ false → Move b s (Opened z r) (act b s (Open z r)).1
  posting : (m : M) → s.is_open ≡ true → 0 < b.interval m → b.interval m ≤ b.span → Move b s (Posted (new_entry b s m)) (act b s (Post m)).1
  idling : s.is_open ≡ true → s.pending ≡ [] → Move b s (Dispatched None) s
  serving : (e : Entry M) → s.is_open ≡ true → soonest s.pending ≡ Some e → Move b s (Dispatched (Some e)) (serve s (Some e)).1
  turning : (t : ℕ) → s.is_open ≡ true → s.waiting ≡ [] → s.cycle < t → Move b s (Turned t (due_by t s.pending)) (turn_by s t).1
  unnamed : s.is_open ≡ true → Move b s (Named None) s
  naming : (e : Entry M) (es : List (Entry M)) → s.is_open ≡ true → s.waiting ≡ e ∷ es → Move b s (Named (Some e)) (tell s (e ∷ es)).1
  warning : (c : ℕ) → s.is_open ≡ true → Move b s (Warned c (first_over c s.cycle s.pending 1 b.span)) s
  beginning : s.is_open ≡ true → Move b s Begun (act b s Begin).1
  asking : (g : Figures) → Move b s (Asked g) s

none_first : {X : Type 0} (t : Bool) (k : X) (o : Option X) → cond t (Some k) o ≡ None → (t ≡ false) × (o ≡ None)
none_first true k o e = absurd (let z : ◌≡◌ {A = ℕ} 0 1 = cc in omega arith)
none_first false k o e = (refl, e)

empty_list : {X : Type 0} (xs : List X) → not (is_empty xs) ≡ false → xs ≡ []
empty_list [] e = refl
empty_list (x ∷ xs) e = absurd (true≢false e)

kept_alike : {X : Type 0} (f g : X → Bool) (xs : List X) → All (λ x. f x ≡ g x) xs → (filter f xs ≡ filter g xs) × (filter (λ x. not (f x)) xs ≡ filter (λ x. not (g x)) xs) × (count_by f xs ≡ count_by g xs)
kept_alike f g [] h = (refl, refl, refl)
kept_alike f g (x ∷ xs) h =
    let a = kept_alike f g xs h.1 in
    (rw (h.0, a.0) refl, rw (h.0, a.1) refl, rw (count_cons f x xs, count_cons g x xs, h.0, a.2) refl)

module _ {M : Type 0} (b : Terms M) (s : State M) (later : All (λ e. s.cycle < e.deadline) s.pending) where
  turn_alike : (t : ℕ) → t ≡ s.cycle + 1 → turn_by s t ≡ act b s (Turn t)
  turn_alike t k =
      let a = kept_alike (λ e. leb e.deadline t) (due_at t) s.pending (All-weaker (λ e. s.cycle < e.deadline) (λ e. leb e.deadline t ≡ due_at t e) (λ e l. each e.deadline l) s.pending later) in
      rw (a.0, a.1, a.2) refl
    where
      each : (d : ℕ) → s.cycle < d → leb d t ≡ eqb d t
      each d l = ⊎_elim (λ e. le-leb d t (omega arith) ∙ sym (eq-eqb d t e)) (λ n. lt-leb d t (omega arith) ∙ sym (ne_eqb d t n)) (cases_eq d t)

  accepted_moves : (c : Call M) → refusal b s c ≡ None → Move b s (act b s c).0 (act b s c).1
  accepted_moves (Open z r) e = opening z r (none_first s.is_open _ _ e).0
  accepted_moves (Post m) e =
      let a = none_first (not s.is_open) _ _ e in
      let f = none_first (eqb (b.interval m) 0 || ltb b.span (b.interval m)) _ _ a.1 in
      let g = or_parts (eqb (b.interval m) 0) (ltb b.span (b.interval m)) f.0 in
      let h = eqb-false (b.interval m) 0 g.0 in
      let k = ltb-false b.span (b.interval m) g.1 in
      posting m (not-false s.is_open a.0) (omega arith) k
  accepted_moves Dispatch e = go (soonest s.pending) refl
    where
      nothing : (es : List (Entry M)) → soonest es ≡ None → es ≡ []
      nothing [] k = refl
      nothing (x ∷ es) k = absurd (let z : ◌≡◌ {A = ℕ} 0 1 = cc in omega arith)

      go : (o : Option (Entry M)) → soonest s.pending ≡ o → Move b s (serve s o).0 (serve s o).1
      go None k = idling (not-false s.is_open (none_first (not s.is_open) _ None e).0) (nothing s.pending k)
      go (Some x) k = serving x (not-false s.is_open (none_first (not s.is_open) _ None e).0) k
  accepted_moves (Turn t) e =
      let a = none_first (not s.is_open) _ _ e in
      let f = none_first (not (is_empty s.waiting)) _ _ a.1 in
      let g = none_first (not (eqb t (s.cycle + 1))) _ _ f.1 in
      let h = eqb-true t (s.cycle + 1) (not-false (eqb t (s.cycle + 1)) g.0) in
      subst (λ y. Move b s y.0 y.1) (turn_alike t h) (turning t (not-false s.is_open a.0) (empty_list s.waiting f.0) (omega arith))
  accepted_moves Name e = go s.waiting refl
    where
      go : (es : List (Entry M)) → s.waiting ≡ es → Move b s (tell s es).0 (tell s es).1
      go [] k = unnamed (not-false s.is_open (none_first (not s.is_open) _ None e).0)
      go (x ∷ es) k = naming x es (not-false s.is_open (none_first (not s.is_open) _ None e).0) k
  accepted_moves (Warn c) e = warning c (not-false s.is_open (none_first (not s.is_open) _ _ e).0)
  accepted_moves Begin e = beginning (not-false s.is_open (none_first (not s.is_open) _ _ e).0)
  accepted_moves Ask e = asking _

  pub step_moves : (c : Call M) → Move b s (step b s c).0 (step b s c).1
  step_moves c = go (refusal b s c) refl
    where
      go : (o : Option Refusal) → refusal b s c ≡ o → Move b s (unless b s c o).0 (unless b s c o).1
      go (Some k) e = refusing c k
      go None e = accepted_moves c e

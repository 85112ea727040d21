-- What ties the machine's state to its history, and stays so at each step.
use Rattle.std.proofs.Common.{◌≡◌, ℕ, suc, Bool, true, false, cond, not, ◌&&◌, ◌||◌, List, [], ◌∷◌, ◌++◌, length, Some, None, count_by, filter, sym, refl, ap, ◌∙◌, ⊎_elim, append_assoc, append-nil, arith}
use Rattle.std.specs.List.{slice_get, AllByRecursion as All}
use Rattle.std.proofs.lemmas.List.Elements.{filter-append}
use Rattle.std.proofs.ByRecursion.{All-append, All-weaker}
use Rattle.dispatcher.specs.Machine.{Entry, Event}
use Rattle.dispatcher.specs.declared.event.Event.TheVariants.{Asked, Begun, Dispatched, Named, Opened, Posted, Refused, Turned, Warned}
use Rattle.dispatcher.specs.History.{History, count, reaches, answers, turned_to, was_dispatched, is_pending, of_post, at_post}
use Rattle.dispatcher.proofs.Counts.{count_first}
use Rattle.dispatcher.proofs.Places.{nth_cases, any_push, kept_same, kept_kept, count_cons, count_append}

-- the entries of the accepted posts, in order
abbrev pub front : {M : Type 0} → Event M → List (Entry M)
front (Refused c k) = []
front (Opened z r) = []
front (Posted e) = e ∷ []
front (Dispatched o) = []
front (Turned t n) = []
front (Named o) = []
front (Warned c o) = []
front (Asked g) = []
front Begun = []

abbrev pub posts : {M : Type 0} → History M → List (Entry M)
posts [] = []
posts (v ∷ h) = front v ++ posts h

-- 0 for an event that changes neither what is pending nor what is late
abbrev pub kind : {M : Type 0} → Event M → ℕ
kind (Refused c k) = 0
kind (Opened z r) = 0
kind (Posted e) = 1
kind (Dispatched None) = 0
kind (Dispatched (Some e)) = 2
kind (Turned t n) = 3
kind (Named o) = 0
kind (Warned c o) = 0
kind (Asked g) = 0
kind Begun = 0

abbrev pub is_lost : {M : Type 0} → History M → Entry M → Bool
is_lost h e = turned_to h e.deadline && not (was_dispatched h e.receipt)

-- what the event leaves pending
abbrev pub passes : {M : Type 0} → Event M → Entry M → Bool
passes v e = not (answers e.receipt v) && not (reaches e.deadline v)

abbrev pub IsPosted : {M : Type 0} → History M → Entry M → Type 0
IsPosted h e = (p : ℕ) × (slice_get h p ≡ Some (Posted e))

parts : (a b c d : Bool) → (not (a || b) && not (c || d)) ≡ ((not a && not c) && (not b && not d))
parts true b c d = refl
parts false b true d = right (not b)
  where
    right : (x : Bool) → (x && false) ≡ false
    right true = refl
    right false = refl
parts false b false d = refl

module _ {M : Type 0} where
  pub posts_push : (h : History M) (v : Event M) → posts (h ++ v ∷ []) ≡ posts h ++ front v
  posts_push [] v = append-nil (front v)
  posts_push (w ∷ h) v = rw (posts_push h v) (sym (append_assoc (front w) (posts h) (front v)))

  front_posted : (v : Event M) (h : History M) → All (IsPosted (v ∷ h)) (front v)
  front_posted (Refused c k) h = tt
  front_posted (Opened z r) h = tt
  front_posted (Posted e) h = ((0, refl), tt)
  front_posted (Dispatched o) h = tt
  front_posted (Turned t n) h = tt
  front_posted (Named o) h = tt
  front_posted (Warned c o) h = tt
  front_posted (Asked g) h = tt
  front_posted Begun h = tt

  pub all_posts : (h : History M) → All (IsPosted h) (posts h)
  all_posts [] = tt
  all_posts (v ∷ h) =
      All-append (IsPosted (v ∷ h)) (front v) (posts h) (front_posted v h)
      (All-weaker (IsPosted h) (IsPosted (v ∷ h)) (λ e k. (suc k.0, k.1)) (posts h) (all_posts h))

  count_front : (f : Entry M → Bool) (v : Event M) → count_by f (front v) ≡ cond (of_post f v) 1 0
  count_front f (Refused c k) = refl
  count_front f (Opened z r) = refl
  count_front f (Posted e) = count_cons f e [] ∙ (omega arith)
  count_front f (Dispatched o) = refl
  count_front f (Turned t n) = refl
  count_front f (Named o) = refl
  count_front f (Warned c o) = refl
  count_front f (Asked g) = refl
  count_front f Begun = refl

  -- a count of accepted posts by position is a count over the list of their entries
  pub count_posts : (f : Entry M → Bool) (h : History M) → count (λ p. at_post f (slice_get h p)) (length h) ≡ count_by f (posts h)
  count_posts f [] = refl
  count_posts f (v ∷ h) =
      let a = count_first (λ p. at_post f (slice_get (v ∷ h) p)) (length h) in
      let b = count_posts f h in
      let c = count_front f v in
      let d = count_append f (front v) (posts h) in
      omega arith

  -- an element of another kind than the last stands before it
  pub old : (h : History M) (v x : Event M) (p : ℕ) → (kind v ≡ kind x → ⊥) → slice_get (h ++ v ∷ []) p ≡ Some x → slice_get h p ≡ Some x
  old h v x p d e = ⊎_elim (λ k. k) (λ k. absurd (d (ap kind k.1))) (nth_cases h v x p e)

  pub no_answer : (v : Event M) (r : ℕ) → kind v ≡ 0 → answers r v ≡ false
  no_answer (Refused c k) r e = refl
  no_answer (Opened z f) r e = refl
  no_answer (Posted x) r e = refl
  no_answer (Dispatched None) r e = refl
  no_answer (Dispatched (Some x)) r e = absurd (omega arith)
  no_answer (Turned t n) r e = refl
  no_answer (Named o) r e = refl
  no_answer (Warned c o) r e = refl
  no_answer (Asked g) r e = refl
  no_answer Begun r e = refl

  pub no_reach : (v : Event M) (d : ℕ) → kind v ≡ 0 → reaches d v ≡ false
  no_reach (Refused c k) r e = refl
  no_reach (Opened z f) r e = refl
  no_reach (Posted x) r e = refl
  no_reach (Dispatched o) r e = refl
  no_reach (Turned t n) r e = absurd (omega arith)
  no_reach (Named o) r e = refl
  no_reach (Warned c o) r e = refl
  no_reach (Asked g) r e = refl
  no_reach Begun r e = refl

  pub no_front : (v : Event M) → kind v ≡ 0 → front v ≡ []
  no_front (Refused c k) e = refl
  no_front (Opened z f) e = refl
  no_front (Posted x) e = absurd (omega arith)
  no_front (Dispatched o) e = refl
  no_front (Turned t n) e = refl
  no_front (Named o) e = refl
  no_front (Warned c o) e = refl
  no_front (Asked g) e = refl
  no_front Begun e = refl

  pub pending_push : (h : History M) (v : Event M) (e : Entry M) → is_pending (h ++ v ∷ []) e ≡ (is_pending h e && passes v e)
  pending_push h v e =
      rw (any_push (answers e.receipt) h v, any_push (reaches e.deadline) h v)
      (parts (was_dispatched h e.receipt) (answers e.receipt v) (turned_to h e.deadline) (reaches e.deadline v))

  -- what is pending after one more event
  pub kept_push : (h : History M) (v : Event M) → filter (is_pending (h ++ v ∷ [])) (posts (h ++ v ∷ [])) ≡ filter (passes v) (filter (is_pending h) (posts h)) ++ filter (is_pending (h ++ v ∷ [])) (front v)
  kept_push h v =
      ap (λ xs. filter (is_pending (h ++ v ∷ [])) xs) (posts_push h v)
      ∙ filter-append (is_pending (h ++ v ∷ [])) (posts h) (front v)
      ∙ ap (λ xs. xs ++ filter (is_pending (h ++ v ∷ [])) (front v))
      (kept_same (is_pending (h ++ v ∷ [])) (λ e. is_pending h e && passes v e) (pending_push h v) (posts h)
      ∙ sym (kept_kept (is_pending h) (passes v) (posts h)))

  pub kept_all : (f : Entry M → Bool) → ((e : Entry M) → f e ≡ true) → (es : List (Entry M)) → filter f es ≡ es
  kept_all f h [] = refl
  kept_all f h (e ∷ es) = rw (h e, kept_all f h es) refl

  pub passes_plain : (v : Event M) → kind v ≡ 0 → (e : Entry M) → passes v e ≡ true
  passes_plain v k e = rw (no_answer v e.receipt k, no_reach v e.deadline k) refl

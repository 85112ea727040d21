-- The history is of the calls that were made.
use Rattle.std.proofs.Common.{◌≡◌, List, [], ◌∷◌, ◌++◌, map, Some, None, fold, Option, sym, refl, ap, ◌∙◌, append_assoc, append-nil}
use Rattle.std.proofs.lemmas.List.{map_push}
use Rattle.std.proofs.lemmas.List.Sums.{fold_push}
use Rattle.dispatcher.specs.Machine.{Entry, Call, Terms, State, Told, told, step, act, unless, refusal, serve, tell, soonest, run, start, call_of}
use Rattle.dispatcher.specs.declared.call.Call.TheVariants.{Ask, Begin, Dispatch, Name, Open, Post, Turn, Warn}
use Rattle.dispatcher.specs.History.{History}
use Rattle.messages.specs.declared.refusal.Refusal.{Refusal}
use Rattle.dispatcher.specs.Theorems.{IsOfCalls}

module _ {M : Type 0} (b : Terms M) where
  call_acted : (s : State M) (c : Call M) → call_of (act b s c).0 ≡ c
  call_acted s (Open z r) = refl
  call_acted s (Post m) = refl
  call_acted s Dispatch = go (soonest s.pending)
    where
      go : (o : Option (Entry M)) → call_of (serve s o).0 ≡ Dispatch
      go None = refl
      go (Some e) = refl
  call_acted s (Turn t) = refl
  call_acted s Name = go s.waiting
    where
      go : (es : List (Entry M)) → call_of (tell s es).0 ≡ Name
      go [] = refl
      go (e ∷ es) = refl
  call_acted s (Warn c) = refl
  call_acted s Begin = refl
  call_acted s Ask = refl

  call_stepped : (s : State M) (c : Call M) → call_of (step b s c).0 ≡ c
  call_stepped s c = go (refusal b s c)
    where
      go : (o : Option Refusal) → call_of (unless b s c o).0 ≡ c
      go (Some k) = refl
      go None = call_acted s c

  abbrev from : Told M → List (Call M) → Told M
  from r calls = fold (λ r c. told r (step b r.state c)) r calls

  calls_from : (r : Told M) (calls : List (Call M)) → map call_of (from r calls).history ≡ map call_of r.history ++ calls
  calls_from r [] = sym (append-nil _)
  calls_from r (c ∷ calls) =
      calls_from (told r (step b r.state c)) calls
      ∙ ap (λ xs. xs ++ calls) (map_push call_of r.history (step b r.state c).0)
      ∙ append_assoc (map call_of r.history) _ calls
      ∙ ap (λ x. map call_of r.history ++ x ∷ calls) (call_stepped r.state c)

  stays_from : (r : Told M) (calls : List (Call M)) → (rest : History M) × ((from r calls).history ≡ r.history ++ rest)
  stays_from r [] = ([], sym (append-nil _))
  stays_from r (c ∷ calls) =
      let a = stays_from (told r (step b r.state c)) calls in
      ((step b r.state c).0 ∷ a.0, a.1 ∙ append_assoc r.history _ a.0)

  from_append : (r : Told M) (xs ys : List (Call M)) → from r (xs ++ ys) ≡ from (from r xs) ys
  from_append r [] ys = refl
  from_append r (x ∷ xs) ys = from_append (told r (step b r.state x)) xs ys

  -- one more call
  pub run_step : (calls : List (Call M)) (c : Call M) → run b (calls ++ c ∷ []) ≡ told (run b calls) (step b (run b calls).state c)
  run_step calls c = fold_push (λ r c. told r (step b r.state c)) (record { state = start; history = [] }) calls c

  pub is_of_calls : (calls : List (Call M)) → IsOfCalls b calls
  is_of_calls calls =
      record { same_calls = calls_from (record { state = start; history = [] }) calls; stays = λ more. let a = stays_from (run b calls) more in (a.0, ap (λ r. r.history) (from_append (record { state = start; history = [] }) calls more) ∙ a.1) }

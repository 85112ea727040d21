-- The counts of posts accepted and of entries dispatched, at each step.
use Rattle.std.proofs.Common.{◌≡◌, ℕ, ◌+◌, Bool, cond, List, [], ◌∷◌, ◌++◌, Some, None, fold, count_by, Option, sym, refl, ap, ◌∙◌, arith}
use Rattle.messages.specs.declared.refusal.Refusal.{Refusal}
use Rattle.dispatcher.specs.Machine.{Call, Entry, Event, State, Terms, Told, act, refusal, run, serve, soonest, start, step, tell, told, unless}
use Rattle.dispatcher.specs.declared.call.Call.TheVariants.{Ask, Begin, Dispatch, Name, Open, Post, Turn, Warn}
use Rattle.dispatcher.specs.History.{History, gives_out, is_post}
use Rattle.dispatcher.proofs.Places.{count_append, count_cons}

-- what an event adds to a count
abbrev one : {M : Type 0} → (Event M → Bool) → Event M → ℕ
one f v = cond (f v) 1 0

pub record Tallied {M : Type 0} (s : State M) (h : History M) : Type 0 where
  pub accepted : s.accepted ≡ count_by is_post h
  pub dispatched : s.dispatched ≡ count_by gives_out h

-- a step raises each count by what its event adds
record Raises {M : Type 0} (s : State M) (x : Event M × State M) : Type 0 where
  accepted : x.1.accepted ≡ s.accepted + one is_post x.0
  dispatched : x.1.dispatched ≡ s.dispatched + one gives_out x.0

module _ {M : Type 0} (b : Terms M) where
  same_counts : (n : ℕ) → n ≡ n + 0
  same_counts n = omega arith

  acted : (s : State M) (c : Call M) → Raises s (act b s c)
  acted s (Open z r) = record { accepted = same_counts s.accepted; dispatched = same_counts s.dispatched }
  acted s (Post m) = record { accepted = refl; dispatched = same_counts s.dispatched }
  acted s Dispatch = go (soonest s.pending)
    where
      go : (o : Option (Entry M)) → Raises s (serve s o)
      go None = record { accepted = same_counts s.accepted; dispatched = same_counts s.dispatched }
      go (Some e) = record { accepted = same_counts s.accepted; dispatched = refl }
  acted s (Turn t) = record { accepted = same_counts s.accepted; dispatched = same_counts s.dispatched }
  acted s Name = go s.waiting
    where
      go : (es : List (Entry M)) → Raises s (tell s es)
      go [] = record { accepted = same_counts s.accepted; dispatched = same_counts s.dispatched }
      go (e ∷ es) = record { accepted = same_counts s.accepted; dispatched = same_counts s.dispatched }
  acted s (Warn c) = record { accepted = same_counts s.accepted; dispatched = same_counts s.dispatched }
  acted s Begin = record { accepted = same_counts s.accepted; dispatched = same_counts s.dispatched }
  acted s Ask = record { accepted = same_counts s.accepted; dispatched = same_counts s.dispatched }

  stepped : (s : State M) (c : Call M) → Raises s (step b s c)
  stepped s c = go (refusal b s c)
    where
      go : (o : Option Refusal) → Raises s (unless b s c o)
      go (Some k) = record { accepted = same_counts s.accepted; dispatched = same_counts s.dispatched }
      go None = acted s c

  count_push : (f : Event M → Bool) (h : History M) (v : Event M) → count_by f (h ++ v ∷ []) ≡ count_by f h + one f v
  count_push f h v = let a = count_append f h (v ∷ []) in let c = count_cons f v [] in omega arith

  tallied_from : (r : Told M) (calls : List (Call M)) → Tallied r.state r.history → (let r' = fold (λ r c. told r (step b r.state c)) r calls in Tallied r'.state r'.history)
  tallied_from r [] t = t
  tallied_from r (c ∷ calls) t =
      let x = step b r.state c in
      let a = stepped r.state c in
      tallied_from (told r x) calls (record { accepted = a.accepted ∙ ap (λ n. n + one is_post x.0) t.accepted ∙ sym (count_push is_post r.history x.0); dispatched = a.dispatched ∙ ap (λ n. n + one gives_out x.0) t.dispatched ∙ sym (count_push gives_out r.history x.0) })

  pub tallied : (calls : List (Call M)) → Tallied (run b calls).state (run b calls).history
  tallied calls = tallied_from (record { state = start; history = [] }) calls (record { accepted = refl; dispatched = refl })

-- From the laws of the machine to those of the dispatcher that shows it.
use Rattle.std.proofs.Common.{◌≡◌, ℕ, ◌+◌, ◌<◌, ◌≤◌, true, false, List, [], ◌∷◌, ◌++◌, map, length, Some, sym, refl, ap, ◌∙◌, subst, inl, inr, ⊎_elim, arith, take}
use Rattle.std.specs.List.{slice_get}
use Rattle.std.proofs.lemmas.List.Sums.{fold_push}
use Rattle.std.proofs.lemmas.List.{length-map, length_push, take_all, take-append-le}
use Rattle.std.proofs.lemmas.Bool.{cases_Bool, cases_lt}
use Rattle.banks.specs.declared.bank.Trays
use Rattle.messages.specs.declared.message.Message
use Rattle.messages.specs.declared.message.Timed
use Rattle.dispatcher.specs.declared.dispatcher.Dispatcher.{Dispatcher}
use Rattle.banks.specs.declared.cell.Cell.{Cell}
use Rattle.dispatcher.specs.declared.event.Event.TheVariants.{Posted}
use Rattle.dispatcher.specs.History.{History, dispatches, namings}
use Rattle.dispatcher.specs.Machine.{Call, Entry, Event, State, Terms, Told, call_of, run, start, step, told}
use Rattle.dispatcher.specs.Shown.{Shows}
use Rattle.dispatcher.specs.Steps.{Simulates}
use Rattle.dispatcher.specs.Theorems.{WarningsLeast}
use Rattle.dispatcher.specs.Views.{View, view}
use Rattle.dispatcher.specs.WholeRuns.{Accounted, Accounts, AccountsNext, CarriesOn, LawfulCall, Led, Obeyed, Obeys, lying_in}
use Rattle.dispatcher.proofs.Calls.{is_of_calls}
use Rattle.dispatcher.proofs.Lying.{trays_lying}
use Rattle.dispatcher.proofs.Once.{each_once}
use Rattle.dispatcher.proofs.Placed.{in_its_tray}
use Rattle.dispatcher.proofs.Tallies.{tallied}
use Rattle.dispatcher.proofs.Warned.{warnings_least, warnings_right}
use Rattle.dispatcher.proofs.Whole.{known, late_is_least}

module _ {M : Type 0} (b : Terms M) where
  run_push : (cs : List (Call M)) (c : Call M) → run b (cs ++ c ∷ []) ≡ told (run b cs) (step b (run b cs).state c)
  run_push cs c = fold_push (λ r c. told r (step b r.state c)) (record { state = start; history = [] }) cs c

  pub follows_more : (v w : View M) (cs : List (Call M)) (h : History M) (c : Call M) (a : Event M) → Led b v cs h → Simulates v w c a → Led b w (cs ++ c ∷ []) (h ++ a ∷ [])
  follows_more v w cs h c a f k =
      let s = k b (run b cs).state f.shows in
      record {
        answered = ap (λ (r : Told M). r.history) (run_push cs c) ∙ ap (λ e. (run b cs).history ++ e ∷ []) s.0 ∙ ap (λ x. x ++ a ∷ []) f.answered;
        shows = subst (λ (r : Told M). Shows b w r.state) (sym (run_push cs c)) s.1;
      }

  -- where it is shut, nothing was posted
  none_posted : (v : View M) (calls : List (Call M)) → Shows b v (run b calls).state → v.is_open ≡ false → (p : ℕ) (e : Entry M) → slice_get (run b calls).history p ≡ Some (Posted e) → ⊥
  none_posted v calls s o p e m =
      let z = (known b calls).sound.shut (ap (λ (x : State M). x.is_open) s.numbers ∙ o) p (Posted e) m in omega arith

  once : (v : View M) (calls : List (Call M)) → Shows b v (run b calls).state → (p : ℕ) (e : Entry M) → slice_get (run b calls).history p ≡ Some (Posted e) → dispatches (run b calls).history e.receipt + namings (run b calls).history e.receipt + lying_in v.trays e.receipt ≡ 1
  once v calls s p e m =
      ⊎_elim
      (λ (o : v.is_open ≡ true).
      let a = (each_once b calls).exactly_once p e m in
      let l = trays_lying (s.agrees.running o) e.receipt in omega arith)
      (λ (o : v.is_open ≡ false). absurd (none_posted v calls s o p e m))
      (cases_Bool v.is_open)

  obeys : (v : View M) (calls : List (Call M)) → Shows b v (run b calls).state → Obeys (run b calls).history v.late v.trays
  obeys v calls s =
      let l = late_is_least b calls in
      let e = each_once b calls in
      let late : (run b calls).state.late ≡ v.late = ap (λ (x : State M). x.late) s.numbers in
      record {
        own_is_order = l.own_is_order;
        own_late = sym late ∙ l.own_late;
        least = λ o g. let k = l.least o g in omega arith;
        warnings = warnings_right b calls;
        receipts_apart = e.receipts_apart;
        exactly_once = once v calls s;
        dispatched_in_time = e.dispatched_in_time;
        named_after_turn = e.named_after_turn;
      }

  pub follows_obeys : (v : View M) (calls : List (Call M)) (h : History M) → Led b v calls h → Obeys h v.late v.trays
  follows_obeys v calls h f = subst (λ x. Obeys x v.late v.trays) f.answered (obeys v calls f.shows)

  accounts : (v : View M) (calls : List (Call M)) → Shows b v (run b calls).state → Accounts (run b calls).history v
  accounts v calls s =
      record {
        warnings_least = subst (λ n. WarningsLeast n (run b calls).history) s.agrees.span (warnings_least b calls);
        in_its_tray = λ o. in_its_tray b calls v.trays v.span v.cycle v.next (s.agrees.running o);
        accepted = ap (λ (x : State M). x.accepted) (sym s.numbers) ∙ (tallied b calls).accepted;
        dispatched = ap (λ (x : State M). x.dispatched) (sym s.numbers) ∙ (tallied b calls).dispatched;
      }

  pub follows_accounts : (v : View M) (calls : List (Call M)) (h : History M) → Led b v calls h → Accounts h v
  follows_accounts v calls h f = subst (λ x. Accounts x v) f.answered (accounts v calls f.shows)

  pub follows_calls : (v : View M) (calls : List (Call M)) (h : History M) → Led b v calls h → map call_of h ≡ calls
  follows_calls v calls h f = ap (map call_of) (sym f.answered) ∙ (is_of_calls b calls).same_calls

-- every call so far left a dispatcher that obeyed
abbrev pub ObeyedTo : {M : Type 0} → History M → Type 0
ObeyedTo h = (k : ℕ) → k ≤ length h → Obeyed h k

module _ {M : Type 0} where
  now_obeyed : (h : History M) (late : ℕ) (ts : List (List (Cell M))) (k : ℕ) → length h ≤ k → Obeys h late ts → Obeyed h k
  now_obeyed h late ts k l o =
      record { late = late; trays = ts; law = subst (λ x. Obeys x late ts) (sym (take_all k h l)) o }

  pub obeyed_none : (late : ℕ) (ts : List (List (Cell M))) → Obeys [] late ts → ObeyedTo {M = M} []
  obeyed_none late ts o k l = now_obeyed [] late ts k (omega arith) o

  pub obeyed_more : (h : History M) (a : Event M) (late : ℕ) (ts : List (List (Cell M))) → ObeyedTo h → Obeys (h ++ a ∷ []) late ts → ObeyedTo (h ++ a ∷ [])
  obeyed_more h a late ts old o k l =
      ⊎_elim
      (λ (less : k ≤ length h).
      let x = old k less in
      record { late = x.late; trays = x.trays; law = subst (λ y. Obeys y x.late x.trays) (sym (take-append-le k h (a ∷ []) less)) x.law })
      (λ (more : length h < k). let n = length_push h a in now_obeyed (h ++ a ∷ []) late ts k (omega arith) o)
      (⊎_elim (λ (x : length h < k). inr x) (λ (x : k ≤ length h). inl x) (cases_lt (length h) k))

-- both at once
pub record Both {M : Type 0} (b : Terms M) (v : View M) (calls : List (Call M)) (h : History M) : Type 0 where
  pub follows : Led b v calls h
  pub obeyed : ObeyedTo h

module _ {M : Type 0} (b : Terms M) where
  pub both_none : (v : View M) (h : History M) → Shows b v start → h ≡ [] → Both b v [] h
  both_none v h s e =
      let f : Led b v [] [] = record { answered = refl; shows = s } in
      subst (Both b v []) (sym e) (record { follows = f; obeyed = obeyed_none v.late v.trays (follows_obeys b v [] [] f) })

  pub both_more : (v w : View M) (cs : List (Call M)) (h : History M) (c : Call M) (a : Event M) → Both b v cs h → Simulates v w c a → Both b w (cs ++ c ∷ []) (h ++ a ∷ [])
  both_more v w cs h c a x k =
      let f = follows_more b v w cs h c a x.follows k in
      record { follows = f; obeyed = obeyed_more h a w.late w.trays x.obeyed (follows_obeys b w (cs ++ c ∷ []) (h ++ a ∷ []) f) }

  pub both_length : (v : View M) (cs : List (Call M)) (h : History M) → Both b v cs h → length h ≡ length cs
  both_length v cs h x = sym (length-map h call_of) ∙ ap length (follows_calls b v cs h x.follows)

module _ {B M : Type 0} {t : Trays.Ghosts B M} {m : Message.Ghosts M} {i : Timed.Ghosts M} (b : Terms M) where
  -- the calls so far led to the dispatcher d, and every one of them to a dispatcher with which all was accounted for
  pub record Ran (d : Dispatcher B M t m i) (calls : List (Call M)) (h : History M) : Type 0 where
    pub both : Both b (view d) calls h
    pub accounted : (k : ℕ) → k ≤ length calls → Accounted t m i b calls h k

  -- where all calls are among the first k
  accounted_now : (d : Dispatcher B M t m i) (cs : List (Call M)) (h : History M) (k : ℕ) → length cs ≤ k → Both b (view d) cs h → Accounted t m i b cs h k
  accounted_now d cs h k l x =
      let v = view d in
      let f = x.follows in
      let n = both_length b v cs h x in
      let e = sym (take_all k cs l) in
      let g = sym (take_all k h (omega arith)) in
      record {
        dispatcher = d;
        led = subst (λ y. Led b v y (take k h)) e (subst (Led b v cs) g f);
        law = subst (λ y. Obeys y v.late v.trays) g (follows_obeys b v cs h f);
        accounts = subst (λ y. Accounts y v) g (follows_accounts b v cs h f);
      }

  -- what the first k calls led to, where more have come since
  accounted_still : (cs : List (Call M)) (h : History M) (c : Call M) (a : Event M) (k : ℕ) → k ≤ length cs → k ≤ length h → Accounted t m i b cs h k → Accounted t m i b (cs ++ c ∷ []) (h ++ a ∷ []) k
  accounted_still cs h c a k l n x =
      let d = x.dispatcher in
      let v = view d in
      let e = sym (take-append-le k cs (c ∷ []) l) in
      let g = sym (take-append-le k h (a ∷ []) n) in
      record {
        dispatcher = d;
        led = subst (λ y. Led b v y (take k (h ++ a ∷ []))) e (subst (Led b v (take k cs)) g x.led);
        law = subst (λ y. Obeys y v.late v.trays) g x.law;
        accounts = subst (λ y. Accounts y v) g x.accounts;
      }

  pub ran_none : (d : Dispatcher B M t m i) (h : History M) → Shows b (view d) start → h ≡ [] → Ran d [] h
  ran_none d h s e =
      let x = both_none b (view d) h s e in
      record { both = x; accounted = λ k l. accounted_now d [] h k (omega arith) x }

  pub ran_more : (d d' : Dispatcher B M t m i) (cs : List (Call M)) (h : History M) (c : Call M) (a : Event M) → Ran d cs h → Simulates (view d) (view d') c a → Ran d' (cs ++ c ∷ []) (h ++ a ∷ [])
  ran_more d d' cs h c a x k =
      let y = both_more b (view d) (view d') cs h c a x.both k in
      let n = both_length b (view d) cs h x.both in
      let p = length_push cs c in
      record {
        both = y;
        accounted = λ j l.
            ⊎_elim
            (λ (less : j < length cs + 1). accounted_still cs h c a j (omega arith) (omega arith) (x.accounted j (omega arith)))
            (λ (more : length cs + 1 ≤ j). accounted_now d' (cs ++ c ∷ []) (h ++ a ∷ []) j (omega arith) y)
            (cases_lt j (length cs + 1));
      }

-- what goes as the machine goes carries the law on
pub carries_on : {M : Type 0} (v w : View M) (c : Call M) (a : Event M) → Simulates v w c a → CarriesOn v w c a
carries_on v w c a k b cs h f =
    let g = follows_more b v w cs h c a f k in (g, follows_obeys b w (cs ++ c ∷ []) (h ++ a ∷ []) g)

pub accounts_on : {M : Type 0} (v w : View M) (c : Call M) (a : Event M) → Simulates v w c a → AccountsNext v w c a
accounts_on v w c a k b cs h f = follows_accounts b w (cs ++ c ∷ []) (h ++ a ∷ []) (follows_more b v w cs h c a f k)

pub lawful : {B M : Type 0} {t : Trays.Ghosts B M} {m : Message.Ghosts M} {i : Timed.Ghosts M} (before after : Dispatcher B M t m i) (c : Call M) (a : Event M) → Simulates (view before) (view after) c a → LawfulCall before after c a
lawful before after c a k =
    record { steps = k; law = carries_on (view before) (view after) c a k; account = accounts_on (view before) (view after) c a k }

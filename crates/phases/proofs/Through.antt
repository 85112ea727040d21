-- Calls through the phases of one cycle, one after another.
use Rattle.std.proofs.Common.{◌≡◌, ℕ, ◌+◌, min, Bool, true, false, cond, List, [], ◌∷◌, ◌++◌, Some, None, Ok, Err, count_by, Option, Result, sym, refl, ap, ◌∙◌, subst, append_assoc, append-nil, arith}
use Rattle.std.proofs.lemmas.List.Sums.{sum_by-append, sum_by_push}
use Rattle.messages.specs.declared.refusal.Refusal.{Refusal}
use Rattle.banks.specs.declared.bank.Trays
use Rattle.messages.specs.declared.message.Message
use Rattle.messages.specs.declared.message.Timed
use Rattle.dispatcher.specs.declared.call.Call.{Call}
use Rattle.dispatcher.specs.declared.call.Call.TheVariants.{Dispatch, Name, Post, Warn}
use Rattle.dispatcher.specs.declared.dispatcher.Dispatcher.{Dispatcher}
use Rattle.dispatcher.specs.declared.entry.Entry.{Entry}
use Rattle.dispatcher.specs.declared.event.Event.{Event}
use Rattle.dispatcher.specs.declared.event.Event.TheVariants.{Dispatched}
use Rattle.dispatcher.specs.Answers.{answered}
use Rattle.dispatcher.specs.History.{History, gives_out}
use Rattle.dispatcher.specs.Machine.{State, Terms, act, run, serve, soonest, step, tell, unless}
use Rattle.dispatcher.specs.Shown.{Shows}
use Rattle.dispatcher.specs.Steps.{Fails, Simulates}
use Rattle.dispatcher.specs.Views.{View, view}
use Rattle.dispatcher.specs.WholeRuns.{Led}
use Rattle.dispatcher.proofs.RealRuns.{follows_accounts, follows_obeys}
use Rattle.phases.specs.Calls.{Called, counted, one_more}
use Rattle.phases.specs.Rounds.{CallsThrough, LedOn, Stays, given_out}

-- a call that leaves the cycle as it is
abbrev pub KeepsCycle : {M : Type 0} → Call M → Type 0
KeepsCycle {M} c = (b : Terms M) (m : State M) → (step b m c).1.cycle ≡ m.cycle

module _ {M : Type 0} where
  -- since a refused call changes nothing
  keeps : (c : Call M) → ((b : Terms M) (m : State M) → (act b m c).1.cycle ≡ m.cycle) → KeepsCycle c
  keeps c k b m = go _
    where
      go : (o : Option Refusal) → (unless b m c o).1.cycle ≡ m.cycle
      go (Some r) = refl
      go None = k b m

  pub keeps_name : KeepsCycle {M = M} Name
  keeps_name = keeps Name (λ b m. tells m m.waiting)
    where
      tells : (m : State M) (es : List (Entry M)) → (tell m es).1.cycle ≡ m.cycle
      tells m [] = refl
      tells m (e ∷ es) = refl

  pub keeps_post : (x : M) → KeepsCycle (Post x)
  keeps_post x = keeps (Post x) (λ b m. refl)

  pub keeps_warn : (n : ℕ) → KeepsCycle {M = M} (Warn n)
  keeps_warn n = keeps (Warn n) (λ b m. refl)

  pub keeps_dispatch : KeepsCycle {M = M} Dispatch
  keeps_dispatch = keeps Dispatch (λ b m. serves m (soonest m.pending))
    where
      serves : (m : State M) (o : Option (Entry M)) → (serve m o).1.cycle ≡ m.cycle
      serves m None = refl
      serves m (Some e) = refl

  pub shown_cycle : (b : Terms M) (v : View M) (m : State M) → Shows b v m → m.cycle ≡ v.cycle
  shown_cycle b v m s = ap (λ (x : State M). x.cycle) s.numbers

  stays_in_cycle : (b : Terms M) (v w : View M) (m : State M) (c : Call M) (a : Event M) → KeepsCycle c → Shows b v m → Simulates v w c a → w.cycle ≡ v.cycle
  stays_in_cycle b v w m c a k s g =
      sym (shown_cycle b w (step b m c).1 (g b m s).1) ∙ k b m ∙ shown_cycle b v m s

  abbrev pub led_on : (b : Terms M) (w : View M) (calls : List (Call M)) (h more : History M) → Led b w calls (h ++ more) → LedOn b w calls h
  led_on b w calls h more l = record { more = more; led = l; law = follows_obeys b w calls (h ++ more) l; account = follows_accounts b w calls (h ++ more) l }

pub same_cycle : {B M : Type 0} {bg : Trays.Ghosts B M} {mg : Message.Ghosts M} {ig : Timed.Ghosts M} {u v : Dispatcher B M bg mg ig} → u ≡ v → (view u).cycle ≡ (view v).cycle
same_cycle {B} {M} {bg} {mg} {ig} e = ap (λ (d : Dispatcher B M bg mg ig). (view d).cycle) e

-- a count after an event
abbrev pub told_count : {M : Type 0} → ℕ → Event M → ℕ
told_count n a = cond (gives_out a) (one_more n) n

-- a call that gives nothing out counts nothing
pub quiet : {M X : Type 0} (n : ℕ) (c : Call M) (accepted : X → Event M) (r : Result X Refusal) → ((x : X) → gives_out (accepted x) ≡ false) → told_count n (answered c accepted r) ≡ n
quiet n c accepted (Ok x) q = ap (λ t. cond t (one_more n) n) (q x)
quiet n c accepted (Err k) q = refl

pub dispatch_count : {M : Type 0} (n : ℕ) (r : Result (Option (Entry M)) Refusal) → counted n r ≡ told_count n (answered Dispatch (λ x. Dispatched x) r)
dispatch_count n (Ok None) = refl
dispatch_count n (Ok (Some e)) = refl
dispatch_count n (Err k) = refl

min_one_more : (x n : ℕ) → n ≡ min x 4000000000 → one_more n ≡ min (x + 1) 4000000000
min_one_more x n e = omega arith

pub count_more : {M : Type 0} (h : History M) (a : Event M) (n : ℕ) → n ≡ given_out h → told_count n a ≡ given_out (h ++ a ∷ [])
count_more h a n e = go (gives_out a) refl
  where
    push : (t : Bool) → gives_out a ≡ t → count_by gives_out (h ++ a ∷ []) ≡ count_by gives_out h + cond t 1 0
    push t f = sum_by_push (λ x. cond (gives_out x) 1 0) h a ∙ ap (λ t. count_by gives_out h + cond t 1 0) f

    go : (t : Bool) → gives_out a ≡ t → cond t (one_more n) n ≡ given_out (h ++ a ∷ [])
    go true f = min_one_more (count_by gives_out h) n e ∙ ap (λ k. min k 4000000000) (sym (push true f))
    go false f = let p = push false f in e ∙ ap (λ k. min k 4000000000) (omega arith)

count_join : {M : Type 0} (h k : History M) (n : ℕ) → 0 ≡ given_out h → n ≡ given_out k → n ≡ given_out (h ++ k)
count_join h k n z e =
    let j = sum_by-append (λ x. cond (gives_out x) 1 0) h k in
    let none : count_by gives_out h ≡ 0 = omega arith in
    e ∙ ap (λ x. min x 4000000000) (omega arith)

module _ {B M : Type 0} {bg : Trays.Ghosts B M} {mg : Message.Ghosts M} {ig : Timed.Ghosts M} where
  pub none_through : {z n : ℕ} {d : Dispatcher B M bg mg ig} → n ≡ 0 → CallsThrough z n d d []
  none_through {d = d} zero-given =
      record {
        another_cycle = λ _. (refl, zero-given);
        in_cycle = λ e b calls h l.
            record {
              on = led_on b (view d) (calls ++ []) h [] (subst (λ cs. Led b (view d) cs (h ++ [])) (sym (append-nil calls)) (subst (Led b (view d) calls) (sym (append-nil h)) l));
              cycle = e;
              count = zero-given;
            };
      }

  failed : {X : Type 0} {v w : Dispatcher B M bg mg ig} {z : ℕ} {c : Call M} {accepted : X → Event M} {r : Result X Refusal} (n : ℕ) → Called z v w c accepted r → ((view v).cycle ≡ z → ⊥) → (w ≡ v) × (told_count n (answered c accepted r) ≡ n)
  failed {c = c} {accepted = accepted} n k f =
      let e = k.another_cycle f in
      (k.same (subst Fails (sym e) tt), ap (λ r. told_count n (answered c accepted r)) e)

  -- one call more
  pub one_through : {X : Type 0} {z n n' : ℕ} {u v w : Dispatcher B M bg mg ig} {made : List (Call M)} {c : Call M} {accepted : X → Event M} {r : Result X Refusal} → KeepsCycle c → CallsThrough z n u v made → Called z v w c accepted r → n' ≡ told_count n (answered c accepted r) → CallsThrough z n' u w (made ++ c ∷ [])
  one_through {n = n} {v = v} {w = w} {made = made} {c = c} {accepted = accepted} {r = r} keeps t k count =
      record {
        another_cycle = λ f.
            let o = t.another_cycle f in
            let x = failed n k (λ e. f (same_cycle (sym o.0) ∙ e)) in
            (x.0 ∙ o.0, count ∙ x.1 ∙ o.1);
        in_cycle = λ e b calls h l.
            let s = t.in_cycle e b calls h l in
            let a = answered c accepted r in
            let more = s.on.more in
            let y = (k.own_call s.cycle).law b (calls ++ made) (h ++ more) s.on.led in
            record {
              on = led_on b (view w) (calls ++ (made ++ c ∷ [])) h (more ++ a ∷ []) (subst (λ cs. Led b (view w) cs (h ++ (more ++ a ∷ []))) (append_assoc calls made (c ∷ [])) (subst (Led b (view w) ((calls ++ made) ++ c ∷ [])) (append_assoc h more (a ∷ [])) y.0));
              cycle = stays_in_cycle b (view v) (view w) (run b (calls ++ made)).state c a keeps s.on.led.shows (k.own_call s.cycle).steps ∙ s.cycle;
              count = count ∙ count_more more a n s.count;
            };
      }

  -- one that gives nothing out
  pub one_quiet : {X : Type 0} {z : ℕ} {u v w : Dispatcher B M bg mg ig} {made : List (Call M)} {c : Call M} {accepted : X → Event M} {r : Result X Refusal} → KeepsCycle c → ((x : X) → gives_out (accepted x) ≡ false) → CallsThrough z 0 u v made → Called z v w c accepted r → CallsThrough z 0 u w (made ++ c ∷ [])
  one_quiet {c = c} {accepted = accepted} {r = r} keeps q t k = one_through keeps t k (sym (quiet 0 c accepted r q))

  -- after calls that gave nothing out
  pub stays_on : {z n : ℕ} {v w : Dispatcher B M bg mg ig} {next : List (Call M)} {b : Terms M} {calls : List (Call M)} {h : History M} → Stays b (view v) calls h z 0 → CallsThrough z n v w next → Stays b (view w) (calls ++ next) h z n
  stays_on {n = n} {w = w} {next = next} {b = b} {calls = calls} {h = h} s k =
      let x = k.in_cycle s.cycle b calls (h ++ s.on.more) s.on.led in
      let more = s.on.more ++ x.on.more in
      record {
        on = led_on b (view w) (calls ++ next) h more (subst (Led b (view w) (calls ++ next)) (append_assoc h s.on.more x.on.more) x.on.led);
        cycle = x.cycle;
        count = count_join s.on.more x.on.more n s.count x.count;
      }

  pub join_through : {z n : ℕ} {u v w : Dispatcher B M bg mg ig} {made next : List (Call M)} → CallsThrough z 0 u v made → CallsThrough z n v w next → CallsThrough z n u w (made ++ next)
  join_through {z = z} {n = n} {w = w} {made = made} {next = next} t k =
      record {
        another_cycle = λ f.
            let o = t.another_cycle f in
            let x = k.another_cycle (λ e. f (same_cycle (sym o.0) ∙ e)) in (x.0 ∙ o.0, x.1);
        in_cycle = λ e b calls h l.
            subst (λ cs. Stays b (view w) cs h z n) (append_assoc calls made next) (stays_on (t.in_cycle e b calls h l) k);
      }

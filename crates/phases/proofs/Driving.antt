-- One round driven through the phases.
use Rattle.std.proofs.Common.{◌≡◌, ℕ, ◌+◌, Bool, true, false, not, eqb, ltb, List, [], ◌∷◌, ◌++◌, map, length, replicate, Some, None, Ok, Err, Option, sym, refl, ap, ◌∙◌, subst, append_assoc, arith}
use Rattle.std.proofs.lemmas.Bool.{cond-false, cond-true, eq-eqb, eqb-true, ne_eqb, not-false}
use Rattle.std.proofs.lemmas.Option.{none-some}
use Rattle.messages.specs.declared.refusal.Refusal.{Refusal}
use Rattle.messages.specs.declared.refusal.Refusal.TheVariants.{CyclesUsedUp, LateWaiting, NotNextCycle, OutOfPhase, Shut}
use Rattle.banks.specs.declared.bank.Trays
use Rattle.messages.specs.declared.message.Message
use Rattle.messages.specs.declared.message.Timed
use Rattle.dispatcher.specs.declared.call.Call.{Call}
use Rattle.dispatcher.specs.declared.call.Call.TheVariants.{Ask, Dispatch, Name, Post, Turn, Warn}
use Rattle.dispatcher.specs.declared.dispatcher.Dispatcher.{Dispatcher}
use Rattle.dispatcher.specs.declared.entry.Figures.{Figures}
use Rattle.dispatcher.specs.declared.event.Event.{Event}
use Rattle.dispatcher.specs.declared.event.Event.TheVariants.{Asked, Refused as Refused-call, Turned}
use Rattle.dispatcher.specs.History.{History}
use Rattle.dispatcher.specs.Machine.{State, Terms, first_of, is_empty, limit, run, step, unless}
use Rattle.dispatcher.specs.Steps.{Steps}
use Rattle.dispatcher.specs.Views.{view}
use Rattle.dispatcher.specs.WholeRuns.{LawfulCall, Led}
use Rattle.phases.specs.Calls.{LeavesReport, Turns, left_report, why_not_left}
use Rattle.phases.specs.Rounds.{CallsThrough, DrivesRound, LedOn, Stays, after_names, keeps_in_report}
use Rattle.phases.specs.declared.phase.Detect.{Detect}
use Rattle.phases.specs.declared.phase.NextCycle.{NextCycle}
use Rattle.phases.specs.declared.phase.Output.{Output}
use Rattle.phases.specs.declared.phase.Report.{Report}
use Rattle.phases.specs.declared.refused.Refused.{Refused}
use Rattle.phases.specs.declared.round.Round.{Round}
use Rattle.phases.specs.declared.stop.Held.TheVariants.{InOutput, InReport}
use Rattle.phases.proofs.Results.{ok_not_err, same_err}
use Rattle.phases.proofs.Leaving.{asked_waiting}
use Rattle.phases.proofs.Through.{count_more, led_on, same_cycle, shown_cycle, stays_on}

-- what the answer of leaving a report phase tells
left_ok : (p : Report) (o : Option Refusal) (d : Detect) → Ok d ≡ left_report p o → (o ≡ None) × (d.cycle ≡ p.cycle)
left_ok p None d e = let h : d ≡ record { cycle = p.cycle } = cc in (refl, ap (λ (x : Detect). x.cycle) h)
left_ok p (Some k) d e = absurd (ok_not_err d _ e)

left_err : (p : Report) (o : Option Refusal) (x : Refused Report) → Err x ≡ left_report p o → (o ≡ Some x.refusal) × (x.phase ≡ p)
left_err p None x e = absurd (ok_not_err (record { cycle = p.cycle }) x (sym e))
left_err p (Some k) x e =
    let h : x ≡ record { phase = p; refusal = k } = same_err x _ e in
    (ap (λ (y : Refused Report). Some y.refusal) (sym h), ap (λ (y : Refused Report). y.phase) h)

refused_not_turned : {M : Type 0} (e : Event M) (c : Call M) (k : Refusal) (t n : ℕ) → e ≡ Refused-call c k → e ≡ Turned t n → ⊥
refused_not_turned e c k t n p q = let z : ◌≡◌ {A = ℕ} 0 1 = cc in omega arith

-- an accepted turn was told the next cycle, and leads there
turn_accepted : {M : Type 0} (b : Terms M) (m : State M) (t n : ℕ) → (step b m (Turn t)).0 ≡ Turned t n → (t ≡ m.cycle + 1) × ((step b m (Turn t)).1.cycle ≡ t)
turn_accepted {M} b m t n q =
    go (not m.is_open) (not (is_empty m.waiting)) (not (eqb t (m.cycle + 1))) (ltb limit (m.cycle + 1)) refl q
  where
    go : (a c d e : Bool) → not (eqb t (m.cycle + 1)) ≡ d → (unless b m (Turn t) (first_of ((a, Shut) ∷ (c, LateWaiting) ∷ (d, NotNextCycle) ∷ (e, CyclesUsedUp) ∷ []))).0 ≡ Turned t n → (t ≡ m.cycle + 1) × ((unless b m (Turn t) (first_of ((a, Shut) ∷ (c, LateWaiting) ∷ (d, NotNextCycle) ∷ (e, CyclesUsedUp) ∷ []))).1.cycle ≡ t)
    go true c d e f q = absurd (refused_not_turned _ _ _ t n refl q)
    go false true d e f q = absurd (refused_not_turned _ _ _ t n refl q)
    go false false true e f q = absurd (refused_not_turned _ _ _ t n refl q)
    go false false false true f q = absurd (refused_not_turned _ _ _ t n refl q)
    go false false false false f q = (eqb-true t (m.cycle + 1) (not-false _ f), refl)

-- these calls, and then those of a round but for its turn
abbrev pub after_work : {M : Type 0} → Terms M → List (Call M) → Round M → List (Call M)
after_work b calls round =
    (after_names b calls ++ map Post round.messages.now) ++ Warn round.services ∷ replicate round.dispatches Dispatch

module _ {B M : Type 0} {bg : Trays.Ghosts B M} {mg : Message.Ghosts M} {ig : Timed.Ghosts M} where
  -- asked how many wait, and named these
  pub record NamedAll (p : Report) (start named : Dispatcher B M bg mg ig) : Type 0 where
    pub figures : Figures
    pub asked : Dispatcher B M bg mg ig
    pub ask : Steps start asked Ask (Asked figures)
    pub same : asked ≡ start
    pub names : CallsThrough p.cycle 0 asked named (replicate figures.waiting Name)

  pub named_all : {p : Report} {start asked named : Dispatcher B M bg mg ig} {f : Figures} → LawfulCall start asked Ask (Asked f) → asked ≡ start → CallsThrough p.cycle 0 asked named (replicate f.waiting Name) → NamedAll p start named
  named_all {asked = asked} {f = f} l e names = record { figures = f; asked = asked; ask = l.steps; same = e; names = names }

  -- the report phase p was left, and the work of the round done; only its turn is still to come
  pub record WorkDone (p : Report) (start worked : Dispatcher B M bg mg ig) (round : Round M) (output : Output) : Type 0 where
    pub in_phase : ((view start).cycle ≡ p.cycle → ⊥) → ⊥
    pub stays : (view start).cycle ≡ p.cycle → (b : Terms M) (calls : List (Call M)) (h : History M) → Led b (view start) calls h → Stays b (view worked) (after_work b calls round) h p.cycle output.dispatched
    pub same_phase : output.cycle ≡ p.cycle

  module _ {p : Report} {start named : Dispatcher B M bg mg ig} (n : NamedAll p start named) where
    after_naming : (view start).cycle ≡ p.cycle → (b : Terms M) (calls : List (Call M)) (h : History M) → Led b (view start) calls h → Stays b (view named) (after_names b calls) h p.cycle 0
    after_naming e b calls h l =
        let m = (run b calls).state in
        let k : n.figures.waiting ≡ length m.waiting = sym (asked_waiting b m n.figures (n.ask b m l.shows).0) in
        subst (λ k. Stays b (view named) (calls ++ replicate k Name) h p.cycle 0) k (n.names.in_cycle (same_cycle n.same ∙ e) b calls h (subst (λ d. Led b (view d) calls h) (sym n.same) l))

    unmoved : ((view start).cycle ≡ p.cycle → ⊥) → named ≡ start
    unmoved f = (n.names.another_cycle (λ e. f (same_cycle (sym n.same) ∙ e))).0 ∙ n.same

    out_of : (w : Bool) → ((view start).cycle ≡ p.cycle → ⊥) → why_not_left p (view named) w ≡ Some OutOfPhase
    out_of w f =
        cond-true _ _ _ (ap not (ne_eqb (view named).cycle p.cycle (λ e. f (same_cycle (sym (unmoved f)) ∙ e))))

    -- the report phase could not be left
    pub kept_in_report : {left : Dispatcher B M bg mg ig} {round : Round M} {x : Refused Report} → LeavesReport p named left (Err x) → DrivesRound p start left round (Err (InReport x))
    kept_in_report {x = x} k =
        record {
          another_cycle = λ f. (k.same ∙ unmoved f, ap (λ y. Err (InReport y)) (same_err x _ (k.answer ∙ ap (left_report p) (out_of k.late_waits f))));
          in_cycle = λ e b calls h l.
              let s = after_naming e b calls h l in
              let m = (run b (after_names b calls)).state in
              let shows = s.on.led.shows in
              let is_open : m.is_open ≡ (view named).is_open = ap (λ (y : State M). y.is_open) shows.numbers in
              let why : why_not_left p (view named) k.late_waits ≡ keeps_in_report m =
              cond-false _ _ _ (ap not (eq-eqb (view named).cycle p.cycle s.cycle))
              ∙ ap (λ o. first_of ((not o, Shut) ∷ (k.late_waits, LateWaiting) ∷ [])) (sym is_open)
              ∙ ap (λ w. first_of ((not m.is_open, Shut) ∷ (w, LateWaiting) ∷ [])) (k.is_so b m shows) in
              let a = left_err p (keeps_in_report m) x (k.answer ∙ ap (left_report p) why) in
              record { on = subst (λ d. LedOn b (view d) (after_names b calls) h) (sym k.same) s.on; cycle = same_cycle k.same ∙ s.cycle; phase = a.1; why = a.0 };
        }

    pub work_done : {round : Round M} {detect : Detect} {left posted worked : Dispatcher B M bg mg ig} {output : Output} → LeavesReport p named left (Ok detect) → CallsThrough detect.cycle 0 left posted (map Post round.messages.now) → CallsThrough detect.cycle output.dispatched posted worked (Warn round.services ∷ replicate round.dispatches Dispatch) → output.cycle ≡ detect.cycle → WorkDone p start worked round output
    work_done {round = round} {detect = detect} {left = left} {posted = posted} {worked = worked} {output = output} k posts work same =
        let o = left_ok p _ detect k.answer in
        record {
          in_phase = λ f. none-some OutOfPhase (sym o.0 ∙ out_of k.late_waits f);
          stays = λ e b calls h l.
              let s = subst (λ d. Stays b (view d) (after_names b calls) h p.cycle 0) (sym k.same) (after_naming e b calls h l) in
              let t = stays_on s (subst (λ z. CallsThrough z 0 left posted (map Post round.messages.now)) o.1 posts) in
              stays_on t (subst (λ z. CallsThrough z output.dispatched posted worked (Warn round.services ∷ replicate round.dispatches Dispatch)) o.1 work);
          same_phase = same ∙ o.1;
        }

  -- and its turn was accepted, or refused
  pub turned_on : {p : Report} {start worked after : Dispatcher B M bg mg ig} {round : Round M} {output : Output} {next : NextCycle} → WorkDone p start worked round output → Turns output worked after round.cycle (Ok next) → DrivesRound p start after round (Ok next.report)
  turned_on {p = p} {worked = worked} {after = after} {round = round} {output = output} {next = next} w t =
      record {
        another_cycle = λ f. absurd (w.in_phase f);
        in_cycle = λ e b calls h l.
            let s = w.stays e b calls h l in
            let cs = after_work b calls round in
            let m = (run b cs).state in
            let more = s.on.more in
            let a = Turned round.cycle next.late in
            let z : (view worked).cycle ≡ output.cycle = s.cycle ∙ sym w.same_phase in
            let y = ((t.call.own_call z).law b cs (h ++ more) s.on.led).0 in
            let st = (t.call.own_call z).steps b m s.on.led.shows in
            let told = turn_accepted b m round.cycle next.late st.0 in
            let one : round.cycle ≡ p.cycle + 1 = told.0 ∙ ap (λ x. x + 1) (shown_cycle b (view worked) m s.on.led.shows ∙ s.cycle) in
            record {
              on = led_on b (view after) (cs ++ Turn round.cycle ∷ []) h (more ++ a ∷ []) (subst (Led b (view after) (cs ++ Turn round.cycle ∷ [])) (append_assoc h more (a ∷ [])) y);
              cycle = sym (shown_cycle b (view after) _ st.1) ∙ told.1 ∙ one;
              phase = t.phase ∙ one;
            };
      }

  pub kept_in_output : {p : Report} {start worked after : Dispatcher B M bg mg ig} {round : Round M} {output : Output} {x : Refused Output} → WorkDone p start worked round output → Turns output worked after round.cycle (Err x) → DrivesRound p start after round (Err (InOutput x))
  kept_in_output {worked = worked} {after = after} {round = round} {output = output} {x = x} w t =
      record {
        another_cycle = λ f. absurd (w.in_phase f);
        in_cycle = λ e b calls h l.
            let s = w.stays e b calls h l in
            let cs = after_work b calls round in
            let more = s.on.more in
            let a = Refused-call (Turn round.cycle) x.refusal in
            let z : (view worked).cycle ≡ output.cycle = s.cycle ∙ sym w.same_phase in
            let y = ((t.call.own_call z).law b cs (h ++ more) s.on.led).0 in
            record {
              on = led_on b (view after) (cs ++ Turn round.cycle ∷ []) h (more ++ a ∷ []) (subst (Led b (view after) (cs ++ Turn round.cycle ∷ [])) (append_assoc h more (a ∷ [])) y);
              cycle = same_cycle (t.call.same tt) ∙ s.cycle;
              phase = ap (λ (o : Output). o.cycle) t.phase ∙ w.same_phase;
              count = ap (λ (o : Output). o.dispatched) t.phase ∙ count_more more a output.dispatched s.count;
              front = more;
              why = refl;
            };
      }

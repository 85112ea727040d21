-- Rounds driven one after another.
use Rattle.std.proofs.Common.{◌≡◌, ℕ, ◌+◌, ◌<◌, ◌≤◌, List, [], ◌∷◌, ◌++◌, length, take, Some, Ok, Err, sym, refl, ap, ◌∙◌, subst, append_assoc, append-nil, arith}
use Rattle.std.specs.List.{slice_get}
use Rattle.std.proofs.lemmas.List.{length_push, length-take-le, take_all}
use Rattle.std.proofs.lemmas.List.Sums.{fold_push}
use Rattle.banks.specs.declared.bank.Trays
use Rattle.messages.specs.declared.message.Message
use Rattle.messages.specs.declared.message.Timed
use Rattle.dispatcher.specs.declared.call.Call.{Call}
use Rattle.dispatcher.specs.declared.dispatcher.Dispatcher.{Dispatcher}
use Rattle.dispatcher.specs.History.{History}
use Rattle.dispatcher.specs.Machine.{Terms}
use Rattle.dispatcher.specs.Views.{view}
use Rattle.dispatcher.specs.WholeRuns.{Led}
use Rattle.phases.specs.Rounds.{DrivenRound, Drives, DrivesRound, MadeAll, after_round, after_rounds, not_driven, out_of_phase}
use Rattle.phases.specs.declared.phase.Report.{Report}
use Rattle.phases.specs.declared.round.Round.{Round}
use Rattle.phases.specs.declared.stop.Held.{Held}
use Rattle.phases.proofs.Results.{ok_not_err, same_err}
use Rattle.phases.proofs.Through.{led_on, same_cycle}

none_to_make : {M : Type 0} (p q : Report) (rounds : List (Round M)) → length rounds ≤ 0 → q ≡ p → Ok q ≡ not_driven p rounds
none_to_make p q [] l e = ap (λ x. Ok x) e
none_to_make p q (r ∷ rs) l e = absurd (omega arith)

stopped_first : {M : Type 0} (p : Report) (i : ℕ) (rounds : List (Round M)) (held : Held) → i < length rounds → i ≡ 0 → held ≡ out_of_phase p → Err (record { round = i; held = held }) ≡ not_driven p rounds
stopped_first p i [] held l z e = absurd (omega arith)
stopped_first p i (r ∷ rs) held l z e =
    ap (λ n. Err (record { round = n; held = held })) z ∙ ap (λ y. Err (record { round = 0; held = y })) e

module _ {B M : Type 0} {bg : Trays.Ghosts B M} {mg : Message.Ghosts M} {ig : Timed.Ghosts M} where
  -- the first i rounds, which are `done`, were made from the report phase p, and left the report phase q
  pub record SoFar (p : Report) (start now-is : Dispatcher B M bg mg ig) (q : Report) (done : List (Round M)) (i : ℕ) : Type 0 where
    pub another_cycle : ((view start).cycle ≡ p.cycle → ⊥) → (now-is ≡ start) × (q ≡ p) × (i ≡ 0)
    pub in_cycle : (view start).cycle ≡ p.cycle → (b : Terms M) (calls : List (Call M)) (h : History M) → Led b (view start) calls h → MadeAll b (view now-is) calls h p done q

  pub none_made : {p : Report} {start : Dispatcher B M bg mg ig} → SoFar p start start p [] 0
  none_made {start = start} =
      record {
        another_cycle = λ f. (refl, refl, refl);
        in_cycle = λ e b calls h l.
            record { on = led_on b (view start) calls h [] (subst (Led b (view start) calls) (sym (append-nil h)) l); cycle = omega arith; phase = omega arith };
      }

  module _ {p : Report} {start d : Dispatcher B M bg mg ig} {q : Report} {done : List (Round M)} {i : ℕ} (s : SoFar p start d q done i) where
    still_out : ((view start).cycle ≡ p.cycle → ⊥) → (view d).cycle ≡ q.cycle → ⊥
    still_out f e =
        let o = s.another_cycle f in f (same_cycle (sym o.0) ∙ e ∙ ap (λ (x : Report). x.cycle) o.1)

    pub one_more_made : {after : Dispatcher B M bg mg ig} {round : Round M} {next : Report} → DrivesRound q d after round (Ok next) → SoFar p start after next (done ++ round ∷ []) (i + 1)
    one_more_made {after = after} {round = round} {next = next} k =
        record {
          another_cycle = λ f. absurd (ok_not_err next _ (k.another_cycle (still_out f)).1);
          in_cycle = λ e b calls h l.
              let x = s.in_cycle e b calls h l in
              let y = k.in_cycle (x.cycle ∙ sym x.phase) b (after_rounds b calls done) (h ++ x.on.more) x.on.led in
              let more = x.on.more ++ y.on.more in
              let n = length_push done round in
              let c = y.cycle in
              let c' = y.phase in
              let ph = x.phase in
              record {
                on = led_on b (view after) (after_rounds b calls (done ++ round ∷ [])) h more (subst (λ cs. Led b (view after) cs (h ++ more)) (sym (fold_push (after_round b) calls done round)) (subst (Led b (view after) (after_round b (after_rounds b calls done) round)) (append_assoc h x.on.more y.on.more) y.on.led));
                cycle = omega arith;
                phase = omega arith;
              };
        }

    pub stopped : {after : Dispatcher B M bg mg ig} {round : Round M} {rounds : List (Round M)} {held : Held} → done ≡ take i rounds → i < length rounds → slice_get rounds i ≡ Some round → DrivesRound q d after round (Err held) → Drives p start after rounds (Err (record { round = i; held = held }))
    stopped {after = after} {round = round} {rounds = rounds} {held = held} same l at k =
        record {
          another_cycle = λ f.
              let o = s.another_cycle f in
              let y = k.another_cycle (still_out f) in (
                y.0 ∙ o.0,
                stopped_first p i rounds held l o.2 (same_err held _ y.1 ∙ ap out_of_phase o.1),
              );
          in_cycle = λ e b calls h l'.
              let x = s.in_cycle e b calls h l' in
              let n : length done ≡ i = ap length same ∙ length-take-le i rounds (omega arith) in
              let z : q.cycle ≡ p.cycle + i = x.phase ∙ ap (λ n. p.cycle + n) n in
              let y = k.in_cycle (x.cycle ∙ sym x.phase) b (after_rounds b calls done) (h ++ x.on.more) x.on.led in
              record {
                earlier = x.on.more;
                round = round;
                is_round = at;
                last = subst (λ n. DrivenRound b (view after) (after_rounds b calls (take i rounds)) (h ++ x.on.more) (record { cycle = n }) round (Err held)) z (subst (λ xs. DrivenRound b (view after) (after_rounds b calls xs) (h ++ x.on.more) q round (Err held)) same y);
              };
        }

  pub all_made : {p : Report} {start after : Dispatcher B M bg mg ig} {q : Report} {rounds : List (Round M)} {i : ℕ} → length rounds ≤ i → SoFar p start after q (take i rounds) i → Drives p start after rounds (Ok q)
  all_made {p = p} {after = after} {q = q} {rounds = rounds} {i = i} l s =
      record {
        another_cycle = λ f.
            let o = s.another_cycle f in
            let z = o.2 in (o.0, none_to_make p q rounds (omega arith) o.1);
        in_cycle = λ e b calls h l'.
            subst (λ xs. MadeAll b (view after) calls h p xs q) (take_all i rounds l) (s.in_cycle e b calls h l');
      }

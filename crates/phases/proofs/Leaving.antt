-- Leaving the report phase.
use Rattle.std.proofs.Common.{◌≡◌, ℕ, not, ltb, List, [], ◌∷◌, length, Result, refl, ap, arith}
use Rattle.std.proofs.lemmas.Bool.{le-ltb, lt-ltb}
use Rattle.banks.specs.declared.bank.Trays
use Rattle.messages.specs.declared.message.Message
use Rattle.messages.specs.declared.message.Timed
use Rattle.dispatcher.specs.declared.call.Call.TheVariants.{Ask}
use Rattle.dispatcher.specs.declared.dispatcher.Dispatcher.{Dispatcher}
use Rattle.dispatcher.specs.declared.entry.Figures.{Figures}
use Rattle.dispatcher.specs.declared.event.Event.{Event}
use Rattle.dispatcher.specs.declared.event.Event.TheVariants.{Asked}
use Rattle.dispatcher.specs.Machine.{State, Terms, is_empty, step}
use Rattle.dispatcher.specs.Views.{view}
use Rattle.dispatcher.specs.WholeRuns.{LawfulCall}
use Rattle.phases.specs.Calls.{LeavesReport, left_report, why_not_left}
use Rattle.phases.specs.declared.phase.Detect.{Detect}
use Rattle.phases.specs.declared.phase.Report.{Report}
use Rattle.phases.specs.declared.refused.Refused.{Refused}

same_waiting : {M : Type 0} (e : Event M) (f g : Figures) → e ≡ Asked f → e ≡ Asked g → f.waiting ≡ g.waiting
same_waiting e f g p q = let h : f ≡ g = cc in ap (λ (x : Figures). x.waiting) h

waits : {X : Type 0} (xs : List X) (n : ℕ) → length xs ≡ n → ltb 0 n ≡ not (is_empty xs)
waits [] n e = le-ltb 0 n (omega arith)
waits (x ∷ xs) n e = lt-ltb 0 n (omega arith)

-- what asking tells of the late entries that wait
pub asked_waiting : {M : Type 0} (b : Terms M) (m : State M) (f : Figures) → (step b m Ask).0 ≡ Asked f → length m.waiting ≡ f.waiting
asked_waiting b m f e = same_waiting (step b m Ask).0 _ f refl e

module _ {B M : Type 0} {bg : Trays.Ghosts B M} {mg : Message.Ghosts M} {ig : Timed.Ghosts M} where
  -- leaving a report phase, from what asking told
  pub leaves : {p : Report} {before after : Dispatcher B M bg mg ig} {f : Figures} {r : Result Detect (Refused Report)} → LawfulCall before after Ask (Asked f) → after ≡ before → r ≡ left_report p (why_not_left p (view before) (ltb 0 f.waiting)) → LeavesReport p before after r
  leaves {f = f} l e a =
      record { late_waits = ltb 0 f.waiting; is_so = λ b m h. waits m.waiting f.waiting (asked_waiting b m f (l.steps b m h).0); answer = a; same = e }

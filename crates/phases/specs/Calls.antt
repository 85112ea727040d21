-- What a call through a phase answers and leaves.
use Rattle.std.specs.Prelude.{◌≡◌, ℕ, ◌+◌, min, Bool, cond, not, [], ◌∷◌, is_some, Some, None, Ok, Err, Option, Result, ◌==◌, ◌≢◌}
use Rattle.messages.specs.declared.refusal.Refusal.{Refusal}
use Rattle.messages.specs.declared.refusal.Refusal.TheVariants.{LateWaiting, OutOfPhase, Shut}
use Rattle.banks.specs.declared.bank.Trays
use Rattle.messages.specs.declared.message.Message
use Rattle.messages.specs.declared.message.Timed
use Rattle.dispatcher.specs.declared.dispatcher.Dispatcher.{Dispatcher}
use Rattle.dispatcher.specs.declared.call.Call.{Call}
use Rattle.dispatcher.specs.declared.call.Call.TheVariants.{Turn}
use Rattle.dispatcher.specs.declared.event.Event.{Event}
use Rattle.dispatcher.specs.declared.event.Event.TheVariants.{Turned}
use Rattle.dispatcher.specs.Answers.{answered}
use Rattle.dispatcher.specs.Machine.{State, Terms, first_of, is_empty}
use Rattle.dispatcher.specs.Shown.{Shows}
use Rattle.dispatcher.specs.Steps.{Fails}
use Rattle.dispatcher.specs.Views.{View, view}
use Rattle.dispatcher.specs.WholeRuns.{LawfulCall}
use Rattle.phases.specs.declared.phase.Detect.{Detect}
use Rattle.phases.specs.declared.phase.NextCycle.{NextCycle}
use Rattle.phases.specs.declared.phase.Output.{Output}
use Rattle.phases.specs.declared.phase.Report.{Report}
use Rattle.phases.specs.declared.refused.Refused.{Refused}

-- a count of dispatches, after one more
abbrev pub one_more : ℕ → ℕ
one_more n = min (n + 1) 4000000000

-- a count of dispatches, after a call that answered so
abbrev pub counted : {E : Type 0} → ℕ → Result (Option E) Refusal → ℕ
counted n (Ok given) = cond (is_some given) (one_more n) n
counted n (Err k) = n

-- why the report phase p cannot be left with a dispatcher that shows v, where late entries wait or do not
abbrev pub why_not_left : {M : Type 0} → Report → View M → Bool → Option Refusal
why_not_left p v late_waits =
    first_of ((not (v.cycle == p.cycle), OutOfPhase) ∷ (not v.is_open, Shut) ∷ (late_waits, LateWaiting) ∷ [])

-- the report phase is left, unless there is a refusal
abbrev pub left_report : Report → Option Refusal → Result Detect (Refused Report)
left_report p None = Ok (record { cycle = p.cycle })
left_report p (Some k) = Err (record { phase = p; refusal = k })

-- the answer of leaving a report phase that may be left, or of one that may not
abbrev pub leaving : Report → Result (Unit {0}) Refusal → Result Detect (Refused Report)
leaving p (Ok x) = left_report p None
leaving p (Err k) = left_report p (Some k)

-- how a turn through an output phase went: the dispatcher's own answer in it
abbrev pub turn_answer : Result NextCycle (Refused Output) → Result ℕ Refusal
turn_answer (Ok n) = Ok n.late
turn_answer (Err x) = Err x.refusal

-- the phase that comes of a turn to the cycle t: the report phase of that cycle, or the same output phase
abbrev pub ComesOfTurn : Output → ℕ → Result NextCycle (Refused Output) → Type 0
ComesOfTurn p t (Ok n) = n.report.cycle ≡ t
ComesOfTurn p t (Err x) = x.phase ≡ p

module _ {B M : Type 0} {bg : Trays.Ghosts B M} {mg : Message.Ghosts M} {ig : Timed.Ghosts M} where
  -- the call c through a phase of the cycle z: refused with a dispatcher in another cycle, and else the dispatcher's own call
  pub record Called {X : Type 0} (z : ℕ) (before after : Dispatcher B M bg mg ig) (c : Call M) (accepted : X → Event M) (r : Result X Refusal) : Type 0 where
    pub another_cycle : ((view before).cycle ≢ z) → r ≡ Err OutOfPhase
    pub own_call : (view before).cycle ≡ z → LawfulCall before after c (answered c accepted r)
    pub same : Fails r → after ≡ before

  -- leaving the report phase p: the dispatcher has to be in its cycle and open, and no late entry may wait
  pub record LeavesReport (p : Report) (before after : Dispatcher B M bg mg ig) (r : Result Detect (Refused Report)) : Type 0 where
    pub late_waits : Bool
    pub is_so : (b : Terms M) (m : State M) → Shows b (view before) m → late_waits ≡ not (is_empty m.waiting)
    pub answer : r ≡ left_report p (why_not_left p (view before) late_waits)
    pub same : after ≡ before

  -- turning to the cycle t through the output phase p
  pub record Turns (p : Output) (before after : Dispatcher B M bg mg ig) (t : ℕ) (r : Result NextCycle (Refused Output)) : Type 0 where
    pub call : Called p.cycle before after (Turn t) (Turned t) (turn_answer r)
    pub phase : ComesOfTurn p t r

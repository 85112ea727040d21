-- The calls that a round stands for, and what driving a hub through rounds leaves. Throughout, b are the terms that the
-- dispatcher was made with, w is what it shows at the end, and `calls` led it to the start, where h had happened.
use Rattle.std.specs.Prelude.{◌≡◌, ℕ, ◌+◌, min, not, List, [], ◌∷◌, ◌++◌, map, length, take, replicate, Some, Ok, Err, fold, count_by, Option, Result, ◌≢◌}
use Rattle.std.specs.List.{slice_get}
use Rattle.messages.specs.declared.refusal.Refusal.{Refusal}
use Rattle.messages.specs.declared.refusal.Refusal.TheVariants.{LateWaiting, OutOfPhase, Shut}
use Rattle.banks.specs.declared.bank.Trays
use Rattle.messages.specs.declared.message.Message
use Rattle.messages.specs.declared.message.Timed
use Rattle.dispatcher.specs.declared.call.Call.{Call}
use Rattle.dispatcher.specs.declared.call.Call.TheVariants.{Dispatch, Name, Post, Turn, Warn}
use Rattle.dispatcher.specs.declared.dispatcher.Dispatcher.{Dispatcher}
use Rattle.dispatcher.specs.declared.event.Event.TheVariants.{Refused as Refused-call}
use Rattle.dispatcher.specs.History.{History, gives_out}
use Rattle.dispatcher.specs.Machine.{State, Terms, first_of, is_empty, run}
use Rattle.dispatcher.specs.Views.{View, view}
use Rattle.dispatcher.specs.WholeRuns.{Accounts, Led, Obeys}
use Rattle.phases.specs.declared.phase.Output.{Output}
use Rattle.phases.specs.declared.phase.Report.{Report}
use Rattle.phases.specs.declared.refused.Refused.{Refused}
use Rattle.phases.specs.declared.round.Round.{Round}
use Rattle.phases.specs.declared.stop.Held.{Held}
use Rattle.phases.specs.declared.stop.Held.TheVariants.{InOutput, InReport}
use Rattle.phases.specs.declared.stop.Stop.{Stop}

-- these calls, and then a naming for each late entry that waits after them
abbrev pub after_names : {M : Type 0} → Terms M → List (Call M) → List (Call M)
after_names b calls = calls ++ replicate (length (run b calls).state.waiting) Name

-- these calls, and then those of a round: the namings, its posts, its warning, its dispatches, its turn
abbrev pub after_round : {M : Type 0} → Terms M → List (Call M) → Round M → List (Call M)
after_round b calls r =
    ((after_names b calls ++ map Post r.messages.now) ++ Warn r.services ∷ replicate r.dispatches Dispatch)
    ++ Turn r.cycle ∷ []

-- these calls, and then those of each round, which begins where the one before it left off
abbrev pub after_rounds : {M : Type 0} → Terms M → List (Call M) → List (Round M) → List (Call M)
after_rounds b calls rounds = fold (after_round b) calls rounds

-- these calls led a new dispatcher on to w: what happened is h and then `more`, and it obeys the law of whole runs
pub record LedOn {M : Type 0} (b : Terms M) (w : View M) (calls : List (Call M)) (h : History M) : Type 0 where
  pub more : History M
  pub led : Led b w calls (h ++ more)
  pub law : Obeys (h ++ more) w.late w.trays
  pub account : Accounts (h ++ more) w

-- how many entries the calls gave out, as a phase counts them
abbrev pub given_out : {M : Type 0} → History M → ℕ
given_out h = min (count_by gives_out h) 4000000000

-- why a report phase cannot be left in the state m, in the phase's own cycle
abbrev pub keeps_in_report : {M : Type 0} → State M → Option Refusal
keeps_in_report m = first_of ((not m.is_open, Shut) ∷ (not (is_empty m.waiting), LateWaiting) ∷ [])

module _ {M : Type 0} (b : Terms M) (w : View M) (calls : List (Call M)) (h : History M) where
  -- the calls led on to w, which is still in the cycle z, and gave n entries out
  pub record Stays (z n : ℕ) : Type 0 where
    pub on : LedOn b w calls h
    pub cycle : w.cycle ≡ z
    pub count : n ≡ given_out on.more

  -- all calls of a round led on to w, and it was turned: the next report phase q is that of the next cycle
  pub record TurnedOn (p : Report) (round : Round M) (q : Report) : Type 0 where
    pub on : LedOn b w (after_round b calls round) h
    pub cycle : w.cycle ≡ p.cycle + 1
    pub phase : q.cycle ≡ p.cycle + 1

  -- the namings of a round led on to w, and then the report phase p could not be left
  pub record KeptInReport (p : Report) (x : Refused Report) : Type 0 where
    pub on : LedOn b w (after_names b calls) h
    pub cycle : w.cycle ≡ p.cycle
    pub phase : x.phase ≡ p
    pub why : keeps_in_report (run b (after_names b calls)).state ≡ Some x.refusal

  -- all calls of a round led on to w, but its turn was refused: the output phase has the cycle and what was given out
  pub record KeptInOutput (p : Report) (round : Round M) (x : Refused Output) : Type 0 where
    pub on : LedOn b w (after_round b calls round) h
    pub cycle : w.cycle ≡ p.cycle
    pub phase : x.phase.cycle ≡ p.cycle
    pub count : x.phase.dispatched ≡ given_out on.more
    pub front : History M
    pub why : on.more ≡ front ++ Refused-call (Turn round.cycle) x.refusal ∷ []

  -- a round that was driven from the report phase p
  abbrev pub DrivenRound : Report → Round M → Result Report Held → Type 0
  DrivenRound p round (Ok q) = TurnedOn p round q
  DrivenRound p round (Err (InReport x)) = KeptInReport p x
  DrivenRound p round (Err (InOutput x)) = KeptInOutput p round x

  -- all rounds were made, and q is the report phase after them
  pub record MadeAll (p : Report) (rounds : List (Round M)) (q : Report) : Type 0 where
    pub on : LedOn b w (after_rounds b calls rounds) h
    pub cycle : w.cycle ≡ p.cycle + length rounds
    pub phase : q.cycle ≡ p.cycle + length rounds

-- the rounds before one were made, as `earlier` tells, and that one stopped
pub record Stopped {M : Type 0} (b : Terms M) (w : View M) (calls : List (Call M)) (h : History M) (p : Report) (rounds : List (Round M)) (s : Stop) : Type 0 where
  pub earlier : History M
  pub round : Round M
  pub is_round : slice_get rounds s.round ≡ Some round
  pub last : DrivenRound b w (after_rounds b calls (take s.round rounds)) (h ++ earlier) (record { cycle = p.cycle + s.round }) round (Err s.held)

-- rounds that were driven from the report phase p: all of them, or up to one that stopped
abbrev pub DrivenRounds : {M : Type 0} → Terms M → View M → List (Call M) → History M → Report → List (Round M) → Result Report Stop → Type 0
DrivenRounds b w calls h p rounds (Ok q) = MadeAll b w calls h p rounds q
DrivenRounds b w calls h p rounds (Err s) = Stopped b w calls h p rounds s

-- held in the report phase p, as where the dispatcher is in another cycle
abbrev pub out_of_phase : Report → Held
out_of_phase p = InReport (record { phase = p; refusal = OutOfPhase })

-- the answer where the dispatcher is in another cycle than the report phase p
abbrev pub not_driven : {M : Type 0} → Report → List (Round M) → Result Report Stop
not_driven p [] = Ok p
not_driven p (r ∷ rs) = Err (record { round = 0; held = out_of_phase p })

module _ {B M : Type 0} {bg : Trays.Ghosts B M} {mg : Message.Ghosts M} {ig : Timed.Ghosts M} where
  -- these calls, one after another through phases of the cycle z, of which n gave an entry out
  pub record CallsThrough (z n : ℕ) (before after : Dispatcher B M bg mg ig) (made : List (Call M)) : Type 0 where
    pub another_cycle : ((view before).cycle ≢ z) → (after ≡ before) × (n ≡ 0)
    pub in_cycle : (view before).cycle ≡ z → (b : Terms M) (calls : List (Call M)) (h : History M) → Led b (view before) calls h → Stays b (view after) (calls ++ made) h z n

  -- one round from the report phase p: nothing with a dispatcher in another cycle, and else, whatever calls led here, the
  -- calls of the round lead on
  pub record DrivesRound (p : Report) (before after : Dispatcher B M bg mg ig) (round : Round M) (r : Result Report Held) : Type 0 where
    pub another_cycle : ((view before).cycle ≢ p.cycle) → (after ≡ before) × (r ≡ Err (out_of_phase p))
    pub in_cycle : (view before).cycle ≡ p.cycle → (b : Terms M) (calls : List (Call M)) (h : History M) → Led b (view before) calls h → DrivenRound b (view after) calls h p round r

  -- the same of rounds one after another
  pub record Drives (p : Report) (before after : Dispatcher B M bg mg ig) (rounds : List (Round M)) (r : Result Report Stop) : Type 0 where
    pub another_cycle : ((view before).cycle ≢ p.cycle) → (after ≡ before) × (r ≡ not_driven p rounds)
    pub in_cycle : (view before).cycle ≡ p.cycle → (b : Terms M) (calls : List (Call M)) (h : History M) → Led b (view before) calls h → DrivenRounds b (view after) calls h p rounds r

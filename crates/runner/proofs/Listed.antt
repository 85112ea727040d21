-- The calls of a file are few, and its fault has a short line.
use Rattle.std.proofs.Common.{◌≡◌, ℕ, ◌+◌, ◌*◌, ◌<◌, ◌≤◌, List, [], ◌∷◌, map, length, Some, None, Option, sym, refl, ap, subst, ⊎_elim, arith, length-append}
use Rattle.std.specs.List.{AllByRecursion}
use Rattle.std.proofs.ByRecursion.{All-append}
use Rattle.std.proofs.lemmas.List.{length-map}
use Rattle.std.proofs.lemmas.Bool.{cases_lt}
use Rattle.dispatcher.specs.declared.call.Call.{Call}
use Rattle.dispatcher.specs.declared.event.Event.{Event}
use Rattle.dispatcher.specs.Machine.{Terms, call_of, run}
use Rattle.messages.specs.declared.refusal.Refusal.TheVariants.{BadHeader}
use Rattle.steps.specs.Lawful.{Faulty, longest}
use Rattle.steps.specs.Layout.{Format, file_bytes}
use Rattle.steps.specs.declared.fault.Fault.{Fault}
use Rattle.steps.specs.declared.header.Header.{Header}
use Rattle.steps.specs.declared.step.Step.{Step}
use Rattle.steps.specs.declared.step.Step.TheVariants.{Post, Dispatch, Turn, Name, Warn}
use Rattle.steps.proofs.Lengths.{file_length}
use Rattle.runner.specs.Calls.{call_for, calls_for, last_calls}
use Rattle.runner.specs.Files.{CallsOf, Tells}
use Rattle.runner.specs.Lines.{fault_line}
use Rattle.runner.specs.Room.{BriefEvent, BriefFault, FewCalls, FromZero, room, room_for}
use Rattle.runner.proofs.Bounds.{run_brief}
use Rattle.runner.proofs.Rooms.{room_append}
use Rattle.runner.proofs.Widths.{fault_room}

pub fault_short : (fault : Option Fault) → BriefFault fault → length (fault_line fault) ≤ 11
fault_short None h = omega arith
fault_short (Some fault) h = fault_room 70 fault.refusal fault.offset h

module _ (M : Type 0) where
  last_room : (fault : Option Fault) → room_for {M = M} (last_calls fault) ≤ 27
  last_room None = omega arith
  last_room (Some fault) = omega arith

  last_length : (fault : Option Fault) → length (last_calls {M = M} fault) ≤ 1
  last_length None = omega arith
  last_length (Some fault) = omega arith

  last_zero : (fault : Option Fault) → AllByRecursion FromZero (last_calls {M = M} fault)
  last_zero None = (tt, tt)
  last_zero (Some fault) = tt

module _ {M : Type 0} where
  step_room : (s : Step M) → room (call_for s) ≡ 20
  step_room (Post m) = refl
  step_room Dispatch = refl
  step_room (Turn t) = refl
  step_room Name = refl
  step_room (Warn c) = refl

  step_zero : (s : Step M) → FromZero (call_for s)
  step_zero (Post m) = tt
  step_zero Dispatch = tt
  step_zero (Turn t) = tt
  step_zero Name = tt
  step_zero (Warn c) = tt

  steps_room : (ss : List (Step M)) → room_for (map call_for ss) ≡ 20 * length ss
  steps_room [] = refl
  steps_room (s ∷ ss) = let a = step_room s in let ih = steps_room ss in omega arith

  steps_zero : (ss : List (Step M)) → AllByRecursion FromZero (map call_for ss)
  steps_zero [] = tt
  steps_zero (s ∷ ss) = (step_zero s, steps_zero ss)

  few_steps : (steps : List (Step M)) (fault : Option Fault) → length steps ≤ 3000 → FewCalls (calls_for steps fault)
  few_steps steps fault h =
      let calls = map call_for steps in
      let a = length-append calls (last_calls fault) in
      let b = length-map steps call_for in
      let c = last_length M fault in
      let d = room_append calls (last_calls fault) in
      let e = steps_room steps in
      let f = last_room M fault in
      record {
        few = omega arith;
        from_zero = ((refl, refl), All-append FromZero calls (last_calls fault) (steps_zero steps) (last_zero M fault));
        fit = omega arith;
      }

  -- of a file that is not too long
  module _ (f : Format M) (file : List ℕ) (h : Header) (short : length file ≤ longest) where
    told_few : (steps : List (Step M)) (fault : Option Fault) → Tells f file h steps fault → length steps ≤ 3000
    told_few steps None t = t.few
    told_few steps (Some fault) t =
        let a = file_length f h steps in
        let b = ap length t.begun.1 in
        let c = length-append (file_bytes f h steps) t.begun.0 in omega arith

    told_brief : (steps : List (Step M)) (fault : Option Fault) → Tells f file h steps fault → BriefFault fault
    told_brief steps None t = tt
    told_brief steps (Some fault) t =
        let a = file_length f h steps in
        let b = told_few steps (Some fault) t in
        let c = t.near in omega arith

    pub few_calls : (calls : List (Call M)) (fault : Option Fault) → CallsOf f file h calls fault → FewCalls calls
    few_calls calls fault c = subst FewCalls (sym c.2) (few_steps c.0 fault (told_few c.0 fault c.1))

    pub brief_fault : (calls : List (Call M)) (fault : Option Fault) → CallsOf f file h calls fault → BriefFault fault
    brief_fault calls fault c = told_brief c.0 fault c.1

  -- the history of few calls is brief, and has room
  module _ (b : Terms M) (narrow : b.span ≤ 127) (calls : List (Call M)) (few : FewCalls calls) (h : List (Event M)) where
    pub history_brief : (run b calls).history ≡ h → AllByRecursion BriefEvent h
    history_brief e =
        let l = few.few in subst (AllByRecursion BriefEvent) e (run_brief b narrow calls (omega arith) few.from_zero)

    pub history_room : map call_of h ≡ calls → room_for (map call_of h) + 11 ≤ 65536
    history_room e = let r = ap room_for e in let l = few.fit in omega arith

-- a fault in the header is one of the first eight bytes, or of a file that is too long
pub header_brief : (file : List ℕ) (fault : Fault) → Faulty file fault → fault.refusal ≡ BadHeader → BriefFault (Some fault)
header_brief file fault f e =
    ⊎_elim
    (λ (long : longest < length file). let p = (f.too_long long).1 in omega arith)
    (λ (short : length file ≤ longest).
    ⊎_elim
    (λ (early : fault.offset < 8). omega arith)
    (λ (late : 8 ≤ fault.offset).
    absurd (let k = f.in_record short late in let z : ◌≡◌ {A = ℕ} 0 1 = cc in omega arith))
    (cases_lt fault.offset 8))
    (cases_lt longest (length file))

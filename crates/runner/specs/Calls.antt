-- The calls that the steps of a file stand for.
use Rattle.std.specs.Prelude.{List, [], ◌∷◌, ◌++◌, map, Some, None, Option}
use Rattle.dispatcher.specs.declared.call.Call.{Call}
use Rattle.dispatcher.specs.declared.call.Call.TheVariants as call
use Rattle.steps.specs.declared.fault.Fault.{Fault}
use Rattle.steps.specs.declared.step.Step.{Step}
use Rattle.steps.specs.declared.step.Step.TheVariants.{Post, Dispatch, Turn, Name, Warn}

abbrev pub call_for : {M : Type 0} → Step M → Call M
call_for (Post m) = call.Post m
call_for Dispatch = call.Dispatch
call_for (Turn cycle) = call.Turn cycle
call_for Name = call.Name
call_for (Warn services) = call.Warn services

-- how things stand is asked at the end of a lawful file, and not behind a fault
abbrev pub last_calls : {M : Type 0} → Option Fault → List (Call M)
last_calls None = call.Ask ∷ []
last_calls (Some fault) = []

-- an opening at cycle 0 and receipt 0, a call for each step, and the last
abbrev pub calls_for : {M : Type 0} → List (Step M) → Option Fault → List (Call M)
calls_for steps fault = call.Open 0 0 ∷ (map call_for steps ++ last_calls fault)

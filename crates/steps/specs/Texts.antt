-- Steps, records and faults as a reader sees them.
use Rattle.std.specs.Prelude.{ℕ, List, ◌++◌, Some, codes, decimal, Option}
use Rattle.std.specs.Fmt.{option_append}
use Rattle.messages.specs.Refusals.{refusal_number}
use Rattle.steps.specs.declared.fault.Fault.{Fault}
use Rattle.steps.specs.declared.records.Record.{Record}
use Rattle.steps.specs.declared.step.Step.{Step}
use Rattle.steps.specs.declared.step.Step.TheVariants.{Post, Dispatch, Turn, Name, Warn}

-- `message` is the text of a message
abbrev pub step_text : {M : Type 0} → (M → Option (List ℕ)) → Step M → Option (List ℕ)
step_text message (Post m) = option_append (Some (codes "post ")) (message m)
step_text message Dispatch = Some (codes "dispatch")
step_text message (Turn cycle) = Some (codes "turn to " ++ decimal cycle)
step_text message Name = Some (codes "name")
step_text message (Warn services) = Some (codes "warn " ++ decimal services)

abbrev pub record_text : {M : Type 0} → (M → Option (List ℕ)) → Record M → Option (List ℕ)
record_text message r = option_append (Some (decimal r.offset)) (option_append (Some (codes " ")) (step_text message r.step))

abbrev pub fault_text : Fault → List ℕ
fault_text t = codes "F " ++ (decimal (refusal_number t.refusal) ++ (codes " " ++ decimal t.offset))

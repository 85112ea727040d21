-- What a file with a lawful header says.
use Rattle.std.specs.Prelude.{◌≡◌, ℕ, ◌+◌, ◌<◌, ◌≤◌, List, length, Some, None, Option}
use Rattle.dispatcher.specs.declared.call.Call.{Call}
use Rattle.messages.specs.declared.refusal.Refusal.TheVariants.{BadRecord}
use Rattle.steps.specs.Beginnings.{Begins}
use Rattle.steps.specs.Lawful.{Faulty, Says, longest}
use Rattle.steps.specs.Layout.{EnoughTrays, Format, file_bytes, header_bytes}
use Rattle.steps.specs.declared.fault.Fault.{Fault}
use Rattle.steps.specs.declared.header.Header.{Header}
use Rattle.steps.specs.declared.step.Step.{Step}
use Rattle.runner.specs.Calls.{calls_for}

-- the file is not too long, and begins with a lawful header
pub record HasHeader (file : List ℕ) : Type 0 where
  pub header : Header
  pub trays : EnoughTrays header
  pub begun : Begins file (header_bytes header)
  pub short : length file ≤ longest

-- the file begins with this header and these steps, and the record within the ten bytes behind them is at fault
pub record BreaksOff {M : Type 0} (f : Format M) (file : List ℕ) (h : Header) (steps : List (Step M)) (fault : Fault) : Type 0 where
  pub faulty : Faulty file fault
  pub number : fault.refusal ≡ BadRecord
  pub begun : Begins file (file_bytes f h steps)
  pub typed : h.message_type ≡ f.message_type
  pub trays : EnoughTrays h
  pub behind : length (file_bytes f h steps) ≤ fault.offset
  pub near : fault.offset < length (file_bytes f h steps) + 10

-- the whole file is this header and these steps, or it is up to its fault
abbrev pub Tells : {M : Type 0} → Format M → List ℕ → Header → List (Step M) → Option Fault → Type 0
Tells f file h steps None = Says f file h steps
Tells f file h steps (Some fault) = BreaksOff f file h steps fault

-- the calls are those of the steps that the file tells
abbrev pub CallsOf : {M : Type 0} → Format M → List ℕ → Header → List (Call M) → Option Fault → Type 0
CallsOf {M} f file h calls fault = (steps : List (Step M)) × Tells f file h steps fault × (calls ≡ calls_for steps fault)

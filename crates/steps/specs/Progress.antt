-- How far a reader has come in its file, and what reading on answers and leaves.
use Rattle.std.specs.Prelude.{◌≡◌, ◌+◌, ◌≤◌, List, [], ◌∷◌, ◌++◌, length, take, drop, Some, None, Ok, Err, Option, Result}
use Rattle.std.specs.List.{AllByRecursion}
use Rattle.messages.specs.declared.refusal.Refusal.TheVariants.{BadRecord}
use Rattle.steps.specs.declared.fault.Fault.{Fault}
use Rattle.steps.specs.declared.fault.Unlawful.{Unlawful}
use Rattle.steps.specs.declared.records.Record.{Record}
use Rattle.steps.specs.declared.records.Records.{Records}
use Rattle.steps.specs.declared.step.Step.{Step}
use Rattle.steps.specs.Lawful.{Faulty, Says, longest}
use Rattle.steps.specs.Layout.{Byte, EnoughTrays, Format, file_bytes}
use Rattle.steps.specs.Reading.{IsStep, Reads}

-- what lies before the reader's position are its header and these steps
pub record HasRead {M : Type 0} (f : Format M) (r : Records M) (steps : List (Step M)) : Type 0 where
  pub short : length r.file.now ≤ longest
  pub placed : r.position ≤ length r.file.now
  pub written : take r.position r.file.now ≡ file_bytes f r.header steps
  pub typed : r.header.message_type ≡ f.message_type
  pub trays : EnoughTrays r.header
  pub bytes : AllByRecursion Byte (file_bytes f r.header steps)

-- a record was read: its bytes are those of the file at the position, which moves past them
pub record Gives {M : Type 0} (f : Format M) (before after : Records M) (x : Record M) : Type 0 where
  pub offset : x.offset ≡ before.position
  pub within : before.position + 10 ≤ length before.file.now
  pub content : x.bytes.now ≡ take 10 (drop before.position before.file.now)
  pub place : x.bytes.ref_ptr ≡ (before.file.ref_ptr.0, before.file.ref_ptr.1 + before.position)
  pub says : IsStep f x.step x.bytes.now
  pub position : after.position ≡ before.position + 10
  pub file : after.file ≡ before.file
  pub header : after.header ≡ before.header

-- no record begins like the bytes at the position for longer than up to the fault
pub record Stops {M : Type 0} (f : Format M) (before after : Records M) (fault : Fault) : Type 0 where
  pub number : fault.refusal ≡ BadRecord
  pub offset : (e : Unlawful) × (fault.offset ≡ before.position + e.lawful_up_to) × Reads (IsStep f) 10 (drop before.position before.file.now) (Err e)
  pub same : after ≡ before

-- what reading on answers and leaves
abbrev pub Next : {M : Type 0} → Format M → Records M → Records M → Result (Option (Record M)) Fault → Type 0
Next f before after (Ok None) = (length before.file.now ≤ before.position) × (after ≡ before)
Next f before after (Ok (Some x)) = Gives f before after x
Next f before after (Err fault) = Stops f before after fault

-- what that means for the whole file, of which these steps have been read
abbrev pub Law : {M : Type 0} → Format M → List (Step M) → Records M → Result (Option (Record M)) Fault → Type 0
Law f steps after (Ok None) = Says f after.file.now after.header steps
Law f steps after (Ok (Some x)) = HasRead f after (steps ++ x.step ∷ [])
Law f steps after (Err fault) = Faulty after.file.now fault

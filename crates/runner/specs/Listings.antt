-- The listing of a steps file.
use Rattle.std.specs.Prelude.{◌≡◌, ℕ, List, ◌++◌, Some, Option}
use Rattle.std.specs.List.{flat_map}
use Rattle.dispatcher.specs.declared.call.Call.{Call}
use Rattle.dispatcher.specs.Machine.{Terms, run}
use Rattle.messages.specs.declared.note.Note.{Note}
use Rattle.messages.specs.declared.pen.PenMessage.{PenMessage}
use Rattle.messages.specs.declared.refusal.Refusal.TheVariants.{BadHeader}
use Rattle.messages.specs.Notes.{kind_number}
use Rattle.messages.specs.Pens.{told_by}
use Rattle.steps.specs.Formats.{note_format, pen_format}
use Rattle.steps.specs.Lawful.{Faulty}
use Rattle.steps.specs.Layout.{Format}
use Rattle.steps.specs.declared.fault.Fault.{Fault}
use Rattle.steps.specs.declared.header.Header.{Header}
use Rattle.steps.specs.declared.step.Step.{Step}
use Rattle.runner.specs.Banks.{bank_terms}
use Rattle.runner.specs.Calls.{calls_for}
use Rattle.runner.specs.Files.{Tells}
use Rattle.runner.specs.Lines.{fault_line, line_of}

-- a type of messages: how a file posts them, and what each tells
pub record Messages (M : Type 0) : Type 0 where
  pub format : Format M
  pub pad : M → ℕ
  pub kind : M → ℕ
  pub interval : M → ℕ

abbrev pub pen_messages : Messages PenMessage
pen_messages = record { format = pen_format; pad = λ m. m.pad; kind = λ m. (told_by m.stage).kind; interval = λ m. (told_by m.stage).interval }

abbrev pub notes : Messages Note
notes = record { format = note_format; pad = λ n. n.pad; kind = λ n. kind_number n.kind; interval = λ n. n.interval }

-- a line for each event of the machine's run, made with the terms b, and then the fault's, if there is one
abbrev pub listing_over : {M : Type 0} → (M → ℕ) → (M → ℕ) → Terms M → List (Call M) → Option Fault → List ℕ
listing_over pad kind b calls fault = flat_map (line_of pad kind) (run b calls).history ++ fault_line fault

abbrev pub listing : {M : Type 0} → Messages M → Header → List (Step M) → Option Fault → List ℕ
listing t h steps fault =
    listing_over t.pad t.kind (bank_terms t.interval h) (calls_for steps fault) fault

-- the listing of the header and the steps that a file with messages of this type tells
pub record ListsSteps {M : Type 0} (t : Messages M) (file text : List ℕ) : Type 0 where
  pub header : Header
  pub steps : List (Step M)
  pub fault : Option Fault
  pub told : Tells t.format file header steps fault
  pub lines : text ≡ listing t header steps fault

-- of a file that is too long, or has no lawful header: its fault and nothing else
pub record ListsFault (file text : List ℕ) : Type 0 where
  pub fault : Fault
  pub faulty : Faulty file fault
  pub early : fault.refusal ≡ BadHeader
  pub lines : text ≡ fault_line (Some fault)

-- the text is the listing of the file
pub data IsListing (file text : List ℕ) : Type 0 where
  of_pen_messages : ListsSteps pen_messages file text → IsListing file text
  of_notes : ListsSteps notes file text → IsListing file text
  of_no_header : ListsFault file text → IsListing file text

-- each file has one listing
abbrev pub OneListing : Type 0
OneListing = (file one other : List ℕ) → IsListing file one → IsListing file other → one ≡ other

-- Which files are lawful, and where any other stops being so.
use Rattle.std.specs.Prelude.{◌≡◌, ℕ, ◌<◌, ◌≤◌, ◌⊎◌, List, length}
use Rattle.std.specs.List.{AllByRecursion}
use Rattle.messages.specs.declared.refusal.Refusal.TheVariants.{BadHeader, BadRecord}
use Rattle.steps.specs.declared.fault.Fault.{Fault}
use Rattle.steps.specs.declared.header.Header.{Header}
use Rattle.steps.specs.declared.step.Step.{Step}
use Rattle.steps.specs.Beginnings.{Longest}
use Rattle.steps.specs.Layout.{Format, Byte, EnoughTrays, file_bytes}
use Rattle.steps.specs.Formats.{pen_format, note_format}

-- these bytes are a file with this header and these steps, and nothing else
pub record Says {M : Type 0} (f : Format M) (file : List ℕ) (h : Header) (steps : List (Step M)) : Type 0 where
  pub written : file ≡ file_bytes f h steps
  pub typed : h.message_type ≡ f.message_type
  pub trays : EnoughTrays h
  pub few : length steps ≤ 3000
  pub bytes : AllByRecursion Byte file

abbrev pub LawfulOf : {M : Type 0} → Format M → List ℕ → Type 0
LawfulOf {M} f bytes = (h : Header) × (steps : List (Step M)) × Says f bytes h steps

-- a lawful file is one of pen messages or one of notes
abbrev pub Lawful : List ℕ → Type 0
Lawful bytes = LawfulOf pen_format bytes ⊎ LawfulOf note_format bytes

-- as many bytes as the longest lawful file has
abbrev pub longest : ℕ
longest = 30008

-- why, and from which byte on, these bytes are no lawful file
pub record Faulty (bytes : List ℕ) (fault : Fault) : Type 0 where
  pub unlawful : Lawful bytes → ⊥
  pub too_long : longest < length bytes → (fault.refusal ≡ BadHeader) × (fault.offset ≡ longest)
  pub placed : length bytes ≤ longest → Longest Lawful bytes fault.offset
  pub in_header : length bytes ≤ longest → fault.offset < 8 → fault.refusal ≡ BadHeader
  pub in_record : length bytes ≤ longest → 8 ≤ fault.offset → fault.refusal ≡ BadRecord

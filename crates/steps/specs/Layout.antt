-- How headers and steps are written as bytes. A byte that means nothing is 0.
use Rattle.std.specs.Prelude.{◌≡◌, ℕ, ◌/◌, ◌%◌, ◌<◌, ◌≤◌, List, [], ◌∷◌, ◌++◌, length, replicate}
use Rattle.std.specs.List.{flat_map}
use Rattle.steps.specs.declared.header.MessageType.{MessageType}
use Rattle.steps.specs.declared.header.MessageType.TheVariants as type
use Rattle.steps.specs.declared.header.BankKind.{BankKind}
use Rattle.steps.specs.declared.header.BankKind.TheVariants.{Row, Chain}
use Rattle.steps.specs.declared.header.Header.{Header}
use Rattle.steps.specs.declared.step.Step.{Step}
use Rattle.steps.specs.declared.step.Step.TheVariants.{Post, Dispatch, Turn, Name, Warn}

abbrev pub Byte : ℕ → Type 0
Byte b = b < 256

-- numbers of several bytes, the most significant first
abbrev pub two_bytes : ℕ → List ℕ
two_bytes n = n / 256 ∷ n % 256 ∷ []

abbrev pub four_bytes : ℕ → List ℕ
four_bytes n = n / 16777216 ∷ n / 65536 % 256 ∷ n / 256 % 256 ∷ n % 256 ∷ []

abbrev pub type_number : MessageType → ℕ
type_number type.Pen = 1
type_number type.Note = 2

abbrev pub bank_number : BankKind → ℕ
bank_number Row = 1
bank_number Chain = 2

-- the mark "EVQ", the version 1, the type, the number of trays and the bank
abbrev pub header_bytes : Header → List ℕ
header_bytes h =
    0x45 ∷ 0x56 ∷ 0x51 ∷ 0 ∷ 1 ∷ type_number h.message_type ∷ h.trays ∷ bank_number h.bank ∷ []

abbrev pub EnoughTrays : Header → Type 0
EnoughTrays h = (2 ≤ h.trays) × (h.trays ≤ 128)

-- how a file posts messages of the type M
pub record Format (M : Type 0) : Type 0 where
  -- the type that the header names
  pub message_type : MessageType
  -- the nine bytes of a post after its first
  pub laid : M → List ℕ
  pub nine : (m : M) → length (laid m) ≡ 9

-- records of ten bytes, the first of which names the step: one that says no more, and one with a number
abbrev pub bare_bytes : ℕ → List ℕ
bare_bytes step = step ∷ replicate 9 0

abbrev pub numbered_bytes : ℕ → ℕ → List ℕ
numbered_bytes step n = step ∷ replicate 3 0 ++ four_bytes n ++ replicate 2 0

abbrev pub step_bytes : {M : Type 0} → Format M → Step M → List ℕ
step_bytes f (Post m) = 1 ∷ f.laid m
step_bytes f Dispatch = bare_bytes 2
step_bytes f (Turn cycle) = numbered_bytes 3 cycle
step_bytes f Name = bare_bytes 4
step_bytes f (Warn services) = numbered_bytes 5 services

-- a whole file: the header, and then a record for each step
abbrev pub file_bytes : {M : Type 0} → Format M → Header → List (Step M) → List ℕ
file_bytes f h steps = header_bytes h ++ flat_map (step_bytes f) steps

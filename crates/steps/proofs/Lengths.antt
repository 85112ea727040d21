-- How long lawful files are, and that all their numbers are bytes.
use Rattle.std.proofs.Common.{◌≡◌, ℕ, ◌+◌, ◌*◌, ◌<◌, ◌≤◌, List, [], ◌∷◌, ◌++◌, length, refl, ap, ◌∙◌, ⊎_elim, arith, length-append, rules}
use Rattle.std.specs.List.{flat_map, AllByRecursion}
use Rattle.steps.specs.declared.header.BankKind.{BankKind}
use Rattle.steps.specs.declared.header.BankKind.TheVariants.{Row, Chain}
use Rattle.steps.specs.declared.header.Header.{Header}
use Rattle.steps.specs.declared.header.MessageType.{MessageType}
use Rattle.steps.specs.declared.header.MessageType.TheVariants as type
use Rattle.steps.specs.declared.step.Step.{Step}
use Rattle.steps.specs.declared.step.Step.TheVariants.{Post, Dispatch, Turn, Name, Warn}
use Rattle.steps.specs.Lawful.{Lawful, LawfulOf}
use Rattle.steps.specs.Layout.{Byte, EnoughTrays, Format, bank_number, file_bytes, header_bytes, step_bytes, type_number}

pub all_front : {X : Type 0} (P : X → Type 0) (xs ys : List X) → AllByRecursion P (xs ++ ys) → AllByRecursion P xs
all_front P [] ys a = tt
all_front P (x ∷ xs) ys a = (a.0, all_front P xs ys a.1)

pub all_back : {X : Type 0} (P : X → Type 0) (xs ys : List X) → AllByRecursion P (xs ++ ys) → AllByRecursion P ys
all_back P [] ys a = a
all_back P (x ∷ xs) ys a = all_back P xs ys a.1

small_type : (t : MessageType) → type_number t < 256
small_type type.Pen = omega arith
small_type type.Note = omega arith

small_bank : (b : BankKind) → bank_number b < 256
small_bank Row = omega arith
small_bank Chain = omega arith

pub header_all_bytes : (h : Header) → EnoughTrays h → AllByRecursion Byte (header_bytes h)
header_all_bytes h t = let a = small_type h.message_type in let b = small_bank h.bank in search rules

module _ {M : Type 0} (f : Format M) where
  pub step_length : (s : Step M) → length (step_bytes f s) ≡ 10
  step_length (Post m) = let n = f.nine m in omega arith
  step_length Dispatch = refl
  step_length (Turn n) = refl
  step_length Name = refl
  step_length (Warn n) = refl

  steps_length : (ss : List (Step M)) → length (flat_map (step_bytes f) ss) ≡ 10 * length ss
  steps_length [] = refl
  steps_length (s ∷ ss) =
      let a = length-append (step_bytes f s) (flat_map (step_bytes f) ss) in
      let b = step_length s in let ih = steps_length ss in omega arith

  pub file_length : (h : Header) (ss : List (Step M)) → length (file_bytes f h ss) ≡ 8 + 10 * length ss
  file_length h ss =
      let a = length-append (header_bytes h) (flat_map (step_bytes f) ss) in let b = steps_length ss in omega arith

  of_type_length : (g : List ℕ) → LawfulOf f g → (m : ℕ) × (length g ≡ 8 + 10 * m) × (m ≤ 3000)
  of_type_length g l = (length l.1, ap length l.2.written ∙ file_length l.0 l.1, l.2.few)

pub lawful_length : (g : List ℕ) → Lawful g → (m : ℕ) × (length g ≡ 8 + 10 * m) × (m ≤ 3000)
lawful_length g l = ⊎_elim (of_type_length _ g) (of_type_length _ g) l

-- What the definitions give for some small files of notes, all over a row bank of four trays.
use Rattle.std.specs.Prelude.{◌≡◌, ℕ, List, [], ◌∷◌, ◌++◌, take, replicate, Some, None, codes}
use Prim.Native.String.{String}
use Rattle.std.specs.List.{flat_map}
use Rattle.messages.specs.declared.note.Note.{Note}
use Rattle.messages.specs.declared.note.NoteKind.TheVariants.{Tilt}
use Rattle.messages.specs.declared.refusal.Refusal.TheVariants.{BadRecord}
use Rattle.steps.specs.declared.header.BankKind.TheVariants.{Row}
use Rattle.steps.specs.declared.header.Header.{Header}
use Rattle.steps.specs.declared.header.MessageType.TheVariants as type
use Rattle.steps.specs.declared.step.Step.{Step}
use Rattle.steps.specs.declared.step.Step.TheVariants.{Post, Dispatch, Turn, Name, Warn}
use Rattle.runner.specs.Listings.{IsListing, listing, notes}

abbrev pub header : Header
header = record { message_type = type.Note; trays = 4; bank = Row }

-- a tilt of pad 7
abbrev pub note : ℕ → Note
note i = record { pad = 7; kind = Tilt; interval = i; payload = 0 }

abbrev pub lines : List String → List ℕ
lines texts = flat_map (λ text. codes text ++ 10 ∷ []) texts

-- one note is late, one is served, and one is refused
abbrev pub late_note : List (Step Note)
late_note = Post (note 2) ∷ Post (note 1) ∷ Post (note 0) ∷ Warn 1 ∷ Dispatch ∷ Turn 1 ∷ Turn 2 ∷ Turn 3 ∷ Name ∷ Dispatch ∷ []

-- a post of a note, a turn to cycle 1 and a dispatch, as bytes
abbrev pub short_file : List ℕ
short_file =
    0x45 ∷ 0x56 ∷ 0x51 ∷ 0 ∷ 1 ∷ 2 ∷ 4 ∷ 1
    ∷ 1 ∷ 7 ∷ 2 ∷ 13 ∷ 0 ∷ 0 ∷ 0 ∷ 0 ∷ 0 ∷ 0
    ∷ 3 ∷ 0 ∷ 0 ∷ 0 ∷ 0 ∷ 0 ∷ 0 ∷ 1 ∷ 0 ∷ 0
    ∷ 2 ∷ replicate 9 0

pub record WorkedLessons : Type 0 where
  -- from bytes to bytes
  pub short_lesson : IsListing short_file (lines ("P 0 2" ∷ "T 1 0" ∷ "D 0 2 7 13" ∷ "E 1 1 0 0 0" ∷ []))
  pub a_late_note : listing notes header late_note None ≡ lines ("P 0 2" ∷ "P 1 1" ∷ "R 5" ∷ "W -" ∷ "D 1 1 7 13" ∷ "T 1 0" ∷ "T 2 1" ∷ "R 9" ∷ "L 0 2 7 13" ∷ "D -" ∷ "E 2 1 1 0 0" ∷ [])
  -- a fault ends the listing, and no figures follow
  pub a_fault : listing notes header (take 2 late_note) (Some (record { refusal = BadRecord; offset = 28 })) ≡ lines ("P 0 2" ∷ "P 1 1" ∷ "F 14 28" ∷ [])
  -- two notes due at cycle 1, and one service in each cycle
  pub a_warning : listing notes header (Post (note 1) ∷ Post (note 1) ∷ Warn 1 ∷ []) None ≡ lines ("P 0 1" ∷ "P 1 1" ∷ "W 1 2" ∷ "E 2 0 0 2 0" ∷ [])
  pub nothing : listing notes header [] None ≡ lines ("E 0 0 0 0 0" ∷ [])

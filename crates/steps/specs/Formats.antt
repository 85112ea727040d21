-- How the two message types are posted.
use Rattle.std.specs.Prelude.{ℕ, List, [], ◌∷◌, ◌++◌, refl}
use Rattle.messages.specs.declared.pen.PenMessage.{PenMessage}
use Rattle.messages.specs.declared.pen.Stage.{Stage}
use Rattle.messages.specs.declared.pen.Stage.TheVariants.{Down, Sample, Up}
use Rattle.messages.specs.declared.note.Note.{Note}
use Rattle.messages.specs.Notes.{kind_number}
use Rattle.steps.specs.declared.header.MessageType.TheVariants as type
use Rattle.steps.specs.Layout.{Format, two_bytes, four_bytes}

abbrev pub stage_byte : Stage → ℕ
stage_byte Down = 1
stage_byte Sample = 2
stage_byte Up = 3

abbrev pub pen_laid : PenMessage → List ℕ
pen_laid m = m.pad ∷ stage_byte m.stage ∷ 0 ∷ two_bytes m.x ++ two_bytes m.y ++ two_bytes m.force

abbrev pub pen_format : Format PenMessage
pen_format = record { message_type = type.Pen; laid = pen_laid; nine = λ m. refl }

abbrev pub note_laid : Note → List ℕ
note_laid n = n.pad ∷ n.interval ∷ kind_number n.kind ∷ four_bytes n.payload ++ 0 ∷ 0 ∷ []

abbrev pub note_format : Format Note
note_format = record { message_type = type.Note; laid = note_laid; nine = λ n. refl }

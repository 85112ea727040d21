-- Messages as a reader sees them.
use Rattle.std.specs.Prelude.{ℕ, List, ◌++◌, codes, decimal}
use Rattle.messages.specs.declared.note.Note.{Note}
use Rattle.messages.specs.declared.note.NoteKind.{NoteKind}
use Rattle.messages.specs.declared.note.NoteKind.TheVariants.{PageKey, RaisedHand, Tilt}
use Rattle.messages.specs.declared.pen.PenMessage.{PenMessage}
use Rattle.messages.specs.declared.pen.Stage.{Stage}
use Rattle.messages.specs.declared.pen.Stage.TheVariants.{Down, Sample, Up}

abbrev pub stage_name : Stage → List ℕ
stage_name Down = codes "down"
stage_name Sample = codes "sample"
stage_name Up = codes "up"

abbrev pub pen_text : PenMessage → List ℕ
pen_text m = codes "pen " ++ (stage_name m.stage ++ (codes " pad " ++ (decimal m.pad ++ (codes " x " ++ (decimal m.x ++ (codes " y " ++ (decimal m.y ++ (codes " force " ++ (decimal m.force)))))))))

abbrev pub kind_name : NoteKind → List ℕ
kind_name PageKey = codes "page key"
kind_name RaisedHand = codes "raised hand"
kind_name Tilt = codes "tilt"

abbrev pub note_text : Note → List ℕ
note_text n = codes "note " ++ (kind_name n.kind ++ (codes " pad " ++ (decimal n.pad ++ (codes " interval " ++ (decimal n.interval ++ (codes " payload " ++ (decimal n.payload)))))))

-- The kinds of notes by number.
use Rattle.std.specs.Prelude.{ℕ}
use Rattle.messages.specs.declared.note.NoteKind.{NoteKind}
use Rattle.messages.specs.declared.note.NoteKind.TheVariants.{PageKey, RaisedHand, Tilt}

abbrev pub kind_number : NoteKind → ℕ
kind_number PageKey = 11
kind_number RaisedHand = 12
kind_number Tilt = 13

-- What opening and checking a whole file answer.
use Rattle.std.specs.Prelude.{◌≡◌, ℕ, ◌⊎◌, List, [], length, Ok, Err, Result}
use Rattle.std.specs.Borrow.{Bor}
use Rattle.steps.specs.declared.fault.Fault.{Fault}
use Rattle.steps.specs.declared.records.Records.{Records}
use Rattle.steps.specs.declared.step.Step.{Step}
use Rattle.steps.specs.declared.steps_file.StepsFile.{StepsFile}
use Rattle.steps.specs.declared.steps_file.StepsFile.TheVariants as of-type
use Rattle.steps.specs.declared.steps_file.Summary.{Summary}
use Rattle.steps.specs.Formats.{note_format, pen_format}
use Rattle.steps.specs.Lawful.{Faulty, Says}
use Rattle.steps.specs.Layout.{Format}
use Rattle.steps.specs.Progress.{HasRead}

-- a reader of this file that has read its header and no step
abbrev pub Starts : {M : Type 0} → Format M → Bor (List ℕ) → Records M → Type 0
Starts f file r = (r.file ≡ file) × HasRead f r []

abbrev pub Opens : Bor (List ℕ) → Result StepsFile Fault → Type 0
Opens file (Ok (of-type.Pen r)) = Starts pen_format file r
Opens file (Ok (of-type.Note r)) = Starts note_format file r
Opens file (Err fault) = Faulty file.now fault

-- a file of so many records with messages of this type
abbrev pub Holds : {M : Type 0} → Format M → List ℕ → Summary → Type 0
Holds {M} f file s = (steps : List (Step M)) × Says f file s.header steps × (length steps ≡ s.records)

abbrev pub SumsUp : {M : Type 0} → Format M → Records M → Result Summary Fault → Type 0
SumsUp f r (Ok s) = Holds f r.file.now s
SumsUp f r (Err fault) = Faulty r.file.now fault

abbrev pub Checks : List ℕ → Result Summary Fault → Type 0
Checks file (Ok s) = Holds pen_format file s ⊎ Holds note_format file s
Checks file (Err fault) = Faulty file fault

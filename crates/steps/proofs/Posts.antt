-- Posts of each type are just the lists of bytes within the ranges of such a post.
use Rattle.std.proofs.Common.{◌≡◌, ℕ, ◌+◌, ◌*◌, ◌≤◌, List, ◌∷◌, get_or, Err, sym, refl, ◌∙◌, subst, ⊎_elim, arith, rules}
use Rattle.std.proofs.lemmas.Bool.{cases_eq}
use Rattle.std.specs.List.{AllByRecursion}
use Rattle.messages.specs.declared.pen.PenMessage.{PenMessage}
use Rattle.messages.specs.declared.pen.Stage.{Stage}
use Rattle.messages.specs.declared.pen.Stage.TheVariants.{Down, Sample, Up}
use Rattle.messages.specs.declared.note.Note.{Note}
use Rattle.messages.specs.declared.note.NoteKind.{NoteKind}
use Rattle.messages.specs.declared.note.NoteKind.TheVariants.{PageKey, RaisedHand, Tilt}
use Rattle.messages.specs.Notes.{kind_number}
use Rattle.messages.specs.Pens.{told_by}
use Rattle.steps.specs.declared.fault.Unlawful.{Unlawful}
use Rattle.steps.specs.declared.ranges.ByteRange.{ByteRange}
use Rattle.steps.specs.Formats.{note_format, note_laid, pen_format, pen_laid, stage_byte}
use Rattle.steps.specs.Layout.{Byte}
use Rattle.steps.specs.Ranges.{Cut, Within}
use Rattle.steps.specs.Tables.{note_ranges, pen_ranges}
use Rattle.steps.specs.Reading.{IsPost, Reads, SomeIs}
use Rattle.steps.proofs.Insides.{cut_refused, within_bytes}

stage_of : (n : ℕ) → 1 ≤ n → n ≤ 3 → (s : Stage) × (stage_byte s ≡ n)
stage_of n l h =
    ⊎_elim (λ e. (Down, sym e))
    (λ e. ⊎_elim (λ f. (Sample, sym f)) (λ f. (Up, omega arith)) (cases_eq n 2))
    (cases_eq n 1)

-- a stage's byte is the kind of its messages
pub told_stage : (s : Stage) → (told_by s).kind ≡ stage_byte s
told_stage Down = refl
told_stage Sample = refl
told_stage Up = refl

pub told_of : (n : ℕ) → 1 ≤ n → n ≤ 3 → (s : Stage) × ((told_by s).kind ≡ n)
told_of n l h = let s = stage_of n l h in (s.0, told_stage s.0 ∙ s.1)

pub kind_of : (n : ℕ) → 11 ≤ n → n ≤ 13 → (k : NoteKind) × (kind_number k ≡ n)
kind_of n l h =
    ⊎_elim (λ e. (PageKey, sym e))
    (λ e. ⊎_elim (λ f. (RaisedHand, sym f)) (λ f. (Tilt, omega arith)) (cases_eq n 12))
    (cases_eq n 11)

pen_said : (g : List ℕ) → Within pen_ranges g → (m : PenMessage) → m.pad ≡ get_or g 1 0 → stage_byte m.stage ≡ get_or g 2 0 → m.x ≡ get_or g 4 0 * 256 + get_or g 5 0 → m.y ≡ get_or g 6 0 * 256 + get_or g 7 0 → m.force ≡ get_or g 8 0 * 256 + get_or g 9 0 → g ≡ 1 ∷ pen_laid m
pen_said g w m p s x y f = search rules

note_said : (g : List ℕ) → Within note_ranges g → (n : Note) → n.pad ≡ get_or g 1 0 → n.interval ≡ get_or g 2 0 → kind_number n.kind ≡ get_or g 3 0 → n.payload ≡ get_or g 4 0 * 16777216 + get_or g 5 0 * 65536 + get_or g 6 0 * 256 + get_or g 7 0 → g ≡ 1 ∷ note_laid n
note_said g w n p i k l = search rules

pen_within : (g : List ℕ) → Within pen_ranges g → SomeIs (IsPost pen_format) g
pen_within g w =
    let s = stage_of (get_or g 2 0) (search rules) (search rules) in
    let m : PenMessage = record { pad = get_or g 1 0; stage = s.0; x = get_or g 4 0 * 256 + get_or g 5 0; y = get_or g 6 0 * 256 + get_or g 7 0; force = get_or g 8 0 * 256 + get_or g 9 0 } in
    (m, (pen_said g w m refl s.1 refl refl refl, within_bytes pen_ranges (search rules) g w))

stage_bounds : (s : Stage) → (1 ≤ stage_byte s) × (stage_byte s ≤ 3)
stage_bounds Down = (omega arith, omega arith)
stage_bounds Sample = (omega arith, omega arith)
stage_bounds Up = (omega arith, omega arith)

within_pen : (g : List ℕ) → SomeIs (IsPost pen_format) g → Within pen_ranges g
within_pen g s =
    let b = stage_bounds s.0.stage in
    let a : AllByRecursion Byte (1 ∷ pen_laid s.0) = subst (AllByRecursion Byte) s.1.0 s.1.1 in
    let w : Within pen_ranges (1 ∷ pen_laid s.0) = search rules in subst (Within pen_ranges) (sym s.1.0) w

pub pen_refused : (rs : List ByteRange) (table : rs ≡ pen_ranges) (bytes : List ℕ) (err : Unlawful) → Cut rs bytes (Err err) → Reads (IsPost pen_format) 10 bytes (Err err)
pen_refused rs table bytes err c = cut_refused pen_ranges (search rules) pen_within within_pen bytes err (subst (λ x. Cut x bytes (Err err)) table c)

note_within : (g : List ℕ) → Within note_ranges g → SomeIs (IsPost note_format) g
note_within g w =
    let k = kind_of (get_or g 3 0) (search rules) (search rules) in
    let n : Note = record { pad = get_or g 1 0; interval = get_or g 2 0; kind = k.0; payload = get_or g 4 0 * 16777216 + get_or g 5 0 * 65536 + get_or g 6 0 * 256 + get_or g 7 0 } in
    (n, (note_said g w n refl refl k.1 refl, within_bytes note_ranges (search rules) g w))

kind_bounds : (k : NoteKind) → (11 ≤ kind_number k) × (kind_number k ≤ 13)
kind_bounds PageKey = (omega arith, omega arith)
kind_bounds RaisedHand = (omega arith, omega arith)
kind_bounds Tilt = (omega arith, omega arith)

within_note : (g : List ℕ) → SomeIs (IsPost note_format) g → Within note_ranges g
within_note g s =
    let b = kind_bounds s.0.kind in
    let a : AllByRecursion Byte (1 ∷ note_laid s.0) = subst (AllByRecursion Byte) s.1.0 s.1.1 in
    let w : Within note_ranges (1 ∷ note_laid s.0) = search rules in subst (Within note_ranges) (sym s.1.0) w

pub note_refused : (rs : List ByteRange) (table : rs ≡ note_ranges) (bytes : List ℕ) (err : Unlawful) → Cut rs bytes (Err err) → Reads (IsPost note_format) 10 bytes (Err err)
note_refused rs table bytes err c = cut_refused note_ranges (search rules) note_within within_note bytes err (subst (λ x. Cut x bytes (Err err)) table c)

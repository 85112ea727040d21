-- What is written as the same bytes is the same.
use Rattle.std.proofs.Common.{◌≡◌, ℕ, ◌/◌, ◌%◌, List, [], ◌∷◌, ◌++◌, length, get_or, take, drop, sym, refl, ap, ◌∙◌, append_assoc, arith}
use Rattle.std.specs.List.{flat_map}
use Rattle.std.proofs.lemmas.List.{drop_at, take_at}
use Rattle.messages.specs.declared.note.Note.{Note}
use Rattle.messages.specs.declared.note.NoteKind.{NoteKind}
use Rattle.messages.specs.declared.note.NoteKind.TheVariants.{PageKey, RaisedHand, Tilt}
use Rattle.messages.specs.declared.pen.PenMessage.{PenMessage}
use Rattle.messages.specs.declared.pen.Stage.{Stage}
use Rattle.messages.specs.declared.pen.Stage.TheVariants.{Down, Sample, Up}
use Rattle.messages.specs.Notes.{kind_number}
use Rattle.steps.specs.Formats.{note_format, note_laid, pen_format, pen_laid, stage_byte}
use Rattle.steps.specs.Layout.{Format, bank_number, file_bytes, header_bytes, numbered_bytes, step_bytes, type_number}
use Rattle.steps.specs.declared.header.BankKind.{BankKind}
use Rattle.steps.specs.declared.header.BankKind.TheVariants.{Row, Chain}
use Rattle.steps.specs.declared.header.Header.{Header}
use Rattle.steps.specs.declared.header.MessageType.{MessageType}
use Rattle.steps.specs.declared.header.MessageType.TheVariants as type
use Rattle.steps.specs.declared.step.Step.{Step}
use Rattle.steps.specs.declared.step.Step.TheVariants.{Post, Dispatch, Turn, Name, Warn}
use Rattle.steps.proofs.Lengths.{step_length}

at : (k : ℕ) (xs ys : List ℕ) → xs ≡ ys → get_or xs k 0 ≡ get_or ys k 0
at k xs ys e = ap (λ zs. get_or zs k 0) e

two_apart : (m n : ℕ) → m / 256 ≡ n / 256 → m % 256 ≡ n % 256 → m ≡ n
two_apart m n a b = omega arith

four_apart : (m n : ℕ) → m / 16777216 ≡ n / 16777216 → m / 65536 % 256 ≡ n / 65536 % 256 → m / 256 % 256 ≡ n / 256 % 256 → m % 256 ≡ n % 256 → m ≡ n
four_apart m n a b c d = omega arith

numbers_apart : (step m n : ℕ) → numbered_bytes step m ≡ numbered_bytes step n → m ≡ n
numbers_apart step m n e =
    let get : (k : ℕ) → get_or (numbered_bytes step m) k 0 ≡ get_or (numbered_bytes step n) k 0 = λ k. at k (numbered_bytes step m) (numbered_bytes step n) e in
    four_apart m n (get 4) (get 5) (get 6) (get 7)

stage_apart : (s t : Stage) → stage_byte s ≡ stage_byte t → s ≡ t
stage_apart Down Down e = refl
stage_apart Down Sample e = absurd (omega arith)
stage_apart Down Up e = absurd (omega arith)
stage_apart Sample Down e = absurd (omega arith)
stage_apart Sample Sample e = refl
stage_apart Sample Up e = absurd (omega arith)
stage_apart Up Down e = absurd (omega arith)
stage_apart Up Sample e = absurd (omega arith)
stage_apart Up Up e = refl

kind_apart : (s t : NoteKind) → kind_number s ≡ kind_number t → s ≡ t
kind_apart PageKey PageKey e = refl
kind_apart PageKey RaisedHand e = absurd (omega arith)
kind_apart PageKey Tilt e = absurd (omega arith)
kind_apart RaisedHand PageKey e = absurd (omega arith)
kind_apart RaisedHand RaisedHand e = refl
kind_apart RaisedHand Tilt e = absurd (omega arith)
kind_apart Tilt PageKey e = absurd (omega arith)
kind_apart Tilt RaisedHand e = absurd (omega arith)
kind_apart Tilt Tilt e = refl

type_apart : (s t : MessageType) → type_number s ≡ type_number t → s ≡ t
type_apart type.Pen type.Pen e = refl
type_apart type.Pen type.Note e = absurd (omega arith)
type_apart type.Note type.Pen e = absurd (omega arith)
type_apart type.Note type.Note e = refl

bank_apart : (s t : BankKind) → bank_number s ≡ bank_number t → s ≡ t
bank_apart Row Row e = refl
bank_apart Row Chain e = absurd (omega arith)
bank_apart Chain Row e = absurd (omega arith)
bank_apart Chain Chain e = refl

-- a format tells its messages apart
abbrev pub Apart : {M : Type 0} → Format M → Type 0
Apart {M} f = (m n : M) → f.laid m ≡ f.laid n → m ≡ n

pub pens_apart : Apart pen_format
pens_apart m n e =
    let make : ℕ → Stage → ℕ → ℕ → ℕ → PenMessage = λ p s x y f. record { pad = p; stage = s; x = x; y = y; force = f } in
    let get : (k : ℕ) → get_or (pen_laid m) k 0 ≡ get_or (pen_laid n) k 0 = λ k. at k (pen_laid m) (pen_laid n) e in
    ap (λ p. make p m.stage m.x m.y m.force) (get 0)
    ∙ ap (λ s. make n.pad s m.x m.y m.force) (stage_apart m.stage n.stage (get 1))
    ∙ ap (λ x. make n.pad n.stage x m.y m.force) (two_apart m.x n.x (get 3) (get 4))
    ∙ ap (λ y. make n.pad n.stage n.x y m.force) (two_apart m.y n.y (get 5) (get 6))
    ∙ ap (λ f. make n.pad n.stage n.x n.y f) (two_apart m.force n.force (get 7) (get 8))

pub notes_apart : Apart note_format
notes_apart m n e =
    let make : ℕ → NoteKind → ℕ → ℕ → Note = λ p k i d. record { pad = p; kind = k; interval = i; payload = d } in
    let get : (k : ℕ) → get_or (note_laid m) k 0 ≡ get_or (note_laid n) k 0 = λ k. at k (note_laid m) (note_laid n) e in
    ap (λ p. make p m.kind m.interval m.payload) (get 0)
    ∙ ap (λ k. make n.pad k m.interval m.payload) (kind_apart m.kind n.kind (get 2))
    ∙ ap (λ i. make n.pad n.kind i m.payload) (get 1)
    ∙ ap (λ d. make n.pad n.kind n.interval d) (four_apart m.payload n.payload (get 3) (get 4) (get 5) (get 6))

pub header_apart : (h k : Header) (xs ys : List ℕ) → header_bytes h ++ xs ≡ header_bytes k ++ ys → (h ≡ k) × (xs ≡ ys)
header_apart h k xs ys e =
    let make : MessageType → ℕ → BankKind → Header = λ t n b. record { message_type = t; trays = n; bank = b } in
    let get : (i : ℕ) → get_or (header_bytes h ++ xs) i 0 ≡ get_or (header_bytes k ++ ys) i 0 = λ i. at i (header_bytes h ++ xs) (header_bytes k ++ ys) e in (
      ap (λ t. make t h.trays h.bank) (type_apart h.message_type k.message_type (get 5))
          ∙ ap (λ n. make k.message_type n h.bank) (get 6)
          ∙ ap (λ b. make k.message_type k.trays b) (bank_apart h.bank k.bank (get 7)),
      ap (λ zs. drop 8 zs) e,
    )

module _ {M : Type 0} (f : Format M) (apart : Apart f) where
  steps_apart : (s t : Step M) → step_bytes f s ≡ step_bytes f t → s ≡ t
  steps_apart (Post m) (Post n) e = ap Post (apart m n (ap (λ xs. drop 1 xs) e))
  steps_apart (Post m) Dispatch e = absurd (let k = at 0 _ _ e in omega arith)
  steps_apart (Post m) (Turn n) e = absurd (let k = at 0 _ _ e in omega arith)
  steps_apart (Post m) Name e = absurd (let k = at 0 _ _ e in omega arith)
  steps_apart (Post m) (Warn n) e = absurd (let k = at 0 _ _ e in omega arith)
  steps_apart Dispatch (Post n) e = absurd (let k = at 0 _ _ e in omega arith)
  steps_apart Dispatch Dispatch e = refl
  steps_apart Dispatch (Turn n) e = absurd (let k = at 0 _ _ e in omega arith)
  steps_apart Dispatch Name e = absurd (let k = at 0 _ _ e in omega arith)
  steps_apart Dispatch (Warn n) e = absurd (let k = at 0 _ _ e in omega arith)
  steps_apart (Turn m) (Post n) e = absurd (let k = at 0 _ _ e in omega arith)
  steps_apart (Turn m) Dispatch e = absurd (let k = at 0 _ _ e in omega arith)
  steps_apart (Turn m) (Turn n) e = ap Turn (numbers_apart 3 m n e)
  steps_apart (Turn m) Name e = absurd (let k = at 0 _ _ e in omega arith)
  steps_apart (Turn m) (Warn n) e = absurd (let k = at 0 _ _ e in omega arith)
  steps_apart Name (Post n) e = absurd (let k = at 0 _ _ e in omega arith)
  steps_apart Name Dispatch e = absurd (let k = at 0 _ _ e in omega arith)
  steps_apart Name (Turn n) e = absurd (let k = at 0 _ _ e in omega arith)
  steps_apart Name Name e = refl
  steps_apart Name (Warn n) e = absurd (let k = at 0 _ _ e in omega arith)
  steps_apart (Warn m) (Post n) e = absurd (let k = at 0 _ _ e in omega arith)
  steps_apart (Warn m) Dispatch e = absurd (let k = at 0 _ _ e in omega arith)
  steps_apart (Warn m) (Turn n) e = absurd (let k = at 0 _ _ e in omega arith)
  steps_apart (Warn m) Name e = absurd (let k = at 0 _ _ e in omega arith)
  steps_apart (Warn m) (Warn n) e = ap Warn (numbers_apart 5 m n e)

  -- as many steps at the start of the same bytes are the same steps
  lists_apart : (ss ts : List (Step M)) (xs ys : List ℕ) → length ss ≡ length ts → flat_map (step_bytes f) ss ++ xs ≡ flat_map (step_bytes f) ts ++ ys → ss ≡ ts
  lists_apart [] [] xs ys l e = refl
  lists_apart [] (t ∷ ts) xs ys l e = absurd (omega arith)
  lists_apart (s ∷ ss) [] xs ys l e = absurd (omega arith)
  lists_apart (s ∷ ss) (t ∷ ts) xs ys l e =
      let rest = flat_map (step_bytes f) ss ++ xs in
      let more = flat_map (step_bytes f) ts ++ ys in
      let both : step_bytes f s ++ rest ≡ step_bytes f t ++ more =
      sym (append_assoc (step_bytes f s) (flat_map (step_bytes f) ss) xs) ∙ e ∙ append_assoc (step_bytes f t) (flat_map (step_bytes f) ts) ys in
      let first : step_bytes f s ≡ step_bytes f t =
      sym (take_at (step_bytes f s) rest 10 (step_length f s)) ∙ ap (λ zs. take 10 zs) both ∙ take_at (step_bytes f t) more 10 (step_length f t) in
      let behind : rest ≡ more =
      sym (drop_at (step_bytes f s) rest 10 (step_length f s)) ∙ ap (λ zs. drop 10 zs) both ∙ drop_at (step_bytes f t) more 10 (step_length f t) in
      let n : length ss ≡ length ts = omega arith in
      ap (λ x. x ∷ ss) (steps_apart s t first) ∙ ap (λ zs. t ∷ zs) (lists_apart ss ts xs ys n behind)

  pub files_apart : (h k : Header) (ss ts : List (Step M)) (xs ys : List ℕ) → length ss ≡ length ts → file_bytes f h ss ++ xs ≡ file_bytes f k ts ++ ys → (h ≡ k) × (ss ≡ ts)
  files_apart h k ss ts xs ys l e =
      let both = header_apart h k (flat_map (step_bytes f) ss ++ xs) (flat_map (step_bytes f) ts ++ ys)
      (sym (append_assoc (header_bytes h) (flat_map (step_bytes f) ss) xs) ∙ e ∙ append_assoc (header_bytes k) (flat_map (step_bytes f) ts) ys) in
      (both.0, lists_apart ss ts xs ys l both.1)

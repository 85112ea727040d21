-- A file has one listing.
use Rattle.std.proofs.Common.{◌≡◌, ℕ, List, [], ◌++◌, length, get_or, Some, None, Option, sym, ap, ◌∙◌, subst, inl, inr, append-nil, arith}
use Rattle.messages.specs.declared.refusal.Refusal.TheVariants.{BadHeader, BadRecord}
use Rattle.steps.specs.Formats.{note_format, pen_format}
use Rattle.steps.specs.Lawful.{Faulty, Lawful, LawfulOf}
use Rattle.steps.specs.Layout.{Format, file_bytes, type_number}
use Rattle.steps.specs.declared.fault.Fault.{Fault}
use Rattle.steps.specs.declared.header.Header.{Header}
use Rattle.steps.specs.declared.step.Step.{Step}
use Rattle.steps.proofs.Lengths.{file_length}
use Rattle.runner.specs.Files.{Tells}
use Rattle.runner.specs.Lines.{fault_line}
use Rattle.runner.specs.Listings.{ListsFault, ListsSteps, Messages, OneListing, listing, notes, of_no_header, of_notes, of_pen_messages, pen_messages}
use Rattle.runner.proofs.Apart.{Apart, files_apart, notes_apart, pens_apart}
use Rattle.runner.proofs.SameFault.{same_fault}

impossible : BadHeader ≡ BadRecord → ⊥
impossible e = let z : ◌≡◌ {A = ℕ} 0 1 = cc in omega arith

-- the file begins with what it tells
begins : {M : Type 0} (f : Format M) (file : List ℕ) (h : Header) (ss : List (Step M)) (o : Option Fault) → Tells f file h ss o → (rest : List ℕ) × (file ≡ file_bytes f h ss ++ rest)
begins f file h ss None t = ([], t.written ∙ sym (append-nil (file_bytes f h ss)))
begins f file h ss (Some fault) t = t.begun

typed : {M : Type 0} (f : Format M) (file : List ℕ) (h : Header) (ss : List (Step M)) (o : Option Fault) → Tells f file h ss o → h.message_type ≡ f.message_type
typed f file h ss None t = t.typed
typed f file h ss (Some fault) t = t.typed

module _ {M : Type 0} (t : Messages M) (apart : Apart t.format) (lawful : (g : List ℕ) → LawfulOf t.format g → Lawful g) (file : List ℕ) where
  -- one told, one with a fault
  one_fault : (h : Header) (ss : List (Step M)) (o : Option Fault) (fault : Fault) → Tells t.format file h ss o → Faulty file fault → o ≡ Some fault
  one_fault h ss None fault p q = absurd (q.unlawful (lawful file (h, ss, p)))
  one_fault h ss (Some other) fault p q = ap Some (same_fault file other fault p.faulty q)

  same_length : (h k : Header) (ss ts : List (Step M)) (o : Option Fault) → Tells t.format file h ss o → Tells t.format file k ts o → length ss ≡ length ts
  same_length h k ss ts None p q =
      let a = file_length t.format h ss in
      let b = file_length t.format k ts in
      let e = ap length (sym p.written ∙ q.written) in omega arith
  same_length h k ss ts (Some fault) p q =
      let a = file_length t.format h ss in
      let b = file_length t.format k ts in
      let c = p.behind in
      let d = p.near in
      let e = q.behind in
      let g = q.near in omega arith

  same_told : (h k : Header) (ss ts : List (Step M)) (o : Option Fault) → Tells t.format file h ss o → Tells t.format file k ts o → listing t h ss o ≡ listing t k ts o
  same_told h k ss ts o p q =
      let a = begins t.format file h ss o p in
      let b = begins t.format file k ts o q in
      let both = files_apart t.format apart h k ss ts a.0 b.0 (same_length h k ss ts o p q) (sym a.1 ∙ b.1) in
      ap (λ x. listing t x ss o) both.0 ∙ ap (λ xs. listing t k xs o) both.1

  both_told : (h k : Header) (ss ts : List (Step M)) (o o' : Option Fault) → Tells t.format file h ss o → Tells t.format file k ts o' → listing t h ss o ≡ listing t k ts o'
  both_told h k ss ts None None p q = same_told h k ss ts None p q
  both_told h k ss ts None (Some b) p q = absurd (q.faulty.unlawful (lawful file (h, ss, p)))
  both_told h k ss ts (Some a) None p q = absurd (p.faulty.unlawful (lawful file (k, ts, q)))
  both_told h k ss ts (Some a) (Some b) p q =
      let e = same_fault file a b p.faulty q.faulty in
      same_told h k ss ts (Some a) p (subst (λ x. Tells t.format file k ts (Some x)) (sym e) q) ∙ ap (λ x. listing t k ts (Some x)) e

  pub same_steps : (one other : List ℕ) → ListsSteps t file one → ListsSteps t file other → one ≡ other
  same_steps one other p q =
      p.lines ∙ both_told p.header q.header p.steps q.steps p.fault q.fault p.told q.told ∙ sym q.lines

  -- a file with a lawful header is not at fault in it
  no_steps : (h : Header) (ss : List (Step M)) (o : Option Fault) (fault : Fault) → Tells t.format file h ss o → Faulty file fault → fault.refusal ≡ BadHeader → ⊥
  no_steps h ss None fault p q e = q.unlawful (lawful file (h, ss, p))
  no_steps h ss (Some other) fault p q e =
      impossible (sym e ∙ ap (λ (x : Fault). x.refusal) (same_fault file fault other q p.faulty) ∙ p.number)

  pub not_both : (one other : List ℕ) → ListsSteps t file one → ListsFault file other → ⊥
  not_both one other p q = no_steps p.header p.steps p.fault q.fault p.told q.faulty q.early

-- no file is one of pen messages and one of notes
not_two : (file one other : List ℕ) → ListsSteps pen_messages file one → ListsSteps notes file other → ⊥
not_two file one other p q =
    let a = begins pen_format file p.header p.steps p.fault p.told in
    let b = begins note_format file q.header q.steps q.fault q.told in
    let e = ap (λ xs. get_or xs 5 0) (sym a.1 ∙ b.1) in
    let x = ap type_number (typed pen_format file p.header p.steps p.fault p.told) in
    let y = ap type_number (typed note_format file q.header q.steps q.fault q.told) in omega arith

same_faults : (file one other : List ℕ) → ListsFault file one → ListsFault file other → one ≡ other
same_faults file one other p q =
    p.lines ∙ ap (λ x. fault_line (Some x)) (same_fault file p.fault q.fault p.faulty q.faulty) ∙ sym q.lines

pub one_listing : OneListing
one_listing file one other (of_pen_messages p) (of_pen_messages q) = same_steps pen_messages pens_apart (λ g l. inl l) file one other p q
one_listing file one other (of_pen_messages p) (of_notes q) = absurd (not_two file one other p q)
one_listing file one other (of_pen_messages p) (of_no_header q) = absurd (not_both pen_messages pens_apart (λ g l. inl l) file one other p q)
one_listing file one other (of_notes p) (of_pen_messages q) = absurd (not_two file other one q p)
one_listing file one other (of_notes p) (of_notes q) = same_steps notes notes_apart (λ g l. inr l) file one other p q
one_listing file one other (of_notes p) (of_no_header q) = absurd (not_both notes notes_apart (λ g l. inr l) file one other p q)
one_listing file one other (of_no_header p) (of_pen_messages q) = absurd (not_both pen_messages pens_apart (λ g l. inl l) file other one q p)
one_listing file one other (of_no_header p) (of_notes q) = absurd (not_both notes notes_apart (λ g l. inr l) file other one q p)
one_listing file one other (of_no_header p) (of_no_header q) = same_faults file one other p q

-- What one more call of the reader means for the whole file.
use Rattle.std.proofs.Common.{◌≡◌, ℕ, ◌+◌, ◌*◌, ◌<◌, ◌≤◌, ◌⊎◌, List, [], ◌∷◌, ◌++◌, length, get_or, take, drop, Err, sym, ap, ◌∙◌, subst, arith, length-drop, length-take, take-add}
use Rattle.std.proofs.ByRecursion.{All-append}
use Rattle.std.proofs.lemmas.List.{flat_map_more, take_all, take-append-drop, length-take-le}
use Rattle.std.specs.List.{AllByRecursion}
use Rattle.messages.specs.declared.refusal.Refusal.TheVariants.{BadRecord}
use Rattle.steps.specs.declared.fault.Unlawful.{Unlawful}
use Rattle.steps.specs.declared.records.Records.{Records}
use Rattle.steps.specs.declared.step.Step.{Step}
use Rattle.steps.specs.Lawful.{Faulty, Lawful, LawfulOf, Says, longest}
use Rattle.steps.specs.Layout.{Byte, Format, file_bytes, header_bytes, step_bytes, type_number}
use Rattle.steps.specs.Progress.{HasRead}
use Rattle.steps.specs.Reading.{IsStep, Reads}
use Rattle.steps.proofs.Lengths.{file_length, step_length}
use Rattle.steps.proofs.Stopping.{record_faulty}

module _ {M : Type 0} (f : Format M) (r : Records M) (ss : List (Step M)) (read : HasRead f r ss) where
  position_is : r.position ≡ 8 + 10 * length ss
  position_is =
      sym (length-take-le r.position r.file.now read.placed) ∙ ap length read.written
      ∙ file_length f r.header ss

  pub at_end : length r.file.now ≤ r.position → Says f r.file.now r.header ss
  at_end e =
      let whole : r.file.now ≡ file_bytes f r.header ss = sym (take_all r.position r.file.now e) ∙ read.written in
      let p = position_is in
      record {
        written = whole;
        typed = read.typed;
        trays = read.trays;
        few = omega (arith, read.placed, read.short);
        bytes = subst (AllByRecursion Byte) (sym whole) read.bytes;
      }

  pub one_more : (s : Step M) → IsStep f s (take 10 (drop r.position r.file.now)) → (after : Records M) → after.file ≡ r.file → after.header ≡ r.header → after.position ≡ r.position + 10 → HasRead f after (ss ++ s ∷ [])
  one_more s is after sf sh sp =
      let p = r.position in
      let file = r.file.now in
      let n = ap length is.0 ∙ step_length f s in
      let l = length-take 10 (drop p file) in
      let d = length-drop p file in
      let w : take (p + 10) file ≡ file_bytes f r.header (ss ++ s ∷ []) =
      take-add p 10 file ∙ ap (λ x. x ++ take 10 (drop p file)) read.written
      ∙ ap (λ x. file_bytes f r.header ss ++ x) is.0 ∙ flat_map_more (step_bytes f) (header_bytes r.header) ss s in
      let b : AllByRecursion Byte (file_bytes f r.header (ss ++ s ∷ [])) =
      subst (AllByRecursion Byte) (flat_map_more (step_bytes f) (header_bytes r.header) ss s)
      (All-append Byte (file_bytes f r.header ss) (step_bytes f s) read.bytes (subst (AllByRecursion Byte) is.0 is.1)) in
      let moved : Records M = record { file = r.file; header = r.header; position = r.position + 10; message = after.message } in
      let goal : HasRead f moved (ss ++ s ∷ []) = record { short = read.short; placed = omega arith; written = w; typed = read.typed; trays = read.trays; bytes = b } in
      let same : moved ≡ after = (λ i. record { file = sym sf i; header = sym sh i; position = sym sp i; message = after.message }) in
      subst (λ x. HasRead f x (ss ++ s ∷ [])) same goal

  pub stopped : ((g : List ℕ) → LawfulOf f g → Lawful g) → ((g : List ℕ) → Lawful g → LawfulOf f g ⊎ (get_or g 5 0 ≡ type_number f.message_type → ⊥)) → r.position < length r.file.now → (err : Unlawful) → Reads (IsStep f) 10 (drop r.position r.file.now) (Err err) → Faulty r.file.now (record { refusal = BadRecord; offset = r.position + err.lawful_up_to })
  stopped lawful only less err stops =
      let rest = drop r.position r.file.now in
      let whole : file_bytes f r.header ss ++ rest ≡ r.file.now =
      ap (λ x. x ++ rest) (sym read.written) ∙ take-append-drop r.position r.file.now in
      let n = length-drop r.position r.file.now in
      let some : 0 < length rest = omega arith in
      let short : length (file_bytes f r.header ss ++ rest) ≤ longest = (let e = ap length whole in omega (arith, read.short)) in
      let y = record_faulty f rest err stops lawful only r.header ss read.typed read.trays read.bytes some short in
      let z = subst (λ p. Faulty (file_bytes f r.header ss ++ rest) (record { refusal = BadRecord; offset = p + err.lawful_up_to })) (sym position_is) y in
      subst (λ x. Faulty x (record { refusal = BadRecord; offset = r.position + err.lawful_up_to })) whole z

-- Where a file stops being lawful: from where one header or record stops to where the whole file does.
use Rattle.std.proofs.Common.{◌≡◌, ℕ, ◌+◌, ◌*◌, ◌<◌, ◌≤◌, ◌⊎◌, List, [], ◌∷◌, ◌++◌, length, get_or, Err, sym, refl, ap, ◌∙◌, subst, inl, inr, ⊎_elim, append_assoc, arith, length-append}
use Rattle.std.proofs.ByRecursion.{All-append}
use Rattle.std.proofs.lemmas.List.{flat_map_more, length_push}
use Rattle.std.proofs.lemmas.Bool.{cases_lt}
use Rattle.std.specs.List.{flat_map, AllByRecursion}
use Rattle.messages.specs.declared.refusal.Refusal.TheVariants.{BadHeader, BadRecord}
use Rattle.steps.specs.declared.fault.Unlawful.{Unlawful}
use Rattle.steps.specs.declared.header.Header.{Header}
use Rattle.steps.specs.declared.header.MessageType.{MessageType}
use Rattle.steps.specs.declared.header.MessageType.TheVariants as type
use Rattle.steps.specs.declared.step.Step.{Step}
use Rattle.steps.specs.Beginnings.{common}
use Rattle.steps.specs.Formats.{note_format, pen_format}
use Rattle.steps.specs.Lawful.{Faulty, Lawful, LawfulOf, longest}
use Rattle.steps.specs.Layout.{Byte, EnoughTrays, Format, file_bytes, header_bytes, step_bytes, type_number}
use Rattle.steps.specs.Reading.{IsHeader, IsStep, Reads}
use Rattle.steps.proofs.Alike.{common_after, common_blocks, common_fits, common_front, common_reads, common_whole}
use Rattle.steps.proofs.Lengths.{all_back, all_front, file_length, header_all_bytes, lawful_length, step_length}

-- ---- in the header

header_only : (g : List ℕ) (h : Header) → IsHeader h g → Lawful g
header_only g h is = by_type h.message_type refl where
  alone : {M : Type 0} (f : Format M) → h.message_type ≡ f.message_type → LawfulOf f g
  alone f t =
      (h, [], record { written = is.0; typed = t; trays = is.1; few = omega arith; bytes = subst (AllByRecursion Byte) (sym is.0) (header_all_bytes h is.1) })

  by_type : (t : MessageType) → h.message_type ≡ t → Lawful g
  by_type type.Pen e = inl (alone pen_format e)
  by_type type.Note e = inr (alone note_format e)

module _ (file : List ℕ) (err : Unlawful) (short : length file ≤ longest) (r : Reads IsHeader 8 file (Err err)) where
  header_most_of : {M : Type 0} (f : Format M) (g : List ℕ) → LawfulOf f g → common g file ≤ err.lawful_up_to
  header_most_of f g l =
      let a = r.1.most (header_bytes l.0) (l.0, (refl, l.2.trays)) in
      let less : common (header_bytes l.0) file < length (header_bytes l.0) = omega (arith, r.0) in
      let b = common_front (header_bytes l.0) (flat_map (step_bytes f) l.1) file less in
      let e = ap (λ x. common x file) l.2.written in omega arith

  header_most : (g : List ℕ) → Lawful g → common g file ≤ err.lawful_up_to
  header_most g l = ⊎_elim (header_most_of pen_format g) (header_most_of note_format g) l

  pub header_faulty : Faulty file (record { refusal = BadHeader; offset = err.lawful_up_to })
  header_faulty =
      record {
        unlawful = λ l. let a = header_most file l in let b = common_whole file in let c = lawful_length file l in omega (arith, r.0, c.1);
        too_long = λ h. absurd (omega arith);
        placed = λ h. record {
          shared = (r.1.shared.0, header_only _ _ r.1.shared.1.1, r.1.shared.2);
          most = header_most;
        };
        in_header = λ h i. refl;
        in_record = λ h i. absurd (omega (arith, r.0));
      }

pub too_long_faulty : (file : List ℕ) → longest < length file → Faulty file (record { refusal = BadHeader; offset = longest })
too_long_faulty file h =
    record {
      unlawful = λ l. let c = lawful_length file l in omega (arith, c.1, c.2);
      too_long = λ _. (refl, refl);
      placed = λ i. absurd (omega arith);
      in_header = λ i _. absurd (omega arith);
      in_record = λ i _. absurd (omega arith);
    }

-- ---- in a record

module _ {M : Type 0} (f : Format M) (rest : List ℕ) (err : Unlawful) (r : Reads (IsStep f) 10 rest (Err err)) where
  blocks_most : (ss gs : List (Step M)) → AllByRecursion Byte (flat_map (step_bytes f) gs) → common (flat_map (step_bytes f) gs) (flat_map (step_bytes f) ss ++ rest) ≤ 10 * length ss + err.lawful_up_to
  blocks_most ss [] a = omega arith
  blocks_most [] (x ∷ gs) a =
      let b = r.1.most (step_bytes f x) (x, (refl, all_front Byte (step_bytes f x) (flat_map (step_bytes f) gs) a)) in
      let n = step_length f x in
      let less : common (step_bytes f x) rest < length (step_bytes f x) = omega (arith, r.0) in
      let e = common_front (step_bytes f x) (flat_map (step_bytes f) gs) rest less in omega arith
  blocks_most (s ∷ ss) (x ∷ gs) a =
      let n = step_length f x in
      let m = step_length f s in
      let same : length (step_bytes f x) ≡ length (step_bytes f s) = omega arith in
      let b = common_blocks (step_bytes f x) (step_bytes f s) (flat_map (step_bytes f) gs) (flat_map (step_bytes f) ss ++ rest) same in
      let ih = blocks_most ss gs (all_back Byte (step_bytes f x) (flat_map (step_bytes f) gs) a) in
      let e = ap (common (step_bytes f x ++ flat_map (step_bytes f) gs)) (append_assoc (step_bytes f s) (flat_map (step_bytes f) ss) rest) in
      omega arith

  module _ (lawful : (g : List ℕ) → LawfulOf f g → Lawful g) (only : (g : List ℕ) → Lawful g → LawfulOf f g ⊎ (get_or g 5 0 ≡ type_number f.message_type → ⊥)) (h : Header) (ss : List (Step M)) (typed : h.message_type ≡ f.message_type) (trays : EnoughTrays h) (bytes : AllByRecursion Byte (file_bytes f h ss)) (some : 0 < length rest) (short : length (file_bytes f h ss ++ rest) ≤ longest) where
    files_length : length (file_bytes f h ss ++ rest) ≡ 8 + 10 * length ss + length rest
    files_length =
        let a = length-append (file_bytes f h ss) rest in let b = file_length f h ss in omega arith

    -- the steps so far, and one that goes on like the rest as long as any does
    longer : (g : List ℕ) × Lawful g × (common g (file_bytes f h ss ++ rest) ≡ 8 + 10 * length ss + err.lawful_up_to)
    longer =
        let s = r.1.shared.1.0 in
        let is = r.1.shared.1.1 in
        let g = file_bytes f h ss ++ step_bytes f s in
        let same : g ≡ file_bytes f h (ss ++ s ∷ []) = flat_map_more (step_bytes f) (header_bytes h) ss s in
        let n = files_length in
        let room : length (ss ++ s ∷ []) ≤ 3000 = (let p = length_push ss s in omega arith) in
        let all : AllByRecursion Byte g = All-append Byte (file_bytes f h ss) (step_bytes f s) bytes (subst (AllByRecursion Byte) is.0 is.1) in
        let c : common (step_bytes f s) rest ≡ err.lawful_up_to = sym (ap (λ x. common x rest) is.0) ∙ r.1.shared.2 in
        let e = common_after (file_bytes f h ss) (step_bytes f s) rest in
        let m = file_length f h ss in
        (g, lawful g (h, ss ++ s ∷ [], record { written = same; typed = typed; trays = trays; few = room; bytes = all }), omega arith)

    most : (g : List ℕ) → Lawful g → common g (file_bytes f h ss ++ rest) ≤ 8 + 10 * length ss + err.lawful_up_to
    most g l = ⊎_elim same_type other_type (only g l) where
      same_type : LawfulOf f g → common g (file_bytes f h ss ++ rest) ≤ 8 + 10 * length ss + err.lawful_up_to
      same_type o =
          let a = subst (AllByRecursion Byte) o.2.written o.2.bytes in
          let b = blocks_most ss o.1 (all_back Byte (header_bytes o.0) (flat_map (step_bytes f) o.1) a) in
          let c = common_blocks (header_bytes o.0) (header_bytes h) (flat_map (step_bytes f) o.1) (flat_map (step_bytes f) ss ++ rest) refl in
          let e = ap (λ x. common x (file_bytes f h ss ++ rest)) o.2.written in omega arith

      other_type : (get_or g 5 0 ≡ type_number f.message_type → ⊥) → common g (file_bytes f h ss ++ rest) ≤ 8 + 10 * length ss + err.lawful_up_to
      other_type apart =
          ⊎_elim
          (λ i. absurd (apart (common_reads 5 g (file_bytes f h ss ++ rest) i ∙ ap type_number typed)))
          (λ i. omega arith)
          (cases_lt 5 (common g (file_bytes f h ss ++ rest)))

    pub record_faulty : Faulty (file_bytes f h ss ++ rest) (record { refusal = BadRecord; offset = 8 + 10 * length ss + err.lawful_up_to })
    record_faulty =
        record {
          unlawful = λ l.
              let a = most (file_bytes f h ss ++ rest) l in
              let b = common_whole (file_bytes f h ss ++ rest) in
              let c = lawful_length (file_bytes f h ss ++ rest) l in
              let w = longer in
              let d = common_fits w.0 (file_bytes f h ss ++ rest) in
              let n = files_length in omega (arith, r.0, c.1, w.2);
          too_long = λ i. absurd (omega arith);
          placed = λ i. record { shared = longer; most = most };
          in_header = λ i j. absurd (omega arith);
          in_record = λ i j. refl;
        }

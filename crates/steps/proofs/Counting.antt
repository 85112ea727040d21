-- Reading on to the end of a file, one record after another.
use Rattle.std.proofs.Common.{◌≡◌, ℕ, ◌+◌, ◌*◌, List, [], ◌∷◌, ◌++◌, length, sym, ap, ◌∙◌, subst, append_assoc, arith}
use Rattle.std.proofs.lemmas.List.{length_push}
use Rattle.steps.specs.declared.fault.Fault.{Fault}
use Rattle.steps.specs.declared.header.Header.{Header}
use Rattle.steps.specs.declared.records.Record.{Record}
use Rattle.steps.specs.declared.records.Records.{Records}
use Rattle.steps.specs.declared.step.Step.{Step}
use Rattle.steps.specs.Lawful.{Faulty, Says}
use Rattle.steps.specs.Layout.{Format}
use Rattle.steps.specs.Opening.{Holds}
use Rattle.steps.specs.Progress.{Gives, HasRead}

-- n records have been read since the start
pub record Counted {M : Type 0} (f : Format M) (start here : Records M) (n : ℕ) : Type 0 where
  pub file : here.file ≡ start.file
  pub header : here.header ≡ start.header
  pub position : here.position ≡ start.position + 10 * n
  pub steps : (steps : List (Step M)) → HasRead f start steps → (more : List (Step M)) × HasRead f here (steps ++ more) × (length more ≡ n)

module _ {M : Type 0} (f : Format M) where
  module _ (start here after : Records M) (n : ℕ) (counted : Counted f start here n) where
    pub count_more : (x : Record M) → Gives f here after x → ((ss : List (Step M)) → HasRead f here ss → HasRead f after (ss ++ x.step ∷ [])) → Counted f start after (n + 1)
    count_more x gives law =
        record {
          file = gives.file ∙ counted.file;
          header = gives.header ∙ counted.header;
          position = omega (arith, gives.position, counted.position);
          steps = λ ss h.
              let c = counted.steps ss h in
              (c.0 ++ x.step ∷ [], subst (HasRead f after) (append_assoc ss c.0 (x.step ∷ [])) (law (ss ++ c.0) c.1), length_push c.0 x.step ∙ ap (λ k. k + 1) c.2);
        }

    pub count_done : after ≡ here → ((ss : List (Step M)) → HasRead f here ss → Says f after.file.now after.header ss) → (header : Header) → header ≡ start.header → HasRead f start [] → Holds f start.file.now (record { header = header; records = n })
    count_done same law header is h =
        let c = counted.steps [] h in
        let file : after.file ≡ start.file = ap (λ r. r.file) same ∙ counted.file in
        let kept : after.header ≡ header = ap (λ r. r.header) same ∙ counted.header ∙ sym is in
        let s = subst (λ x. Says f x.now after.header c.0) file (law c.0 c.1) in
        (c.0, subst (λ x. Says f start.file.now x c.0) kept s, c.2)

    pub count_stopped : (fault : Fault) → after ≡ here → ((ss : List (Step M)) → HasRead f here ss → Faulty after.file.now fault) → HasRead f start [] → Faulty start.file.now fault
    count_stopped fault same law h =
        let c = counted.steps [] h in
        let file : after.file ≡ start.file = ap (λ r. r.file) same ∙ counted.file in
        subst (λ x. Faulty x.now fault) file (law c.0 c.1)

-- The first byte of a record chooses its step: records of other steps begin otherwise at once.
use Rattle.std.proofs.Common.{◌≡◌, ℕ, ◌≤◌, List, [], ◌∷◌, Some, Err, sym, refl, ap, ◌∙◌, ⊎_elim, arith, rules}
use Rattle.std.proofs.lemmas.Bool.{cases_eq}
use Rattle.std.specs.List.{slice_get}
use Rattle.steps.specs.declared.fault.Unlawful.{Unlawful}
use Rattle.steps.specs.declared.step.Step.{Step}
use Rattle.steps.specs.declared.step.Step.TheVariants.{Post, Dispatch, Turn, Name, Warn}
use Rattle.steps.specs.Beginnings.{common}
use Rattle.steps.specs.Layout.{Format, bare_bytes, step_bytes}
use Rattle.steps.specs.Reading.{IsNumbered, IsPost, IsStep, Reads, SomeIs}
use Rattle.steps.proofs.Alike.{common_apart, common_fits}

abbrev step_number : {M : Type 0} → Step M → ℕ
step_number (Post m) = 1
step_number Dispatch = 2
step_number (Turn n) = 3
step_number Name = 4
step_number (Warn n) = 5

five : {M : Type 0} (s : Step M) → (1 ≤ step_number s) × (step_number s ≤ 5)
five (Post m) = (omega arith, omega arith)
five Dispatch = (omega arith, omega arith)
five (Turn n) = (omega arith, omega arith)
five Name = (omega arith, omega arith)
five (Warn n) = (omega arith, omega arith)

module _ {M : Type 0} (f : Format M) where
  named : (s : Step M) → (rest : List ℕ) × (step_bytes f s ≡ step_number s ∷ rest)
  named (Post m) = (_, refl)
  named Dispatch = (_, refl)
  named (Turn n) = (_, refl)
  named Name = (_, refl)
  named (Warn n) = (_, refl)

  apart : (s : Step M) (g bytes : List ℕ) → IsStep f s g → (slice_get bytes 0 ≡ Some (step_number s) → ⊥) → common g bytes ≡ 0
  apart s g [] is h = let z = common_fits g [] in omega arith
  apart s g (b ∷ bytes) is h =
      let x = named s in
      ap (λ w. common w (b ∷ bytes)) (is.0 ∙ x.1) ∙ common_apart (step_number s) b x.0 bytes (λ e. h (ap Some (sym e)))

  -- what reads the records of step n reads those of all steps, where the first byte is n
  among : {V : Type 0} {Is : V → List ℕ → Type 0} (n : ℕ) (make : V → Step M) → ((v : V) (g : List ℕ) → Is v g → IsStep f (make v) g) → ((s : Step M) (g : List ℕ) → step_number s ≡ n → IsStep f s g → SomeIs Is g) → (bytes : List ℕ) (err : Unlawful) → slice_get bytes 0 ≡ Some n → Reads Is 10 bytes (Err err) → Reads (IsStep f) 10 bytes (Err err)
  among n make to from bytes err b r =
      let w = r.1.shared in (
        r.0,
        record {
          shared = (w.0, (make w.1.0, to w.1.0 w.0 w.1.1), w.2);
          most = λ g s. ⊎_elim
              (λ q. r.1.most g (from s.0 g q s.1))
              (λ q. let z = apart s.0 g bytes s.1 (λ p. let e : step_number s.0 ≡ n = cc in q e) in omega arith)
              (cases_eq (step_number s.0) n);
        },
      )

  of_post : (s : Step M) (g : List ℕ) → step_number s ≡ 1 → IsStep f s g → SomeIs (IsPost f) g
  of_post (Post m) g e is = (m, is)
  of_post Dispatch g e is = absurd (omega arith)
  of_post (Turn n) g e is = absurd (omega arith)
  of_post Name g e is = absurd (omega arith)
  of_post (Warn n) g e is = absurd (omega arith)

  of_turn : (s : Step M) (g : List ℕ) → step_number s ≡ 3 → IsStep f s g → SomeIs (IsNumbered 3) g
  of_turn (Post m) g e is = absurd (omega arith)
  of_turn Dispatch g e is = absurd (omega arith)
  of_turn (Turn n) g e is = (n, is)
  of_turn Name g e is = absurd (omega arith)
  of_turn (Warn n) g e is = absurd (omega arith)

  of_warn : (s : Step M) (g : List ℕ) → step_number s ≡ 5 → IsStep f s g → SomeIs (IsNumbered 5) g
  of_warn (Post m) g e is = absurd (omega arith)
  of_warn Dispatch g e is = absurd (omega arith)
  of_warn (Turn n) g e is = absurd (omega arith)
  of_warn Name g e is = absurd (omega arith)
  of_warn (Warn n) g e is = (n, is)

  module _ (bytes : List ℕ) (err : Unlawful) where
    pub post_refused : slice_get bytes 0 ≡ Some 1 → Reads (IsPost f) 10 bytes (Err err) → Reads (IsStep f) 10 bytes (Err err)
    post_refused e r = among 1 Post (λ m g is. is) of_post bytes err e r

    pub turn_refused : slice_get bytes 0 ≡ Some 3 → Reads (IsNumbered 3) 10 bytes (Err err) → Reads (IsStep f) 10 bytes (Err err)
    turn_refused e r = among 3 Turn (λ n g is. is) of_turn bytes err e r

    pub warn_refused : slice_get bytes 0 ≡ Some 5 → Reads (IsNumbered 5) 10 bytes (Err err) → Reads (IsStep f) 10 bytes (Err err)
    warn_refused e r = among 5 Warn (λ n g is. is) of_warn bytes err e r

  -- no record begins with such a byte, or there is none
  all_apart : (bytes : List ℕ) → ((s : Step M) (g : List ℕ) → IsStep f s g → common g bytes ≡ 0) → Reads (IsStep f) 10 bytes (Err (record { lawful_up_to = 0 }))
  all_apart bytes h =
      let d : IsStep f Dispatch (bare_bytes 2) = (refl, search rules) in (
        omega arith,
        record {
          shared = (bare_bytes 2, (Dispatch, d), h Dispatch (bare_bytes 2) d);
          most = λ g s. let z = h s.0 g s.1 in omega arith;
        },
      )

  -- a first byte that names no step, or none
  pub unknown_refused : (bytes : List ℕ) → ((n : ℕ) → slice_get bytes 0 ≡ Some n → 1 ≤ n → n ≤ 5 → ⊥) → Reads (IsStep f) 10 bytes (Err (record { lawful_up_to = 0 }))
  unknown_refused bytes h =
      all_apart bytes (λ s g is. apart s g bytes is (λ e. let n = five s in h (step_number s) e n.0 n.1))

-- The members of a mask after a bit is set or cleared, and the first of them from a number on.
use Rattle.std.proofs.Common.{◌≡◌, ℕ, ◌+◌, ◌-◌, ◌*◌, ◌/◌, ◌%◌, ◌^◌, ◌<◌, ◌≤◌, true, false, not, ◌&&◌, ◌||◌, eqb, ltb, sym, ap, ◌∙◌, subst, inl, inr, arith}
use lib.Bits.{bit_and, bit_or}
use Rattle.std.specs.Int.{bit_at, bit_not, trailing_zeros, w128}
use Rattle.std.proofs.lemmas.Bool.{cases_eq, eq-eqb, lt-ltb, ne_eqb}
use Rattle.std.proofs.lemmas.Nat.{shr-shr, shr_le}
use Rattle.std.specs.Int.Count.{trailing_of_zero}
use Rattle.std.proofs.lemmas.Nat.Bits.{bit_at-trailing_zeros, bit_at-zero, bit_at_clear_other, bit_at_clear_same, bit_at_set_other, bit_at_set_same}
use Rattle.masks.specs.Members.{member}

pub member_insert : (m k : ℕ) → k < 128 → (j : ℕ) → member (bit_or m (1 * 2 ^ k % 2 ^ 128)) j ≡ (eqb j k && ltb k 128 || member m j)
member_insert m k l j =
    elim (cases_eq j k) [
      | inl same ↦ rw (eq-eqb j k same, lt-ltb k 128 l) (subst (λ i. member (bit_or m (1 * 2 ^ k % 2 ^ 128)) i ≡ true) (sym same) (ap (λ b. eqb b 1) (bit_at_set_same w128 m k l)))
      | inr other ↦ rw (ne_eqb j k other) (ap (λ b. eqb b 1) (bit_at_set_other w128 m k l j other))
    ]

pub member_remove : (m k : ℕ) → k < 128 → (j : ℕ) → j < 128 → member (bit_and m (bit_not w128 (1 * 2 ^ k % 2 ^ 128))) j ≡ (not (eqb j k) && member m j)
member_remove m k l j below =
    elim (cases_eq j k) [
      | inl same ↦ rw (eq-eqb j k same) (subst (λ i. member (bit_and m (bit_not w128 (1 * 2 ^ k % 2 ^ 128))) i ≡ false) (sym same) (ap (λ b. eqb b 1) (bit_at_clear_same w128 m k l)))
      | inr other ↦ rw (ne_eqb j k other) (ap (λ b. eqb b 1) (bit_at_clear_other w128 m k l j below other))
    ]

module _ (m low : ℕ) (fits : m < 2 ^ 128) where
  abbrev first : ℕ
  first = trailing_zeros w128 (m / 2 ^ low)

  rest_fits : m / 2 ^ low < 2 ^ 128
  rest_fits = let l = shr_le m low in omega arith

  -- no member from low on stands before the first bit that is set there
  pub before_first : (j : ℕ) → low ≤ j → j < low + first → member m j ≡ false
  before_first j l u =
      let i : ℕ = j - low in
      let e : low + i ≡ j = omega arith in
      let zero : bit_at (m / 2 ^ low) i ≡ 0 =
      elim (cases_eq (m / 2 ^ low) 0) [
        | inl none ↦ ap (λ n. bit_at n i) none ∙ bit_at-zero i
        | inr some ↦ (bit_at-trailing_zeros w128 (m / 2 ^ low) (omega arith) rest_fits).2 i (omega arith)
      ] in
      ap (λ b. eqb b 1) (ap (bit_at m) (sym e) ∙ sym (ap (λ n. n % 2) (shr-shr m low i)) ∙ zero)

  -- and that one is a member
  pub first_is_member : first < 128 → member m (low + first) ≡ true
  first_is_member h =
      let some : 0 < m / 2 ^ low =
      elim (cases_eq (m / 2 ^ low) 0) [
        | inl none ↦ absurd (let e = ap (trailing_zeros w128) none ∙ trailing_of_zero 128 in omega arith)
        | inr some ↦ omega arith
      ] in
      ap (λ b. eqb b 1) (sym (ap (λ n. n % 2) (shr-shr m low first)) ∙ (bit_at-trailing_zeros w128 (m / 2 ^ low) some rest_fits).1)

use Rattle.std.proofs.Common.{◌≡◌, ℕ, ltb, ◌+◌, ◌/◌, ◌^◌, ◌<◌, min, sym, ap, ◌∙◌, subst, inl, inr, arith, rules}
use Rattle.std.proofs.lemmas.Bool.{cases_lt, lt-ltb, le-ltb}
use Rattle.std.specs.Bool.{then_some}
use Rattle.std.specs.Int.{trailing_zeros, w128}
use Rattle.masks.specs.Members.{FirstIn}
use Rattle.masks.proofs.Digits.{before_first, first_is_member}
use Rattle.masks.proofs.mask.Mask.first_in.Goals as goal

pub returns : goal.returns
returns c =
    let m = c.args.self.now.bits in
    let low = c.args.low in
    let high = c.args.high in
    let fits : m < 2 ^ 128 = search rules in
    let first : ℕ = low + trailing_zeros w128 (m / 2 ^ low) in
    let answer : c.then_some.result ≡ then_some (ltb first (min high (low + 128))) first = search rules in
    elim (cases_lt first (min high (low + 128))) [
      | inl l ↦ subst (FirstIn m low high) (sym (answer ∙ ap (λ b. then_some b first) (lt-ltb first _ l))) (omega arith, omega arith, first_is_member m low fits (omega arith), before_first m low fits)
      | inr u ↦ subst (FirstIn m low high) (sym (answer ∙ ap (λ b. then_some b first) (le-ltb first _ u))) (λ j from below few. before_first m low fits j from (omega arith))
    ]

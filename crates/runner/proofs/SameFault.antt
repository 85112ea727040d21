-- A file has one fault.
use Rattle.std.proofs.Common.{◌≡◌, ℕ, ◌<◌, ◌≤◌, List, length, sym, ap, ◌∙◌, ⊎_elim, arith}
use Rattle.std.proofs.lemmas.Bool.{cases_lt}
use Rattle.messages.specs.declared.refusal.Refusal.{Refusal}
use Rattle.steps.specs.Beginnings.{Longest}
use Rattle.steps.specs.Lawful.{Faulty, Lawful, longest}
use Rattle.steps.specs.declared.fault.Fault.{Fault}

no_more : (file : List ℕ) (a b : ℕ) → Longest Lawful file a → Longest Lawful file b → a ≤ b
no_more file a b p q = let s = p.shared in let k = q.most s.0 s.1 in let e = s.2 in omega arith

module _ (file : List ℕ) (a b : Fault) (p : Faulty file a) (q : Faulty file b) where
  made : a.refusal ≡ b.refusal → a.offset ≡ b.offset → a ≡ b
  made r o =
      let make : Refusal → ℕ → Fault = λ k n. record { refusal = k; offset = n } in
      ap (λ k. make k a.offset) r ∙ ap (λ n. make b.refusal n) o

  same_long : longest < length file → a ≡ b
  same_long l =
      let x = p.too_long l in
      let y = q.too_long l in made (x.0 ∙ sym y.0) (x.1 ∙ sym y.1)

  same_short : length file ≤ longest → a ≡ b
  same_short l =
      let le = no_more file a.offset b.offset (p.placed l) (q.placed l) in
      let ge = no_more file b.offset a.offset (q.placed l) (p.placed l) in
      let o : a.offset ≡ b.offset = omega arith in
      made
      (⊎_elim (λ (early : a.offset < 8). p.in_header l early ∙ sym (q.in_header l (omega arith)))
      (λ (late : 8 ≤ a.offset). p.in_record l late ∙ sym (q.in_record l (omega arith))) (cases_lt a.offset 8))
      o

  pub same_fault : a ≡ b
  same_fault = ⊎_elim same_long same_short (cases_lt longest (length file))

-- What an output holds once a text was written from its start on.
use Rattle.std.proofs.Common.{◌≡◌, ℕ, ◌+◌, ◌≤◌, List, [], ◌∷◌, ◌++◌, length, drop, sym, refl, ap, ◌∙◌, append_assoc, arith}
use Rattle.std.proofs.lemmas.List.{length_push, set_at}
use Rattle.runner.specs.Output.{Holds, Wrote, write_at}

write_over : (p q text : List ℕ) → length text ≤ length q → write_at (p ++ q) (length p) text ≡ p ++ (text ++ drop (length text) q)
write_over p q [] h = refl
write_over p [] (b ∷ bs) h = absurd (omega arith)
write_over p (y ∷ ys) (b ∷ bs) h =
    let split : p ++ b ∷ ys ≡ (p ++ b ∷ []) ++ ys = sym (append_assoc p (b ∷ []) ys) in
    ap (λ o. write_at o (length p + 1) bs) (set_at p y ys b (length p) refl ∙ split)
    ∙ ap (λ i. write_at ((p ++ b ∷ []) ++ ys) i bs) (sym (length_push p b))
    ∙ write_over (p ++ b ∷ []) ys bs (omega arith)
    ∙ append_assoc p (b ∷ []) (bs ++ drop (length bs) ys)

pub wrote_holds : (text before after : List ℕ) (n : ℕ) → Wrote before 0 text after n → n ≤ length before → Holds text before after n
wrote_holds text before after n w h =
    let p = w.place in
    let size : n ≡ length text = omega arith in
    let over : write_at before 0 text ≡ text ++ drop (length text) before = write_over [] before text (omega arith) in
    record { size = size; within = h; content = w.content ∙ over ∙ ap (λ k. text ++ drop k before) (sym size) }

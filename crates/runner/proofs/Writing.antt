-- One text written behind another.
use Rattle.std.proofs.Common.{◌≡◌, ℕ, ◌+◌, ◌/◌, ◌%◌, ◌^◌, ◌<◌, ◌≤◌, List, [], ◌∷◌, ◌++◌, length, set, decimal, refl, ap, ◌∙◌, subst, add-zero, arith, length-append, length-set}
use Rattle.std.proofs.lemmas.Fmt.{decimal_digit, decimal_step}
use Rattle.std.proofs.lemmas.List.{length_push}
use Rattle.runner.specs.Output.{Wrote, write_at}

write_append : (o : List ℕ) (at : ℕ) (xs ys : List ℕ) → write_at (write_at o at xs) (at + length xs) ys ≡ write_at o at (xs ++ ys)
write_append o at [] ys = ap (λ i. write_at o i ys) (add-zero at)
write_append o at (x ∷ xs) ys =
    let e : at + length (x ∷ xs) ≡ at + 1 + length xs = omega arith in
    ap (λ i. write_at (write_at (set o at x) (at + 1) xs) i ys) e ∙ write_append (set o at x) (at + 1) xs ys

pub wrote_more : (o : List ℕ) (at : ℕ) (xs ys mid after : List ℕ) (k end : ℕ) → Wrote o at xs mid k → Wrote mid k ys after end → Wrote o at (xs ++ ys) after end
wrote_more o at xs ys mid after k end a b =
    let n = length-append xs ys in
    let p = a.place in
    let q = b.place in
    let e : write_at mid k ys ≡ write_at (write_at o at xs) (at + length xs) ys =
    ap (λ m. write_at m k ys) a.content ∙ ap (λ i. write_at (write_at o at xs) i ys) a.place in
    record { content = b.content ∙ e ∙ write_append o at xs ys; place = omega arith }

pub wrote_as : (o : List ℕ) (at : ℕ) (xs ys after : List ℕ) (end : ℕ) → xs ≡ ys → Wrote o at xs after end → Wrote o at ys after end
wrote_as o at xs ys after end e w = subst (λ t. Wrote o at t after end) e w

length_write : (o : List ℕ) (at : ℕ) (xs : List ℕ) → length (write_at o at xs) ≡ length o
length_write o at [] = refl
length_write o at (x ∷ xs) = length_write (set o at x) (at + 1) xs ∙ length-set o at x

pub wrote_length : (o : List ℕ) (at : ℕ) (xs after : List ℕ) (end : ℕ) → Wrote o at xs after end → length after ≡ length o
wrote_length o at xs after end w = ap length w.content ∙ length_write o at xs

-- a number of one digit, and the last digit of a longer one
pub one_digit : (n : ℕ) → n < 10 → length (decimal n) ≡ 1
one_digit n h = ap length (decimal_digit n h)

pub more_digits : (n : ℕ) → 10 ≤ n → n < 2 ^ 64 → length (decimal n) ≡ length (decimal (n / 10)) + 1
more_digits n h k = ap length (decimal_step n h k) ∙ length_push (decimal (n / 10)) (48 + n % 10)

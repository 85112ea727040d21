-- Bytes in their ranges: how far a list stays inside is how far some list that lies within begins alike.
use Rattle.std.proofs.Common.{◌≡◌, ℕ, ◌+◌, ◌<◌, ◌≤◌, Bool, true, false, ◌&&◌, cond, eqb, leb, List, [], ◌∷◌, length, map, take, Err, sym, refl, ap, ◌∙◌, subst, ⊎_elim, arith}
use Rattle.std.proofs.lemmas.Bool.{and_parts, cases_Bool, cond-true, cond-false, leb-true, eqb-true, le-leb, and_from, true≢false}
use Rattle.std.proofs.lemmas.List.Sums.{common_prefix_len-le}
use Rattle.std.specs.List.{AllByRecursion, prefix_len, zip}
use Rattle.steps.specs.declared.fault.Unlawful.{Unlawful}
use Rattle.steps.specs.declared.ranges.ByteRange.{ByteRange}
use Rattle.steps.specs.Beginnings.{common, Longest}
use Rattle.steps.specs.Layout.{Byte}
use Rattle.steps.specs.Ranges.{Cut, inside, Within}
use Rattle.steps.specs.Reading.{Reads, SomeIs}
use Rattle.steps.proofs.Alike.{common_same, common_apart, longest_same}

-- a range that holds some byte, and only bytes
abbrev pub Sound : ByteRange → Type 0
Sound r = (r.low ≤ r.high) × (r.high < 256)

abbrev In : ByteRange → ℕ → Type 0
In r b = (r.low ≤ b) × (b ≤ r.high)

abbrev pub holds : ByteRange → ℕ → Bool
holds r b = leb r.low b && leb b r.high

holds_in : (r : ByteRange) (b : ℕ) → holds r b ≡ true → In r b
holds_in r b e = let p = and_parts _ _ e in (leb-true _ _ p.0, leb-true _ _ p.1)

in_holds : (r : ByteRange) (b : ℕ) → In r b → holds r b ≡ true
in_holds r b i = and_from _ _ (le-leb _ _ i.0) (le-leb _ _ i.1)

-- where the test of the first byte is known
inside_in : (r : ByteRange) (rs : List ByteRange) (b : ℕ) (bs : List ℕ) → holds r b ≡ true → inside (r ∷ rs) (b ∷ bs) ≡ 1 + inside rs bs
inside_in r rs b bs e = cond-true _ _ _ e

inside_out : (r : ByteRange) (rs : List ByteRange) (b : ℕ) (bs : List ℕ) → holds r b ≡ false → inside (r ∷ rs) (b ∷ bs) ≡ 0
inside_out r rs b bs e = cond-false _ _ _ e

-- no list within its ranges begins like `bytes` for longer than these stay inside
pub inside_most : (rs : List ByteRange) (g bs : List ℕ) → Within rs g → common g bs ≤ inside rs bs
inside_most [] [] bs w = omega arith
inside_most [] (x ∷ g) bs w = absurd w
inside_most (r ∷ rs) [] bs w = absurd w
inside_most (r ∷ rs) (x ∷ g) [] w = omega arith
inside_most (r ∷ rs) (x ∷ g) (b ∷ bs) w =
    ⊎_elim
    (λ e.
    let same : x ≡ b = eqb-true x b e in
    let a : common (x ∷ g) (b ∷ bs) ≡ 1 + common g bs = cond-true _ _ _ e in
    let i : inside (r ∷ rs) (b ∷ bs) ≡ 1 + inside rs bs = inside_in r rs b bs (in_holds r b (subst (In r) same w.0)) in
    let ih : common g bs ≤ inside rs bs = inside_most rs g bs w.1 in omega arith)
    (λ e. let a : common (x ∷ g) (b ∷ bs) ≡ 0 = cond-false _ _ _ e in omega arith)
    (cases_Bool (eqb x b))

-- the lowest bytes of all ranges lie within them
abbrev lows : List ByteRange → List ℕ
lows rs = map (λ r. r.low) rs

lows_within : (rs : List ByteRange) → AllByRecursion Sound rs → Within rs (lows rs)
lows_within [] s = tt
lows_within (r ∷ rs) s = ((omega arith, s.0.0), lows_within rs s.1)

-- some list within its ranges begins like `bytes` for as long as these stay inside
pub inside_shared : (rs : List ByteRange) → AllByRecursion Sound rs → (bs : List ℕ) → (g : List ℕ) × Within rs g × (common g bs ≡ inside rs bs)
inside_shared [] s bs = ([], tt, refl)
inside_shared (r ∷ rs) s [] = (r.low ∷ lows rs, ((omega arith, s.0.0), lows_within rs s.1), refl)
inside_shared (r ∷ rs) s (b ∷ bs) =
    ⊎_elim
    (λ e.
    let ih = inside_shared rs s.1 bs in
    (b ∷ ih.0, (holds_in r b e, ih.1), common_same b ih.0 bs ∙ ap (λ n. 1 + n) ih.2 ∙ sym (inside_in r rs b bs e)))
    (λ e.
    let apart : r.low ≡ b → ⊥ = λ q. true≢false (sym (in_holds r b (omega (arith, s.0.0, q), omega (arith, s.0.0, q))) ∙ e) in
    (r.low ∷ lows rs, ((omega arith, s.0.0), lows_within rs s.1), common_apart r.low b (lows rs) bs apart ∙ sym (inside_out r rs b bs e)))
    (cases_Bool (holds r b))

pub inside_longest : (rs : List ByteRange) → AllByRecursion Sound rs → (bs : List ℕ) → Longest (Within rs) bs (inside rs bs)
inside_longest rs s bs = record { shared = inside_shared rs s bs; most = λ g w. inside_most rs g bs w }

-- what is cut short where the values of V are just the lists within the ranges
pub cut_refused : {V : Type 0} {Is : V → List ℕ → Type 0} (rs : List ByteRange) → AllByRecursion Sound rs → ((g : List ℕ) → Within rs g → SomeIs Is g) → ((g : List ℕ) → SomeIs Is g → Within rs g) → (bs : List ℕ) (err : Unlawful) → Cut rs bs (Err err) → Reads Is (length rs) bs (Err err)
cut_refused {V} {Is} rs s to from bs err c =
    (c.1, subst (Longest (SomeIs Is) bs) (sym c.0) (longest_same to from (inside_longest rs s bs)))

-- bytes that are all inside
pub inside_all : (rs : List ByteRange) (bs : List ℕ) → length rs ≤ inside rs bs → Within rs (take (length rs) bs)
inside_all [] bs h = tt
inside_all (r ∷ rs) [] h = absurd (omega arith)
inside_all (r ∷ rs) (b ∷ bs) h =
    ⊎_elim
    (λ e.
    let i : inside (r ∷ rs) (b ∷ bs) ≡ 1 + inside rs bs = inside_in r rs b bs e in
    (holds_in r b e, inside_all rs bs (omega arith)))
    (λ e. let i : inside (r ∷ rs) (b ∷ bs) ≡ 0 = inside_out r rs b bs e in absurd (omega arith))
    (cases_Bool (holds r b))

pub inside_fits : (rs : List ByteRange) (bs : List ℕ) → (inside rs bs ≤ length rs) × (inside rs bs ≤ length bs)
inside_fits rs bs = common_prefix_len-le holds rs bs

-- a walk along both lists
pub prefix_len-zip : (rs : List ByteRange) (bs : List ℕ) → prefix_len (λ p. holds p.0 p.1) (zip rs bs) ≡ inside rs bs
prefix_len-zip [] bs = refl
prefix_len-zip (r ∷ rs) [] = refl
prefix_len-zip (r ∷ rs) (b ∷ bs) = ap (λ n. cond (holds r b) (1 + n) 0) (prefix_len-zip rs bs)

pub within_bytes : (rs : List ByteRange) → AllByRecursion Sound rs → (g : List ℕ) → Within rs g → AllByRecursion Byte g
within_bytes [] s [] w = tt
within_bytes [] s (b ∷ g) w = absurd w
within_bytes (r ∷ rs) s [] w = absurd w
within_bytes (r ∷ rs) s (b ∷ g) w = (omega (arith, s.0.1, w.0.1), within_bytes rs s.1 g w.1)

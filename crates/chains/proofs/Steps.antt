-- What taking a place out of a chain, and putting one at its end, does to all chains.
use Rattle.std.proofs.Common.{◌≡◌, ℕ, zero, suc, ◌+◌, ◌-◌, ◌<◌, ◌≤◌, ◌⊎◌, List, [], ◌∷◌, length, get_or, set, sym, refl, ap, ◌∙◌, inl, inr, zero-add, arith}
use Rattle.std.proofs.lemmas.List.{get_or-set_same, get_or-set_other}
use Rattle.std.proofs.lemmas.Bool.{cases_lt, cases_eq}
use Rattle.chains.specs.declared.link.Link.{Link}
use Rattle.chains.specs.Chains.{no_link, link_at, step, place, Has, Inside, Meet, Apart, Ends, Free, counted, popped, without, Grown}

pub counted_at : (hs : List Link) (k : ℕ) → (link_at hs k).count ≤ counted hs
counted_at [] k = omega arith
counted_at (h ∷ hs) zero = omega arith
counted_at (h ∷ hs) (suc k) = let e = counted_at hs k in omega arith

pub counted_set : (hs : List Link) (k : ℕ) (h' : Link) → k < length hs → counted (set hs k h') + (link_at hs k).count ≡ counted hs + h'.count
counted_set [] k h' l = absurd (omega arith)
counted_set (h ∷ hs) zero h' l = omega arith
counted_set (h ∷ hs) (suc k) h' l = let e = counted_set hs k h' (omega arith) in omega arith

pub step_next : (next : List ℕ) (from a : ℕ) → step next (get_or next from 0) a ≡ step next from (suc a)
step_next next from zero = refl
step_next next from (suc a) = ap (λ p. get_or next p 0) (step_next next from a)

-- out of chain k

abbrev pub off : ℕ → ℕ → ℕ
off zero zero = 1
off zero (suc j) = 0
off (suc k) zero = 0
off (suc k) (suc j) = off k j

pub off_same : (k : ℕ) → off k k ≡ 1
off_same zero = refl
off_same (suc k) = off_same k

pub without_at : (heads : List Link) (next : List ℕ) (k : ℕ) → k < length heads → 0 < (link_at heads k).count → (j a : ℕ)
    → (place (without heads next k) next j a ≡ place heads next j (off k j + a))
    × ((link_at heads j).count ≡ off k j + (link_at (without heads next k) j).count)
    × ((link_at (without heads next k) j).last ≡ (link_at heads j).last)
without_at [] next k l some j a = absurd (omega arith)
without_at (h ∷ hs) next zero l some zero a =
    let z : suc a ≡ 1 + a = omega arith in
    (step_next next h.first a ∙ ap (step next h.first) z, omega arith, refl)
without_at (h ∷ hs) next zero l some (suc j) a = (ap (λ i. place hs next j i) (sym (zero-add a)), omega arith, refl)
without_at (h ∷ hs) next (suc k) l some zero a = (ap (λ i. step next h.first i) (sym (zero-add a)), omega arith, refl)
without_at (h ∷ hs) next (suc k) l some (suc j) a = without_at hs next k (omega arith) some j a

module _ (heads : List Link) (next : List ℕ) (k : ℕ) (l : k < length heads) (some : 0 < (link_at heads k).count) where
  pub pop_inside : (size : ℕ) → Inside heads next size → Inside (without heads next k) next size
  pop_inside size inside j a h =
      let w = without_at heads next k l some j a in
      let i = inside j (off k j + a) (omega arith) in
      omega arith

  pub pop_apart : Apart heads next → Apart (without heads next k) next
  pop_apart apart m =
      let w = without_at heads next k l some m.j m.a in
      let v = without_at heads next k l some m.k m.b in
      let n : Meet heads next = record { j = m.j; k = m.k; a = off k m.j + m.a; b = off k m.k + m.b; one = (let h = m.one in omega arith); other = (let h = m.other in omega arith); meet = sym w.0 ∙ m.meet ∙ v.0 } in
      let r = apart n in
      (r.0, omega (arith, r.1, ap (off k) r.0))

  pub pop_ends : Ends heads next → Ends (without heads next k) next
  pop_ends ends j a e =
      let w = without_at heads next k l some j a in
      w.0 ∙ ends j (off k j + a) (omega arith) ∙ sym w.2

  pub pop_free : Apart heads next → Free (without heads next k) next (link_at heads k).first
  pop_free apart j i h e =
      let w = without_at heads next k l some j i in
      let n : Meet heads next = record { j = j; k = k; a = off k j + i; b = 0; one = omega arith; other = some; meet = sym w.0 ∙ e } in
      let r = apart n in
      omega (arith, r.1, ap (off k) r.0, off_same k)

  pub pop_counts : counted (without heads next k) + 1 ≡ counted heads
  pop_counts = let e = counted_set heads k (popped next (link_at heads k)) l in omega arith

-- into chain k

module _ {heads : List Link} {next : List ℕ} {after : List Link} {next' : List ℕ} {k p : ℕ} (g : Grown heads next after next' k p) where
  -- an entry is an old one or the new one
  pub entry : (j a : ℕ) → Has after j a → (Has heads j a) ⊎ ((j ≡ k) × (a ≡ (link_at heads k).count))
  entry j a h =
      elim (cases_eq j k) [
        | inl same ↦
            let e = ap (λ x. (link_at after x).count) same in
            let f = ap (λ x. (link_at heads x).count) same in
            let m = g.more in
            elim (cases_lt a (link_at heads k).count) [ inl u ↦ inl (omega arith) | inr u ↦ inr (same, omega arith) ]
        | inr other ↦ let o = g.others j other in inl (omega arith)
      ]

  at_new : (j a : ℕ) → j ≡ k → a ≡ (link_at heads k).count → place after next' j a ≡ p
  at_new j a e f = ap (λ x. place after next' x a) e ∙ ap (λ x. place after next' k x) f ∙ g.new

  pub grown_inside : (size : ℕ) → p < size → Inside heads next size → Inside after next' size
  grown_inside size lt inside j a h =
      elim (entry j a h) [
        | inl o ↦ let e = g.kept j a o in let i = inside j a o in omega arith
        | inr n ↦ let e = at_new j a n.0 n.1 in omega arith
      ]

  pub grown_apart : Free heads next p → Apart heads next → Apart after next'
  grown_apart free apart m =
      elim (entry m.j m.a m.one) [
        | inl o ↦ elim (entry m.k m.b m.other) [
          | inl q ↦ apart (record { j = m.j; k = m.k; a = m.a; b = m.b; one = o; other = q; meet = sym (g.kept m.j m.a o) ∙ m.meet ∙ g.kept m.k m.b q })
          | inr n ↦ absurd (free m.j m.a o (sym (g.kept m.j m.a o) ∙ m.meet ∙ at_new m.k m.b n.0 n.1))
        ]
        | inr n ↦ elim (entry m.k m.b m.other) [
          | inl q ↦ absurd (free m.k m.b q (sym (g.kept m.k m.b q) ∙ sym m.meet ∙ at_new m.j m.a n.0 n.1))
          | inr n' ↦ (n.0 ∙ sym n'.0, n.1 ∙ sym n'.1)
        ]
      ]

  pub grown_ends : Ends heads next → Ends after next'
  grown_ends ends j a e =
      elim (cases_eq j k) [
        | inl same ↦
            let c = ap (λ x. (link_at after x).count) same in
            let m = g.more in
            at_new j a same (omega arith) ∙ sym g.end ∙ ap (λ x. (link_at after x).last) (sym same)
        | inr other ↦
            let o = g.others j other in
            g.kept j a (omega arith) ∙ ends j a (omega arith) ∙ sym o.1
      ]

pub step_keep : (next next' : List ℕ) (from a : ℕ) → ((i : ℕ) → i < a → get_or next' (step next from i) 0 ≡ get_or next (step next from i) 0) → step next' from a ≡ step next from a
step_keep next next' from zero same = refl
step_keep next next' from (suc a) same =
    ap (λ p. get_or next' p 0) (step_keep next next' from a (λ i l. same i (omega arith))) ∙ same a (omega arith)

-- a place put behind the last of a chain that has one
module _ (heads : List Link) (next : List ℕ) (k p : ℕ) (l : k < length heads) (some : 0 < (link_at heads k).count) (apart : Apart heads next) (ends : Ends heads next) (lt : (link_at heads k).last < length next) where
  abbrev longer : Link
  longer = record { first = (link_at heads k).first; last = p; count = (link_at heads k).count + 1 }

  first_same : (j : ℕ) → (link_at (set heads k longer) j).first ≡ (link_at heads j).first
  first_same j =
      elim (cases_eq j k) [
        | inl same ↦ ap (λ x. (link_at (set heads k longer) x).first) same ∙ ap (λ h. h.first) (get_or-set_same heads k longer no_link l) ∙ ap (λ x. (link_at heads x).first) (sym same)
        | inr other ↦ ap (λ h. h.first) (get_or-set_other heads k j longer no_link other)
      ]

  not_last : (j i : ℕ) → suc i < (link_at heads j).count → place heads next j i ≡ (link_at heads k).last → ⊥
  not_last j i h e =
      let end = ends k ((link_at heads k).count - 1) (omega arith) in
      let n : Meet heads next = record { j = j; k = k; a = i; b = (link_at heads k).count - 1; one = omega arith; other = omega arith; meet = e ∙ sym end } in
      let r = apart n in
      omega (arith, r.1, ap (λ x. (link_at heads x).count) r.0)

  kept_on : (j a : ℕ) → Has heads j a → place (set heads k longer) (set next (link_at heads k).last p) j a ≡ place heads next j a
  kept_on j a h =
      ap (λ f. step (set next (link_at heads k).last p) f a) (first_same j)
      ∙ step_keep next (set next (link_at heads k).last p) (link_at heads j).first a (λ i u. get_or-set_other next (link_at heads k).last (place heads next j i) p 0 (not_last j i (omega arith)))

  pub on_grown : Grown heads next (set heads k longer) (set next (link_at heads k).last p) k p
  on_grown = record {
    kept = kept_on;
    new =
        let m : (link_at heads k).count ≡ suc ((link_at heads k).count - 1) = omega arith in
        ap (λ x. place (set heads k longer) (set next (link_at heads k).last p) k x) m
        ∙ ap (λ x. get_or (set next (link_at heads k).last p) x 0) (kept_on k ((link_at heads k).count - 1) (omega arith) ∙ ends k ((link_at heads k).count - 1) (omega arith))
        ∙ get_or-set_same next (link_at heads k).last p 0 lt;
    more = (let e = ap (λ h. h.count) (get_or-set_same heads k longer no_link l) in omega arith);
    end = ap (λ h. h.last) (get_or-set_same heads k longer no_link l);
    others = λ j other. (ap (λ h. h.count) (get_or-set_other heads k j longer no_link other), ap (λ h. h.last) (get_or-set_other heads k j longer no_link other));
  }

-- a place put into a chain that has none
module _ (heads : List Link) (next : List ℕ) (k p : ℕ) (l : k < length heads) (none : (link_at heads k).count ≡ 0) where
  abbrev alone : Link
  alone = record { first = p; last = p; count = 1 }

  kept_first : (j a : ℕ) → Has heads j a → place (set heads k alone) next j a ≡ place heads next j a
  kept_first j a h =
      ap (λ g. step next g.first a) (get_or-set_other heads k j alone no_link (λ same. let e = ap (λ x. (link_at heads x).count) same in omega arith))

  pub first_grown : Grown heads next (set heads k alone) next k p
  first_grown = record {
    kept = kept_first;
    new = ap (λ x. place (set heads k alone) next k x) none ∙ ap (λ h. h.first) (get_or-set_same heads k alone no_link l);
    more = (let e = ap (λ h. h.count) (get_or-set_same heads k alone no_link l) in omega arith);
    end = ap (λ h. h.last) (get_or-set_same heads k alone no_link l);
    others = λ j other. (ap (λ h. h.count) (get_or-set_other heads k j alone no_link other), ap (λ h. h.last) (get_or-set_other heads k j alone no_link other));
  }

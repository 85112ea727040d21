-- A place that leaves one chain for the end of another, and the free chain behind those of the trays.
use Rattle.std.proofs.Common.{◌≡◌, ℕ, zero, suc, ◌+◌, ◌-◌, ◌<◌, ◌≤◌, List, [], ◌∷◌, ◌++◌, length, get_or, set, replicate, sym, refl, ap, ◌∙◌, subst, inl, inr, add-one, arith, length-append, length-set}
use Rattle.std.proofs.lemmas.Bool.{cases_lt, ne_eqb}
use Rattle.std.proofs.lemmas.List.{get_or-append_right, get_or_append_left, get_or_past, set-append_left, set-append_right}
use Rattle.chains.specs.declared.link.Link.{Link}
use Rattle.chains.specs.declared.links.Links.{Links}
use Rattle.chains.specs.Chains.{no_link, link_at, step, place, Has, Inside, Apart, Ends, Free, Grown, counted, every_place, popped, pushed, pushed_next, with_free, without}
use Rattle.chains.proofs.Steps.{counted_at, counted_set, first_grown, grown_apart, grown_ends, grown_inside, on_grown, pop_apart, pop_counts, pop_ends, pop_free, pop_inside}

-- all chains after the place p, which `left` has not, has come to the end of the chain h, that is chain `to`
pub record Shifted (next next' : List ℕ) (size to : ℕ) (left after : List Link) (h : Link) (p : ℕ) : Type 0 where
  pub counts : counted after ≤ size
  pub inside : Inside after next' size
  pub apart : Apart after next'
  pub ends : Ends after next'
  pub grown : Grown left next after next' to p
  pub free : Free left next p
  pub below : p < size
  pub room : h.count < size
  pub last : 0 < h.count → h.last < length next

-- the first place of the chain `from` goes to the end of the chain `to`
module _ (heads : List Link) (next : List ℕ) (size from to : ℕ) (l : from < length heads) (t : to < length heads) (some : 0 < (link_at heads from).count)
    (counts : counted heads ≤ size) (inside : Inside heads next size) (apart : Apart heads next) (ends : Ends heads next) (fits : size ≤ length next) where
  abbrev left : List Link
  left = without heads next from

  abbrev moved : ℕ
  moved = (link_at heads from).first

  abbrev after : List Link
  after = set left to (pushed moved (link_at left to))

  abbrev after_next : List ℕ
  after_next = pushed_next next moved (link_at left to)

  there : to < length left
  there = let e = length-set heads from (popped next (link_at heads from)) in omega arith

  left_inside : Inside left next size
  left_inside = pop_inside heads next from l some size inside

  left_ends : Ends left next
  left_ends = pop_ends heads next from l some ends

  left_apart : Apart left next
  left_apart = pop_apart heads next from l some apart

  last_inside : 0 < (link_at left to).count → (link_at left to).last < length next
  last_inside s =
      let n = (link_at left to).count - 1 in
      let i = left_inside to n (omega arith) in
      let e = left_ends to n (omega arith) in
      omega arith

  shift_grown : Grown left next after after_next to moved
  shift_grown = go (link_at left to).count refl
    where
      go : (n : ℕ) → (link_at left to).count ≡ n → Grown left next after after_next to moved
      go zero e = rw e (first_grown left next to moved there e)
      go (suc n) e =
          let s : 0 < (link_at left to).count = omega arith in
          rw (ne_eqb (link_at left to).count 0 (λ z. omega arith)) (on_grown left next to moved there s left_apart left_ends (last_inside s))

  pub shifted : Shifted next after_next size to left after (link_at left to) moved
  shifted =
      let n = pop_counts heads next from l some in
      let free = pop_free heads next from l some apart in
      let below = inside from 0 some in
      record {
        counts = (let m = counted_set left to (pushed moved (link_at left to)) there in omega arith);
        inside = grown_inside shift_grown size below left_inside;
        apart = grown_apart shift_grown free left_apart;
        ends = grown_ends shift_grown left_ends;
        grown = shift_grown;
        free = free;
        below = below;
        room = (let m = counted_at left to in omega arith);
        last = last_inside;
      }

-- the free chain stands behind those of the trays

module _ (heads : List Link) (free : Link) (n : ℕ) (long : length heads ≡ n) where
  pub with_free_length : length (with_free heads free) ≡ suc n
  with_free_length = rw length-append (omega arith)

  pub with_free_tray : (k : ℕ) → k < n → link_at (with_free heads free) k ≡ link_at heads k
  with_free_tray k l = get_or_append_left heads (free ∷ []) no_link k (omega arith)

  pub with_free_last : link_at (with_free heads free) n ≡ free
  with_free_last =
      let z : n - n ≡ 0 = omega arith in
      get_or-append_right heads (free ∷ []) n n no_link long (omega arith) ∙ ap (link_at (free ∷ [])) z

  pub with_free_set : (k : ℕ) (h : Link) → k < n → set (with_free heads free) k h ≡ with_free (set heads k h) free
  with_free_set k h l = set-append_left heads (free ∷ []) k h (omega arith)

  pub with_free_set_last : (h : Link) → set (with_free heads free) n h ≡ with_free heads h
  with_free_set_last h =
      let z : n - n ≡ 0 = omega arith in
      set-append_right heads (free ∷ []) n n h long (omega arith) ∙ ap (λ i. heads ++ set (free ∷ []) i h) z

-- what no chain of the trays and no free one has, no tray has
pub free_front : (heads : List Link) (next : List ℕ) (free : Link) (n p : ℕ) → length heads ≡ n → Free (with_free heads free) next p → Free heads next p
free_front heads next free n p long none k i has is =
    elim (cases_lt k n) [
      | inl l ↦
          let e = with_free_tray heads free n long k l in
          none k i (subst (λ h. i < h.count) (sym e) has) (ap (λ h. step next h.first i) e ∙ is)
      | inr u ↦ absurd (let z = ap (λ h. h.count) (get_or_past heads k no_link (omega arith)) in omega arith)
    ]

-- a tray's chain grows where all chains are seen
pub grown_front : (heads after : List Link) (next next' : List ℕ) (free free' : Link) (n k p : ℕ) → length heads ≡ n → length after ≡ n → k < n → Grown (with_free heads free) next (with_free after free') next' k p → Grown heads next after next' k p
grown_front heads after next next' free free' n k p long long' l g = record {
  kept = λ j a has. elim (cases_lt j n) [
    | inl u ↦
        let e = at j u in
        let f = at' j u in
        ap (λ h. step next' h.first a) (sym f) ∙ g.kept j a (subst (λ h. a < h.count) (sym e) has) ∙ ap (λ h. step next h.first a) e
    | inr u ↦ absurd (let z = ap (λ h. h.count) (get_or_past heads j no_link (omega arith)) in omega arith)
  ];
  new = subst (λ h. step next' h.first (link_at heads k).count ≡ p) (at' k l) (subst (λ h. step next' (link_at (with_free after free') k).first h.count ≡ p) (at k l) g.new);
  more = (let e = ap (λ h. h.count) (at k l) in let f = ap (λ h. h.count) (at' k l) in let m = g.more in omega arith);
  end = ap (λ h. h.last) (sym (at' k l)) ∙ g.end;
  others = λ j other. elim (cases_lt j n) [
    | inl u ↦
        let o = g.others j other in
        let e = at j u in
        let f = at' j u in
        (ap (λ h. h.count) (sym f) ∙ o.0 ∙ ap (λ h. h.count) e, ap (λ h. h.last) (sym f) ∙ o.1 ∙ ap (λ h. h.last) e)
    | inr u ↦
        let e = get_or_past heads j no_link (omega arith) in
        let f = get_or_past after j no_link (omega arith) in
        (ap (λ h. h.count) f ∙ sym (ap (λ h. h.count) e), ap (λ h. h.last) f ∙ sym (ap (λ h. h.last) e))
  ];
}
  where
    at : (j : ℕ) → j < n → link_at (with_free heads free) j ≡ link_at heads j
    at = with_free_tray heads free n long

    at' : (j : ℕ) → j < n → link_at (with_free after free') j ≡ link_at after j
    at' = with_free_tray after free' n long'

-- the chains of a bank after the first free place has gone to the end of tray k's chain, and the other way round
module _ (s : Links) (k : ℕ) (l : k < 128) where
  abbrev chains : List Link
  chains = with_free s.heads s.free

  abbrev chain : Link
  chain = link_at s.heads k

  tray_here : k < length chains
  tray_here = let e = with_free_length s.heads s.free 128 s.whole in omega arith

  free_here : 128 < length chains
  free_here = let e = with_free_length s.heads s.free 128 s.whole in omega arith

  fits : s.size ≤ length s.next
  fits = let a = s.small in let b = s.long in omega arith

  pub fill_shifted : 0 < s.free.count → (p : ℕ) (h' f' : Link) (next' : List ℕ) → p ≡ s.free.first → h' ≡ pushed p chain → f' ≡ popped s.next s.free → next' ≡ pushed_next s.next p chain
      → Shifted s.next next' s.size k (with_free s.heads f') (with_free (set s.heads k h') f') chain p
  fill_shifted some p h' f' next' ep eh ef en =
      let free = with_free_last s.heads s.free 128 s.whole in
      let rest = popped s.next s.free in
      let left : without chains s.next 128 ≡ with_free s.heads rest =
      ap (λ h. set chains 128 (popped s.next h)) free ∙ with_free_set_last s.heads s.free 128 s.whole rest in
      let tray : link_at (without chains s.next 128) k ≡ chain = ap (λ hs. link_at hs k) left ∙ with_free_tray s.heads rest 128 s.whole k l in
      let t = shifted chains s.next s.size 128 k free_here tray_here (subst (λ h. 0 < h.count) (sym free) some) s.counts s.inside s.apart s.ends fits in
      let t₁ = subst (λ q. Shifted s.next (pushed_next s.next q (link_at (without chains s.next 128) k)) s.size k (without chains s.next 128) (set (without chains s.next 128) k (pushed q (link_at (without chains s.next 128) k))) (link_at (without chains s.next 128) k) q) (ap (λ h. h.first) free ∙ sym ep) t in
      let t₂ = subst (λ h. Shifted s.next (pushed_next s.next p h) s.size k (without chains s.next 128) (set (without chains s.next 128) k (pushed p h)) h p) tray t₁ in
      let t₃ = subst (λ hs. Shifted s.next (pushed_next s.next p chain) s.size k hs (set hs k (pushed p chain)) chain p) left t₂ in
      let t₄ = subst (λ hs. Shifted s.next (pushed_next s.next p chain) s.size k (with_free s.heads rest) hs chain p) (with_free_set s.heads rest 128 s.whole k (pushed p chain) l) t₃ in
      let t₅ = subst (λ n. Shifted s.next n s.size k (with_free s.heads rest) (with_free (set s.heads k (pushed p chain)) rest) chain p) (sym en) t₄ in
      let t₆ = subst (λ f. Shifted s.next next' s.size k (with_free s.heads f) (with_free (set s.heads k (pushed p chain)) f) chain p) (sym ef) t₅ in
      subst (λ h. Shifted s.next next' s.size k (with_free s.heads f') (with_free (set s.heads k h) f') chain p) (sym eh) t₆

  pub release_shifted : 0 < chain.count → (p : ℕ) (h' f' : Link) (next' : List ℕ) → p ≡ chain.first → h' ≡ popped s.next chain → f' ≡ pushed p s.free → next' ≡ pushed_next s.next p s.free
      → Shifted s.next next' s.size 128 (with_free (set s.heads k h') s.free) (with_free (set s.heads k h') f') s.free p
  release_shifted some p h' f' next' ep eh ef en =
      let tray = with_free_tray s.heads s.free 128 s.whole k l in
      let rest = without s.heads s.next k in
      let long : length rest ≡ 128 = length-set s.heads k (popped s.next chain) ∙ s.whole in
      let left : without chains s.next k ≡ with_free rest s.free =
      ap (λ h. set chains k (popped s.next h)) tray ∙ with_free_set s.heads s.free 128 s.whole k (popped s.next chain) l in
      let free : link_at (without chains s.next k) 128 ≡ s.free = ap (λ hs. link_at hs 128) left ∙ with_free_last rest s.free 128 long in
      let t = shifted chains s.next s.size k 128 tray_here free_here (subst (λ h. 0 < h.count) (sym tray) some) s.counts s.inside s.apart s.ends fits in
      let t₁ = subst (λ q. Shifted s.next (pushed_next s.next q (link_at (without chains s.next k) 128)) s.size 128 (without chains s.next k) (set (without chains s.next k) 128 (pushed q (link_at (without chains s.next k) 128))) (link_at (without chains s.next k) 128) q) (ap (λ h. h.first) tray ∙ sym ep) t in
      let t₂ = subst (λ h. Shifted s.next (pushed_next s.next p h) s.size 128 (without chains s.next k) (set (without chains s.next k) 128 (pushed p h)) h p) free t₁ in
      let t₃ = subst (λ hs. Shifted s.next (pushed_next s.next p s.free) s.size 128 hs (set hs 128 (pushed p s.free)) s.free p) left t₂ in
      let t₄ = subst (λ hs. Shifted s.next (pushed_next s.next p s.free) s.size 128 (with_free rest s.free) hs s.free p) (with_free_set_last rest s.free 128 long (pushed p s.free)) t₃ in
      let t₅ = subst (λ n. Shifted s.next n s.size 128 (with_free rest s.free) (with_free rest (pushed p s.free)) s.free p) (sym en) t₄ in
      let t₆ = subst (λ f. Shifted s.next next' s.size 128 (with_free rest s.free) (with_free rest f) s.free p) (sym ef) t₅ in
      subst (λ h. Shifted s.next next' s.size 128 (with_free (set s.heads k h) s.free) (with_free (set s.heads k h) f') s.free p) (sym eh) t₆

-- where only the free chain grows, each entry of a tray stays where it was
pub kept_front : (heads : List Link) (next next' : List ℕ) (free free' : Link) (n p : ℕ) → length heads ≡ n → Grown (with_free heads free) next (with_free heads free') next' n p → (k i : ℕ) → Has heads k i → place heads next' k i ≡ place heads next k i
kept_front heads next next' free free' n p long g k i has =
    elim (cases_lt k n) [
      | inl l ↦
          let e = with_free_tray heads free n long k l in
          let f = with_free_tray heads free' n long k l in
          ap (λ h. step next' h.first i) (sym f) ∙ g.kept k i (subst (λ h. i < h.count) (sym e) has) ∙ ap (λ h. step next h.first i) e
      | inr u ↦ absurd (let z = ap (λ h. h.count) (get_or_past heads k no_link (omega arith)) in omega arith)
    ]

-- each entry of a tray lies below the number of places
pub inside_trays : (s : Links) → Inside s.heads s.next s.size
inside_trays s k i has =
    elim (cases_lt k 128) [
      | inl l ↦
          let e = with_free_tray s.heads s.free 128 s.whole k l in
          let f = ap (λ h. step s.next h.first i) e in
          let u = s.inside k i (subst (λ h. i < h.count) (sym e) has) in
          omega arith
      | inr u ↦ absurd (let w = s.whole in let z = ap (λ h. h.count) (get_or_past s.heads k no_link (omega arith)) in omega arith)
    ]

-- every place is free
module _ (next : List ℕ) (size : ℕ) (each : (k : ℕ) → k < 1024 → get_or next k 0 ≡ k + 1) (small : size ≤ 1024) where
  pub step_id : (a : ℕ) → a ≤ 1024 → step next 0 a ≡ a
  step_id zero l = refl
  step_id (suc a) l = ap (λ p. get_or next p 0) (step_id a (omega arith)) ∙ each a (omega arith) ∙ add-one a

  abbrev fresh : ℕ → List Link
  fresh n = with_free (replicate n no_link) (every_place size)

  entry_link : (n k a : ℕ) → Has (fresh n) k a → (k ≡ n) × (link_at (fresh n) k ≡ every_place size)
  entry_link zero zero a h = (refl, refl)
  entry_link zero (suc k) a h = absurd (omega arith)
  entry_link (suc n) zero a h = absurd (omega arith)
  entry_link (suc n) (suc k) a h = let e = entry_link n k a h in (ap suc e.0, e.1)

  -- an entry lies at its own number
  entry_place : (n k a : ℕ) → Has (fresh n) k a → (a < size) × (place (fresh n) next k a ≡ a)
  entry_place n k a h =
      let e = (entry_link n k a h).1 in
      let l : a < size = subst (λ x. a < x.count) e h in
      (l, ap (λ x. step next x.first a) e ∙ step_id a (omega arith))

  pub fresh_inside : (n : ℕ) → Inside (fresh n) next size
  fresh_inside n k a h = let e = entry_place n k a h in omega arith

  pub fresh_apart : (n : ℕ) → Apart (fresh n) next
  fresh_apart n m =
      let e = entry_place n m.j m.a m.one in
      let f = entry_place n m.k m.b m.other in
      ((entry_link n m.j m.a m.one).0 ∙ sym (entry_link n m.k m.b m.other).0, sym e.1 ∙ m.meet ∙ f.1)

  pub fresh_ends : (n : ℕ) → Ends (fresh n) next
  fresh_ends n k a h =
      let has : Has (fresh n) k a = omega arith in
      let e = entry_place n k a has in
      let c = ap (λ x. x.count) (entry_link n k a has).1 in
      let l = ap (λ x. x.last) (entry_link n k a has).1 in
      omega arith

  pub fresh_counts : (n : ℕ) → counted (fresh n) ≡ size
  fresh_counts zero = omega arith
  fresh_counts (suc n) = let e = fresh_counts n in omega arith

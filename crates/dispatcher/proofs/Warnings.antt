-- A warning names none exactly when the services suffice.
use Rattle.std.proofs.Common.{◌≡◌, ℕ, zero, suc, ◌+◌, ◌-◌, ◌*◌, ◌/◌, ◌%◌, ◌<◌, ◌≤◌, Bool, true, false, cond, ◌&&◌, ◌||◌, eqb, ltb, leb, ◌⊎◌, ◌↔◌, List, length, Some, None, Option, sym, refl, ap, ◌∙◌, subst, inl, inr, ⊎_elim, mul_comm, arith}
use Rattle.std.specs.List.{slice_get}
use Rattle.std.proofs.lemmas.Nat.{mul-add-lt, div-mul-add, mod-mul-add, div_below, mod_below, div-add-mod'}
use Rattle.std.proofs.lemmas.Bool.{cases_lt, cases_order, ltb-true, ltb-false, lt-ltb, le-ltb, leb-true, le-leb, eq-eqb, eqb-true, and_from, and_parts, or_cases, or_left, or_right, false≢true}
use Rattle.dispatcher.specs.Machine.{Entry, Event, Warning, due_by, first_over}
use Rattle.dispatcher.specs.declared.event.Event.TheVariants.{Asked, Begun, Dispatched, Named, Opened, Posted, Refused, Turned, Warned}
use Rattle.dispatcher.specs.History.{History, count, at_post, is_pending, cycle_of, due_within, PendingAt, Service, Meets}
use Rattle.dispatcher.specs.Theorems.{NamesLeast}
use Rattle.dispatcher.proofs.Counts.{count_lt, pigeonhole}
use Rattle.dispatcher.proofs.Places.{nth_inside, count_kept}
use Rattle.dispatcher.proofs.Facts.{posts, count_posts}
use Rattle.dispatcher.proofs.Sound.{Sound, pending_parts}
use Rattle.dispatcher.proofs.Orders.{at_post_true, at_post_from}

module _ {M : Type 0} (c z : ℕ) (es : List (Entry M)) where
  -- what the search for the first f with too many due finds
  pub first_none : (left f : ℕ) → first_over c z es f left ≡ None → (i : ℕ) → f ≤ i → i < f + left → due_by (z + i) es ≤ c * i
  first_none zero f e i l k = absurd (omega arith)
  first_none (suc left) f e i l k = go (ltb (c * f) (due_by (z + f) es)) refl e (first_none left (suc f))
    where
      go : (b : Bool) → ltb (c * f) (due_by (z + f) es) ≡ b → cond b (Some (record { ahead = f; load = due_by (z + f) es })) (first_over c z es (suc f) left) ≡ None → (first_over c z es (suc f) left ≡ None → (i : ℕ) → suc f ≤ i → i < suc f + left → due_by (z + i) es ≤ c * i) → due_by (z + i) es ≤ c * i
      go true m e ih = absurd (let x : ◌≡◌ {A = ℕ} 0 1 = cc in omega arith)
      go false m e ih = ⊎_elim (λ q. subst (λ y. due_by (z + y) es ≤ c * y) q (ltb-false (c * f) (due_by (z + f) es) m)) (⊎_elim (λ q. ih e i (omega arith) (omega arith)) (λ q. absurd (omega arith))) (cases_order f i)

  pub none_first : (left f : ℕ) → ((i : ℕ) → f ≤ i → i < f + left → due_by (z + i) es ≤ c * i) → first_over c z es f left ≡ None
  none_first zero f h = refl
  none_first (suc left) f h = rw (le-ltb (c * f) (due_by (z + f) es) (h f (omega arith) (omega arith))) (none_first left (suc f) (λ i l k. h i (omega arith) (omega arith)))

-- what the search found: the first number with too many due
pub record Found {M : Type 0} (c z : ℕ) (es : List (Entry M)) (f left : ℕ) (a : Warning) : Type 0 where
  pub low : f ≤ a.ahead
  pub high : a.ahead < f + left
  pub load : a.load ≡ due_by (z + a.ahead) es
  pub over : c * a.ahead < a.load
  pub first : (i : ℕ) → f ≤ i → i < a.ahead → due_by (z + i) es ≤ c * i

pub first_some : {M : Type 0} (c z : ℕ) (es : List (Entry M)) (left f : ℕ) (a : Warning) → first_over c z es f left ≡ Some a → Found c z es f left a
first_some c z es zero f a e = absurd (let x : ◌≡◌ {A = ℕ} 0 1 = cc in omega arith)
first_some {M} c z es (suc left) f a e = go (ltb (c * f) (due_by (z + f) es)) refl e (first_some c z es left (suc f) a)
  where
    go : (t : Bool) → ltb (c * f) (due_by (z + f) es) ≡ t → cond t (Some (record { ahead = f; load = due_by (z + f) es })) (first_over c z es (suc f) left) ≡ Some a → (first_over c z es (suc f) left ≡ Some a → Found c z es (suc f) left a) → Found c z es f (suc left) a
    go true m e ih =
        let k : record { ahead = f; load = due_by (z + f) es } ≡ a = cc in
        subst (Found c z es f (suc left)) k (record { low = omega arith; high = omega arith; load = refl; over = ltb-true (c * f) (due_by (z + f) es) m; first = λ i l h. absurd (omega arith) })
    go false m e ih =
        let x = ih e in
        record {
          low = (let l = x.low in omega arith);
          high = (let l = x.high in omega arith);
          load = x.load;
          over = x.over;
          first = λ i l h. ⊎_elim (λ q. subst (λ y. due_by (z + y) es ≤ c * y) q (ltb-false (c * f) (due_by (z + f) es) m)) (⊎_elim (λ q. x.first i (omega arith) h) (λ q. absurd (omega arith))) (cases_order f i);
        }

-- the deadline of the post at a position
abbrev pub deadline_of : {M : Type 0} → Option (Event M) → ℕ
deadline_of None = 0
deadline_of (Some (Refused c k)) = 0
deadline_of (Some (Opened z r)) = 0
deadline_of (Some (Posted e)) = e.deadline
deadline_of (Some (Dispatched o)) = 0
deadline_of (Some (Turned t n)) = 0
deadline_of (Some (Named o)) = 0
deadline_of (Some (Warned c o)) = 0
deadline_of (Some (Asked g)) = 0
deadline_of (Some Begun) = 0

-- the post at q comes before that at p: by its deadline, then by its position
abbrev pub comes_first : {M : Type 0} → History M → ℕ → ℕ → Entry M → Bool
comes_first h p q e = ltb e.deadline (deadline_of (slice_get h p)) || (eqb e.deadline (deadline_of (slice_get h p)) && ltb q p)

abbrev pub ahead : {M : Type 0} → History M → ℕ → ℕ → Bool
ahead h p q = at_post (λ e. is_pending h e && comes_first h p q e) (slice_get h q)

abbrev pub rank : {M : Type 0} → History M → ℕ → ℕ
rank h p = count (ahead h p) (length h)

module _ {M : Type 0} {o : Bool} {z n : ℕ} {P : List (Entry M)} {h : History M} (s : Sound o z n P h) where
  pub pends_by : ℕ → ℕ → Bool
  pends_by x p = at_post (λ e. is_pending h e && leb e.deadline x) (slice_get h p)

  due_count : (x : ℕ) → due_by x P ≡ count (pends_by x) (length h)
  unfolding pends_by
  due_count x = ap (due_by x) s.kept ∙ count_kept (is_pending h) (λ e. leb e.deadline x) (posts h) ∙ sym (count_posts (λ e. is_pending h e && leb e.deadline x) h)

  pends_true : (x p : ℕ) → pends_by x p ≡ true → (e : Entry M) × PendingAt h p e × (e.deadline ≤ x)
  unfolding pends_by
  pends_true x p k =
      let a = at_post_true (λ e. is_pending h e && leb e.deadline x) (slice_get h p) k in
      let b = and_parts (is_pending h a.0) (leb a.0.deadline x) a.2 in
      (a.0, record { is_post = a.1; pends = b.0 }, leb-true a.0.deadline x b.1)

  pends_from : (x p : ℕ) (e : Entry M) → PendingAt h p e → e.deadline ≤ x → pends_by x p ≡ true
  unfolding pends_by
  pends_from x p e k l = at_post_from (λ e. is_pending h e && leb e.deadline x) (slice_get h p) e k.is_post (and_from _ _ k.pends (le-leb e.deadline x l))

  -- what is pending is due after this cycle
  pub pending_later : (p : ℕ) (e : Entry M) → PendingAt h p e → z < e.deadline
  pending_later p e k = ⊎_elim (λ l. l) (λ l. absurd (false≢true (sym (pending_parts s e k.pends).1 ∙ s.passed p e k.is_post l))) (cases_lt z e.deadline)

  module _ (c : ℕ) (clock : z ≡ cycle_of h) where
    -- an order of services exists: at most c * i are due by the cycle z + i
    pub suffices : (plan : ℕ → Service) → Meets h c plan → (i : ℕ) → due_by (z + i) P ≤ c * i
    suffices plan m i =
        let a = due_count (z + i) in
        let b = pigeonhole g (length h) (c * i) (pends_by (z + i)) below apart in
        omega arith
      where
        g : ℕ → ℕ
        g p = ((plan p).cycle - z) * c + (plan p).number

        below : (p : ℕ) → p < length h → pends_by (z + i) p ≡ true → g p < c * i
        below p l k =
            let a = pends_true (z + i) p k in
            let t = m.in_time p a.0 a.1 in
            let u = m.from_now p a.0 a.1 in
            let w = m.offered p a.0 a.1 in
            let y = a.2 in
            mul-add-lt ((plan p).cycle - z) c (plan p).number i (omega arith) w

        apart : (p p' : ℕ) → p < length h → p' < length h → pends_by (z + i) p ≡ true → pends_by (z + i) p' ≡ true → g p ≡ g p' → p ≡ p'
        apart p p' l l' k k' e =
            let a = pends_true (z + i) p k in
            let b = pends_true (z + i) p' k' in
            let w = m.offered p a.0 a.1 in
            let x = m.offered p' b.0 b.1 in
            let u = m.from_now p a.0 a.1 in
            let v = m.from_now p' b.0 b.1 in
            let q : (plan p).cycle - z ≡ (plan p').cycle - z = sym (div-mul-add ((plan p).cycle - z) c (plan p).number w) ∙ ap (λ y. y / c) e ∙ div-mul-add ((plan p').cycle - z) c (plan p').number x in
            let r : (plan p).number ≡ (plan p').number = sym (mod-mul-add ((plan p).cycle - z) c (plan p).number w) ∙ ap (λ y. y % c) e ∙ mod-mul-add ((plan p').cycle - z) c (plan p').number x in
            m.its_own p p' a.0 b.0 a.1 b.1 (omega arith) r

  deadline_is : (p : ℕ) (e : Entry M) → PendingAt h p e → deadline_of (slice_get h p) ≡ e.deadline
  deadline_is p e k = ap deadline_of k.is_post

  ahead_true : (p q : ℕ) → ahead h p q ≡ true → (e : Entry M) × PendingAt h q e × (comes_first h p q e ≡ true)
  ahead_true p q k =
      let a = at_post_true (λ e. is_pending h e && comes_first h p q e) (slice_get h q) k in
      let b = and_parts (is_pending h a.0) (comes_first h p q a.0) a.2 in
      (a.0, record { is_post = a.1; pends = b.0 }, b.1)

  ahead_from : (p q : ℕ) (e : Entry M) → PendingAt h q e → comes_first h p q e ≡ true → ahead h p q ≡ true
  ahead_from p q e k l = at_post_from (λ e. is_pending h e && comes_first h p q e) (slice_get h q) e k.is_post (and_from _ _ k.pends l)

  -- the same in numbers
  abbrev First : ℕ → ℕ → ℕ → ℕ → Type 0
  First d q d' p = (d < d') ⊎ ((d ≡ d') × (q < p))

  first_true : (p q : ℕ) (e e' : Entry M) → PendingAt h p e' → comes_first h p q e ≡ true → First e.deadline q e'.deadline p
  first_true p q e e' k j =
      let i = deadline_is p e' k in
      ⊎_elim (λ a. inl (let b = ltb-true e.deadline (deadline_of (slice_get h p)) a in omega arith)) (λ a. let b = and_parts (eqb e.deadline (deadline_of (slice_get h p))) (ltb q p) a in inr (eqb-true _ _ b.0 ∙ i, ltb-true q p b.1)) (or_cases (ltb e.deadline (deadline_of (slice_get h p))) _ j)

  first_from : (p q : ℕ) (e e' : Entry M) → PendingAt h p e' → First e.deadline q e'.deadline p → comes_first h p q e ≡ true
  first_from p q e e' k (inl a) = let i = deadline_is p e' k in or_left _ _ (lt-ltb e.deadline (deadline_of (slice_get h p)) (omega arith))
  first_from p q e e' k (inr a) = let i = deadline_is p e' k in or_right (ltb e.deadline (deadline_of (slice_get h p))) _ (and_from _ _ (eq-eqb e.deadline (deadline_of (slice_get h p)) (a.0 ∙ sym i)) (lt-ltb q p a.1))

  not_itself : (p : ℕ) (e : Entry M) → PendingAt h p e → (b : Bool) → ahead h p p ≡ b → ahead h p p ≡ false
  not_itself p e k false j = j
  not_itself p e k true j = let a = ahead_true p p j in let same : a.0.deadline ≡ e.deadline = sym (deadline_is p a.0 a.1) ∙ deadline_is p e k in absurd (no (first_true p p a.0 e k a.2) same)
    where
      no : {d d' : ℕ} → First d p d' p → d ≡ d' → ⊥
      no (inl a) e = omega arith
      no (inr a) e = omega arith

  -- the rank of a pending post is below the number that are due by its deadline
  rank_below : (p : ℕ) (e : Entry M) → PendingAt h p e → rank h p < due_by e.deadline P
  rank_below p e k =
      let a = due_count e.deadline in
      let b = count_lt (ahead h p) (pends_by e.deadline) (length h) p (nth_inside h p _ k.is_post) (not_itself p e k (ahead h p p) refl) (pends_from e.deadline p e k (omega arith)) (λ q l j. each q (ahead_true p q j)) in
      omega arith
    where
      each : (q : ℕ) → (e : Entry M) × PendingAt h q e × (comes_first h p q e ≡ true) → pends_by e.deadline q ≡ true
      each q a = pends_from e.deadline q a.0 a.1 (⊎_elim (λ x. omega arith) (λ x. omega arith) (first_true p q a.0 e k a.2))

  -- what comes first has the smaller rank
  rank_less : (p q : ℕ) (e f : Entry M) → PendingAt h p e → PendingAt h q f → First f.deadline q e.deadline p → rank h q < rank h p
  rank_less p q e f k j a = count_lt (ahead h q) (ahead h p) (length h) q (nth_inside h q _ j.is_post) (not_itself q f j (ahead h q q) refl) (ahead_from p q f j (first_from p q f e k a)) (λ r l i. each r (ahead_true q r i))
    where
      chain : {d d' d'' r : ℕ} → First d r d' q → First d' q d'' p → First d r d'' p
      chain (inl a) (inl b) = inl (omega arith)
      chain (inl a) (inr b) = inl (omega arith)
      chain (inr a) (inl b) = inl (omega arith)
      chain (inr a) (inr b) = inr (omega arith)

      each : (r : ℕ) → (g : Entry M) × PendingAt h r g × (comes_first h q r g ≡ true) → ahead h p r ≡ true
      each r i = ahead_from p r i.0 i.1 (first_from p r i.0 e k (chain (first_true q r i.0 f j i.2) a))

  rank_apart : (p q : ℕ) (e f : Entry M) → PendingAt h p e → PendingAt h q f → rank h p ≡ rank h q → p ≡ q
  rank_apart p q e f k j i = ⊎_elim same (⊎_elim (λ l. absurd (let a = rank_less q p f e j k (inl l) in omega arith)) (λ l. absurd (let a = rank_less p q e f k j (inl l) in omega arith))) (cases_order e.deadline f.deadline)
    where
      same : e.deadline ≡ f.deadline → p ≡ q
      same d = ⊎_elim (λ l. l) (⊎_elim (λ l. absurd (let a = rank_less q p f e j k (inr (d, l)) in omega arith)) (λ l. absurd (let a = rank_less p q e f k j (inr (sym d, l)) in omega arith))) (cases_order p q)

  module _ (c span : ℕ) (clock : z ≡ cycle_of h) (near : (p : ℕ) (e : Entry M) → slice_get h p ≡ Some (Posted e) → e.deadline ≤ z + span) where
    by_rank : ℕ → Service
    by_rank p = record { cycle = z + rank h p / c; number = rank h p % c }

    pub enough : ((i : ℕ) → 1 ≤ i → i < 1 + span → due_by (z + i) P ≤ c * i) → (plan : ℕ → Service) × Meets h c plan
    unfolding by_rank
    enough few = (
      by_rank,
      record {
        from_now = λ p e k. omega arith;
        in_time = λ p e k. let a = div_below (rank h p) c (e.deadline - z) (some p e k) (room p e k) in let b = pending_later p e k in omega arith;
        offered = λ p e k. mod_below (rank h p) c (some p e k);
        its_own = λ p p' e e' k k' a b. rank_apart p p' e e' k k' (sym (div-add-mod' (rank h p) c) ∙ (let x : rank h p / c ≡ rank h p' / c = omega arith in rw (x, b) (div-add-mod' (rank h p') c)));
      },
    )
      where
        room : (p : ℕ) (e : Entry M) → PendingAt h p e → rank h p < (e.deadline - z) * c
        room p e k =
            let a = rank_below p e k in
            let b = pending_later p e k in
            let d = near p e k.is_post in
            let f = few (e.deadline - z) (omega arith) (omega arith) in
            let g : z + (e.deadline - z) ≡ e.deadline = omega arith in
            let j : due_by e.deadline P ≤ c * (e.deadline - z) = subst (λ y. due_by y P ≤ c * (e.deadline - z)) g f in
            let i = mul_comm c (e.deadline - z) in
            omega arith

        some : (p : ℕ) (e : Entry M) → PendingAt h p e → 0 < c
        some p e k = positive c (room p e k)
          where
            positive : (c : ℕ) → rank h p < (e.deadline - z) * c → 0 < c
            positive zero l = absurd (let a = mul_comm (e.deadline - z) 0 in omega arith)
            positive (suc c) l = omega arith

    -- the warning's search finds nothing exactly when the services suffice
    pub warns : (first_over c z P 1 span ≡ None) ↔ ((plan : ℕ → Service) × Meets h c plan)
    warns = (λ e. enough (first_none c z P span 1 e), λ m. none_first c z P span 1 (λ i l k. suffices c clock m.0 m.1 i))

  -- what the warning's search finds is the least number of cycles with too many posts due within them
  pub names_least : (c N : ℕ) → z ≡ cycle_of h → (a : Warning) → first_over c z P 1 N ≡ Some a → NamesLeast h N c a
  unfolding pends_by
  names_least c N clock a e =
      let x = first_some c z P N 1 a e in
      let within : (f : ℕ) → due_by (z + f) P ≡ due_within h f = λ f. due_count (z + f) ∙ ap (λ y. count (λ p. at_post (λ e. is_pending h e && leb e.deadline (y + f)) (slice_get h p)) (length h)) clock in
      record {
        some_ahead = x.low;
        within = (let l = x.high in omega arith);
        load = x.load ∙ within a.ahead;
        too_many = x.over;
        least = λ f l m. let y = x.first f l m in let k = within f in omega arith;
      }

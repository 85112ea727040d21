-- What a put and a take do to the trays of a chain bank.
use Rattle.std.proofs.Common.{◌≡◌, ℕ, zero, suc, ◌+◌, ◌-◌, ◌<◌, ◌≤◌, List, [], ◌∷◌, ◌++◌, length, get_or, take, set, replicate, Some, sym, refl, ap, ◌∙◌, inl, inr, append_assoc, append-nil, arith, length-append, length-take}
use Rattle.std.proofs.lemmas.List.{take-replicate, get_or_past, get_or-take}
use Rattle.std.proofs.lemmas.Bool.{cases_lt}
use Rattle.std.proofs.Math.Seq.{take-set-lt}
use Rattle.banks.specs.Tables.{cell_at}
use Rattle.banks.specs.Trays.{tray_at, held_in, first_of, without_first}
use Rattle.banks.proofs.Cells.{cell_other, cell_same, cell_read, cell_one}
use Rattle.chains.specs.declared.link.Link.{Link}
use Rattle.chains.specs.Chains.{no_link, link_at, step, place, Has, Inside, Free, counted, popped, Grown, chain_cells, chain_rows, chain_trays}
use Rattle.chains.specs.ChainLaws.{rows_length}
use Rattle.chains.proofs.Steps.{step_next, counted_set}

pub chain_keep : {C : Type 0} (cells after : List C) (next next' : List ℕ) (from from' n : ℕ) → ((i : ℕ) → i < n → cell_at after (step next' from' i) ≡ cell_at cells (step next from i)) → chain_cells after next' from' n ≡ chain_cells cells next from n
chain_keep cells after next next' from from' zero same = refl
chain_keep cells after next next' from from' (suc n) same =
    let on = chain_keep cells after next next' from from' n (λ i l. same i (omega arith)) in
    let here = same n (omega arith) in
    cc

pub chain_first : {C : Type 0} (cells : List C) (next : List ℕ) (from n : ℕ) → chain_cells cells next from (suc n) ≡ cell_at cells from ++ chain_cells cells next (get_or next from 0) n
chain_first cells next from zero = sym (append-nil (cell_at cells from))
chain_first cells next from (suc n) =
    ap (λ t. t ++ cell_at cells (step next from (suc n))) (chain_first cells next from n)
    ∙ append_assoc (cell_at cells from) (chain_cells cells next (get_or next from 0) n) (cell_at cells (step next from (suc n)))
    ∙ ap (λ p. cell_at cells from ++ (chain_cells cells next (get_or next from 0) n ++ cell_at cells p)) (sym (step_next next from n))

pub chain_length : {C : Type 0} (cells : List C) (next : List ℕ) (from n : ℕ) → ((i : ℕ) → i < n → step next from i < length cells) → length (chain_cells cells next from n) ≡ n
chain_length cells next from zero inside = refl
chain_length cells next from (suc n) inside =
    let one = cell_one cells (step next from n) (inside n (omega arith)) in
    let on = chain_length cells next from n (λ i l. inside i (omega arith)) in
    rw length-append (omega arith)

abbrev pub at_link : {C : Type 0} → List C → List ℕ → Link → List C
at_link cells next h = chain_cells cells next h.first h.count

pub rows_at : {C : Type 0} (cells : List C) (next : List ℕ) (hs : List Link) (k : ℕ) → tray_at (chain_rows cells next hs) k ≡ at_link cells next (link_at hs k)
rows_at cells next [] k = refl
rows_at cells next (h ∷ hs) zero = refl
rows_at cells next (h ∷ hs) (suc k) = rows_at cells next hs k

pub rows_set : {C : Type 0} (cells : List C) (next : List ℕ) (hs : List Link) (k : ℕ) (h' : Link) → chain_rows cells next (set hs k h') ≡ set (chain_rows cells next hs) k (at_link cells next h')
rows_set cells next [] k h' = refl
rows_set cells next (h ∷ hs) zero h' = refl
rows_set cells next (h ∷ hs) (suc k) h' = ap (λ t. at_link cells next h ∷ t) (rows_set cells next hs k h')

pub rows_keep : {C : Type 0} (cells after : List C) (next next' : List ℕ) (hs hs' : List Link) → length hs' ≡ length hs → ((j : ℕ) → j < length hs → at_link after next' (link_at hs' j) ≡ at_link cells next (link_at hs j)) → chain_rows after next' hs' ≡ chain_rows cells next hs
rows_keep cells after next next' [] [] e same = refl
rows_keep cells after next next' [] (h' ∷ hs') e same = absurd (omega arith)
rows_keep cells after next next' (h ∷ hs) [] e same = absurd (omega arith)
rows_keep cells after next next' (h ∷ hs) (h' ∷ hs') e same =
    let here = same 0 (omega arith) in
    let on = rows_keep cells after next next' hs hs' (omega arith) (λ j l. same (suc j) (omega arith)) in
    cc

pub rows_step : {C : Type 0} (cells after : List C) (next next' : List ℕ) (hs hs' : List Link) (k : ℕ) (x : List C) → length hs' ≡ length hs → k < length hs → ((j : ℕ) → j < length hs → (j ≡ k → ⊥) → at_link after next' (link_at hs' j) ≡ at_link cells next (link_at hs j)) → at_link after next' (link_at hs' k) ≡ x → chain_rows after next' hs' ≡ set (chain_rows cells next hs) k x
rows_step cells after next next' [] hs' k x e l same new = absurd (omega arith)
rows_step cells after next next' (h ∷ hs) [] k x e l same new = absurd (omega arith)
rows_step cells after next next' (h ∷ hs) (h' ∷ hs') zero x e l same new =
    let on = rows_keep cells after next next' hs hs' (omega arith) (λ j u. same (suc j) (omega arith) (λ z. omega arith)) in
    cc
rows_step cells after next next' (h ∷ hs) (h' ∷ hs') (suc k) x e l same new =
    let here = same 0 (omega arith) (λ z. omega arith) in
    let on = rows_step cells after next next' hs hs' k x (omega arith) (omega arith) (λ j u ne. same (suc j) (omega arith) (λ z. ne (omega arith))) new in
    cc

-- a chain grows by a place, whose cell is written
pub put_rows : {C : Type 0} (cells : List C) (next next' : List ℕ) (heads after : List Link) (n k p : ℕ) (c : C) → Grown heads next after next' k p → Free heads next p → k < n → n ≤ length heads → length after ≡ length heads → p < length cells
    → chain_trays (set cells p c) next' n after ≡ set (chain_trays cells next n heads) k (tray_at (chain_trays cells next n heads) k ++ (c ∷ []))
put_rows cells next next' heads after n k p c g free l long e lt =
    let len : length (take n heads) ≡ n = rw length-take (omega arith) in
    let len' : length (take n after) ≡ n = rw length-take (omega arith) in
    let old : (j i : ℕ) → Has heads j i → cell_at (set cells p c) (place after next' j i) ≡ cell_at cells (place heads next j i) =
    λ j i h. ap (cell_at (set cells p c)) (g.kept j i h) ∙ cell_other cells p (place heads next j i) c (λ z. free j i h (sym z)) in
    let chain : (j : ℕ) → chain_cells (set cells p c) next' (link_at after j).first (link_at heads j).count ≡ at_link cells next (link_at heads j) =
    λ j. chain_keep cells (set cells p c) next next' (link_at heads j).first (link_at after j).first (link_at heads j).count (λ i u. old j i u) in
    let here : (j : ℕ) → j < n → link_at (take n heads) j ≡ link_at heads j = λ j u. get_or-take n heads j no_link u in
    let there : (j : ℕ) → j < n → link_at (take n after) j ≡ link_at after j = λ j u. get_or-take n after j no_link u in
    rows_step cells (set cells p c) next next' (take n heads) (take n after) k (tray_at (chain_trays cells next n heads) k ++ (c ∷ [])) (len' ∙ sym len) (omega arith)
    (λ j u ne.
    let v : j < n = omega arith in
    ap (at_link (set cells p c) next') (there j v)
    ∙ ap (chain_cells (set cells p c) next' (link_at after j).first) (g.others j ne).0
    ∙ chain j ∙ ap (at_link cells next) (sym (here j v)))
    (ap (at_link (set cells p c) next') (there k l)
    ∙ ap (chain_cells (set cells p c) next' (link_at after k).first) g.more
    ∙ ap (λ t. t ++ cell_at (set cells p c) (place after next' k (link_at heads k).count)) (chain k ∙ ap (at_link cells next) (sym (here k l)) ∙ sym (rows_at cells next (take n heads) k))
    ∙ ap (λ q. tray_at (chain_trays cells next n heads) k ++ cell_at (set cells p c) q) g.new
    ∙ ap (λ t. tray_at (chain_trays cells next n heads) k ++ t) (cell_same cells p c lt))

-- each entry of the trays' chains stays where it was
pub kept_rows : {C : Type 0} (cells : List C) (next next' : List ℕ) (heads : List Link) (n : ℕ) → n ≤ length heads → ((j a : ℕ) → Has heads j a → place heads next' j a ≡ place heads next j a)
    → chain_trays cells next' n heads ≡ chain_trays cells next n heads
kept_rows cells next next' heads n long kept =
    let len : length (take n heads) ≡ n = rw length-take (omega arith) in
    rows_keep cells cells next next' (take n heads) (take n heads) refl
    (λ j u.
    let e : link_at (take n heads) j ≡ link_at heads j = get_or-take n heads j no_link (omega arith) in
    let h = link_at heads j in
    ap (at_link cells next') e
    ∙ chain_keep cells cells next next' h.first h.first h.count (λ i has. ap (cell_at cells) (kept j i has))
    ∙ ap (at_link cells next) (sym e))

-- the first place of a tray is taken out
pub pop_rows : {C : Type 0} (cells : List C) (next : List ℕ) (heads : List Link) (n k : ℕ) (c : C) → k < n → 0 < (link_at heads k).count → (link_at heads k).first < length cells → c ≡ get_or cells (link_at heads k).first c
    → (Some c ≡ first_of (tray_at (chain_trays cells next n heads) k))
    × (chain_trays cells next n (set heads k (popped next (link_at heads k))) ≡ set (chain_trays cells next n heads) k (without_first (tray_at (chain_trays cells next n heads) k)))
pop_rows cells next heads n k c l some lt read =
    let h = link_at heads k in
    let new = popped next h in
    let one : h.count ≡ suc (h.count - 1) = omega arith in
    let tray : tray_at (chain_trays cells next n heads) k ≡ c ∷ at_link cells next new =
    rows_at cells next (take n heads) k ∙ ap (at_link cells next) (get_or-take n heads k no_link l) ∙ ap (chain_cells cells next h.first) one
    ∙ chain_first cells next h.first (h.count - 1) ∙ ap (λ t. t ++ at_link cells next new) (cell_read cells h.first c lt read) in (
      sym (ap first_of tray),
      ap (chain_rows cells next) (take-set-lt n heads k new l) ∙ rows_set cells next (take n heads) k new
          ∙ ap (λ t. set (chain_trays cells next n heads) k t) (sym (ap without_first tray)),
    )

-- what all trays count once the chain of one has changed
pub counted_front : (heads : List Link) (n k : ℕ) (h' : Link) → k < n → n ≤ length heads → counted (take n (set heads k h')) + (link_at heads k).count ≡ counted (take n heads) + h'.count
counted_front heads n k h' l long =
    let len : length (take n heads) ≡ n = rw length-take (omega arith) in
    let cut = ap counted (take-set-lt n heads k h' l) in
    let sum = counted_set (take n heads) k h' (omega arith) in
    let kept = ap (λ h. h.count) (get_or-take n heads k no_link l) in
    omega arith

pub held_counted : {C : Type 0} (cells : List C) (next : List ℕ) (hs : List Link) → ((k i : ℕ) → Has hs k i → place hs next k i < length cells) → held_in (chain_rows cells next hs) ≡ counted hs
held_counted cells next [] inside = refl
held_counted cells next (h ∷ hs) inside =
    let here = chain_length cells next h.first h.count (λ i l. inside 0 i l) in
    let on = held_counted cells next hs (λ k i l. inside (suc k) i l) in
    omega arith

pub trays_count : {C : Type 0} (cells : List C) (next : List ℕ) (n : ℕ) (heads : List Link) → n ≤ length heads → length (chain_trays cells next n heads) ≡ n
trays_count cells next n heads long = rw (rows_length, length-take) (omega arith)

pub trays_past : {C : Type 0} (cells : List C) (next : List ℕ) (n : ℕ) (heads : List Link) (k : ℕ) → n ≤ k → tray_at (chain_trays cells next n heads) k ≡ []
trays_past cells next n heads k l = get_or_past (chain_trays cells next n heads) k [] (rw (rows_length, length-take) (omega arith))

pub trays_holds : {C : Type 0} (cells : List C) (next : List ℕ) (n : ℕ) (heads : List Link) (k size : ℕ) → k < n → Inside heads next size → size ≤ length cells → length (tray_at (chain_trays cells next n heads) k) ≡ (link_at heads k).count
trays_holds cells next n heads k size l inside fits =
    ap length (rows_at cells next (take n heads) k ∙ ap (at_link cells next) (get_or-take n heads k no_link l))
    ∙ chain_length cells next (link_at heads k).first (link_at heads k).count (λ i h. let e = inside k i h in omega arith)

-- a tray that holds something is there, and its chain has a place
pub trays_exists : {C : Type 0} (cells : List C) (next : List ℕ) (n : ℕ) (heads : List Link) (k size : ℕ) → Inside heads next size → size ≤ length cells → 0 < length (tray_at (chain_trays cells next n heads) k) → (k < n) × (0 < (link_at heads k).count)
trays_exists cells next n heads k size inside fits some =
    elim (cases_lt k n) [
      | inl l ↦ let h = trays_holds cells next n heads k size l inside fits in (l, omega arith)
      | inr u ↦ absurd (let e = ap length (trays_past cells next n heads k u) in omega arith)
    ]

-- an entry of one of the first n chains is an entry
front_has : (heads : List Link) (n k i : ℕ) → Has (take n heads) k i → k < n
front_has heads zero k i h = absurd (omega arith)
front_has [] (suc n) k i h = absurd (omega arith)
front_has (x ∷ heads) (suc n) zero i h = omega arith
front_has (x ∷ heads) (suc n) (suc k) i h = let e = front_has heads n k i h in omega arith

pub trays_held : {C : Type 0} (cells : List C) (next : List ℕ) (n : ℕ) (heads : List Link) (size : ℕ) → Inside heads next size → size ≤ length cells → held_in (chain_trays cells next n heads) ≡ counted (take n heads)
trays_held cells next n heads size inside fits =
    held_counted cells next (take n heads) (λ k i h.
    let l = front_has heads n k i h in
    let e : link_at (take n heads) k ≡ link_at heads k = get_or-take n heads k no_link l in
    let c = ap (λ x. x.count) e in
    let p = ap (λ x. step next x.first i) e in
    let u = inside k i (omega arith) in
    omega arith)

-- chains of which none has a place

pub counted_none : (n : ℕ) → counted (replicate n no_link) ≡ 0
counted_none zero = refl
counted_none (suc n) = let e = counted_none n in omega arith

pub counted_fresh : (n m : ℕ) → n ≤ m → counted (take n (replicate m no_link)) ≡ 0
counted_fresh n m l = ap counted (take-replicate n m no_link l) ∙ counted_none n

pub rows_none : {C : Type 0} (cells : List C) (next : List ℕ) (n : ℕ) → chain_rows cells next (replicate n no_link) ≡ replicate n []
rows_none cells next zero = refl
rows_none cells next (suc n) = ap (λ t. [] ∷ t) (rows_none cells next n)

pub trays_none : {C : Type 0} (cells : List C) (next : List ℕ) (n m : ℕ) → n ≤ m → chain_trays cells next n (replicate m no_link) ≡ replicate n []
trays_none cells next n m l = ap (chain_rows cells next) (take-replicate n m no_link l) ∙ rows_none cells next n

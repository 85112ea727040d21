-- Chains of places.
use Rattle.std.specs.Prelude.{◌≡◌, ℕ, zero, suc, ◌+◌, ◌-◌, ◌<◌, cond, List, [], ◌∷◌, ◌++◌, take, ◌==◌, ◌≢◌, slice_index, slice_index_or, slice_set}
use Rattle.banks.specs.Serving.{serving}
use Rattle.banks.specs.Tables.{cell_at}
use Rattle.chains.specs.declared.link.Link.{Link}

abbrev pub no_link : Link
no_link = record { first = 0; last = 0; count = 0 }

abbrev pub link_at : List Link → ℕ → Link
link_at heads k = slice_index_or heads k no_link

-- the chains of the trays, and the free one after them
abbrev pub with_free : List Link → Link → List Link
with_free heads free = heads ++ free ∷ []

-- the place that is i steps on from a place
abbrev pub step : List ℕ → ℕ → ℕ → ℕ
step next from zero = from
step next from (suc i) = slice_index next (step next from i)

-- the place of entry i of chain k
abbrev pub place : List Link → List ℕ → ℕ → ℕ → ℕ
place heads next k i = step next (link_at heads k).first i

-- chain k has an entry i
abbrev pub Has : List Link → ℕ → ℕ → Type 0
Has heads k i = i < (link_at heads k).count

-- every entry lies below size
abbrev pub Inside : List Link → List ℕ → ℕ → Type 0
Inside heads next size = (k i : ℕ) → Has heads k i → place heads next k i < size

-- two entries that lie at one place
pub record Meet (heads : List Link) (next : List ℕ) : Type 0 where
  pub j : ℕ
  pub k : ℕ
  pub a : ℕ
  pub b : ℕ
  pub one : Has heads j a
  pub other : Has heads k b
  pub meet : place heads next j a ≡ place heads next k b

-- they are one entry
abbrev pub Apart : List Link → List ℕ → Type 0
Apart heads next = (m : Meet heads next) → (m.j ≡ m.k) × (m.a ≡ m.b)

-- each chain knows its last place
abbrev pub Ends : List Link → List ℕ → Type 0
Ends heads next = (k a : ℕ) → suc a ≡ (link_at heads k).count → place heads next k a ≡ (link_at heads k).last

-- no entry lies at p
abbrev pub Free : List Link → List ℕ → ℕ → Type 0
Free heads next p = (k i : ℕ) → Has heads k i → place heads next k i ≢ p

-- how many entries all chains have
abbrev pub counted : List Link → ℕ
counted [] = 0
counted (h ∷ hs) = h.count + counted hs

-- a chain without its first place
abbrev pub popped : List ℕ → Link → Link
popped next h = record { first = slice_index next h.first; last = h.last; count = h.count - 1 }

-- the chains after chain k has lost its first place
abbrev pub without : List Link → List ℕ → ℕ → List Link
without heads next k = slice_set heads k (popped next (link_at heads k))

-- a chain with the place p at its end, and what then follows each place
abbrev pub pushed : ℕ → Link → Link
pushed p h = record { first = cond (h.count == 0) p h.first; last = p; count = h.count + 1 }

abbrev pub pushed_next : List ℕ → ℕ → Link → List ℕ
pushed_next next p h = cond (h.count == 0) next (slice_set next h.last p)

-- chain k grows by the place p at its end, and the others stay
pub record Grown (heads : List Link) (next : List ℕ) (after : List Link) (next' : List ℕ) (k p : ℕ) : Type 0 where
  pub kept : (j a : ℕ) → Has heads j a → place after next' j a ≡ place heads next j a
  pub new : place after next' k (link_at heads k).count ≡ p
  pub more : (link_at after k).count ≡ suc (link_at heads k).count
  pub end : (link_at after k).last ≡ p
  pub others : (j : ℕ) → (j ≢ k) → ((link_at after j).count ≡ (link_at heads j).count) × ((link_at after j).last ≡ (link_at heads j).last)

-- the cells at n places of a chain
abbrev pub chain_cells : {C : Type 0} → List C → List ℕ → ℕ → ℕ → List C
chain_cells cells next from zero = []
chain_cells cells next from (suc n) = chain_cells cells next from n ++ cell_at cells (step next from n)

-- the cells of each chain
abbrev pub chain_rows : {C : Type 0} → List C → List ℕ → List Link → List (List C)
chain_rows cells next [] = []
chain_rows cells next (h ∷ hs) = chain_cells cells next h.first h.count ∷ chain_rows cells next hs

-- the trays of a chain bank: its first n chains
abbrev pub chain_trays : {C : Type 0} → List C → List ℕ → ℕ → List Link → List (List C)
chain_trays cells next n heads = chain_rows cells next (take n heads)

-- the chain of every place below size
abbrev pub every_place : ℕ → Link
every_place size = record { first = 0; last = size - 1; count = size }

-- both limits of a chain bank over a table of len cells, of which 1024 serve at most; 0 where there are no trays, or more than 128
abbrev pub chain_size : ℕ → ℕ → ℕ
chain_size len t = serving len t

-- how many trays that bank has: as many as were asked for, if there is a cell
abbrev pub chain_number : ℕ → ℕ → ℕ
chain_number len t = cond (chain_size len t == 0) 0 t

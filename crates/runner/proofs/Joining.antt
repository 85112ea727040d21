-- Texts in a row, one for each element of a list.
use Rattle.std.proofs.Common.{◌≡◌, ℕ, zero, suc, ◌+◌, ◌<◌, ◌≤◌, List, [], ◌∷◌, ◌++◌, length, get_or, take, sym, ap, ◌∙◌, arith, length-append}
use Rattle.std.specs.List.{flat_map}
use Rattle.std.proofs.lemmas.List.{flat_map_more, take_more}

module _ {X : Type 0} (f : X → List ℕ) where
  pub joined_next : (xs : List X) (i : ℕ) (d : X) → i < length xs → flat_map f (take (i + 1) xs) ≡ flat_map f (take i xs) ++ f (get_or xs i d)
  joined_next xs i d h = ap (flat_map f) (take_more xs i d h) ∙ sym (flat_map_more f [] (take i xs) (get_or xs i d))

  take_shorter : (n : ℕ) (xs : List X) → length (flat_map f (take n xs)) ≤ length (flat_map f xs)
  take_shorter zero xs = omega arith
  take_shorter (suc n) [] = omega arith
  take_shorter (suc n) (x ∷ xs) =
      let a = length-append (f x) (flat_map f (take n xs)) in
      let b = length-append (f x) (flat_map f xs) in
      let ih = take_shorter n xs in omega arith

  -- the next text fits behind those before it
  pub next_fits : (xs : List X) (i : ℕ) (d : X) → i < length xs → length (flat_map f (take i xs)) + length (f (get_or xs i d)) ≤ length (flat_map f xs)
  next_fits xs i d h =
      let a = length-append (flat_map f (take i xs)) (f (get_or xs i d)) in
      let b = ap length (joined_next xs i d h) in
      let c = take_shorter (i + 1) xs in omega arith

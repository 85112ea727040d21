-- Bytes that lie each in a range of its own.
use Rattle.std.specs.Prelude.{◌≡◌, ℕ, ◌<◌, ◌≤◌, ◌&&◌, List, [], ◌∷◌, length, take, Ok, Err, Result, nat_le}
use Rattle.std.specs.Borrow.{Bor}
use Rattle.std.specs.List.{common_prefix_len}
use Rattle.steps.specs.declared.fault.Unlawful.{Unlawful}
use Rattle.steps.specs.declared.ranges.ByteRange.{ByteRange}

-- how many bytes from the start lie each in its range
abbrev pub inside : List ByteRange → List ℕ → ℕ
inside ranges bytes = common_prefix_len (λ r b. nat_le r.low b && nat_le b r.high) ranges bytes

-- there is a byte for each range, and each lies in its own
abbrev pub Within : List ByteRange → List ℕ → Type 0
Within [] [] = Unit {0}
Within [] (b ∷ bytes) = ⊥
Within (r ∷ rs) [] = ⊥
Within (r ∷ rs) (b ∷ bytes) = ((r.low ≤ b) × (b ≤ r.high)) × Within rs bytes

-- the first bytes, if each lies in its range, or how many do
abbrev pub Cut : List ByteRange → List ℕ → Result (Bor (List ℕ)) Unlawful → Type 0
Cut ranges bytes (Ok part) = (part.now ≡ take (length ranges) bytes) × Within ranges part.now
Cut ranges bytes (Err e) = (e.lawful_up_to ≡ inside ranges bytes) × (e.lawful_up_to < length ranges)

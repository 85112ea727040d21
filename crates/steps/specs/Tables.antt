-- What each byte of a header and of a record may be. That these are just the headers and records is proved.
use Rattle.std.specs.Prelude.{ℕ, List, [], ◌∷◌, ◌++◌, replicate}
use Rattle.steps.specs.declared.ranges.ByteRange.{ByteRange}

-- any byte, one byte alone, and the bytes from one to another
abbrev pub any : ByteRange
any = record { low = 0; high = 255 }

abbrev pub only : ℕ → ByteRange
only n = record { low = n; high = n }

abbrev pub from_to : ℕ → ℕ → ByteRange
from_to low high = record { low = low; high = high }

abbrev pub ranges_of_header : List ByteRange
ranges_of_header =
    only 0x45 ∷ only 0x56 ∷ only 0x51 ∷ only 0 ∷ only 1 ∷ from_to 1 2 ∷ from_to 2 128 ∷ from_to 1 2 ∷ []

abbrev pub pen_ranges : List ByteRange
pen_ranges = only 1 ∷ any ∷ from_to 1 3 ∷ only 0 ∷ replicate 6 any

abbrev pub note_ranges : List ByteRange
note_ranges = only 1 ∷ any ∷ any ∷ from_to 11 13 ∷ replicate 4 any ++ replicate 2 (only 0)

abbrev pub ranges_of_bare : ℕ → List ByteRange
ranges_of_bare step = only step ∷ replicate 9 (only 0)

abbrev pub ranges_of_numbered : ℕ → List ByteRange
ranges_of_numbered step = only step ∷ replicate 3 (only 0) ++ replicate 4 any ++ replicate 2 (only 0)

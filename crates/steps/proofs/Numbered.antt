-- Records with a number are just the lists of bytes within their ranges.
use Rattle.std.proofs.Common.{◌≡◌, ℕ, ◌+◌, ◌*◌, ◌<◌, List, get_or, Err, sym, refl, subst, rules}
use Rattle.std.specs.List.{AllByRecursion}
use Rattle.steps.specs.declared.fault.Unlawful.{Unlawful}
use Rattle.steps.specs.declared.ranges.ByteRange.{ByteRange}
use Rattle.steps.specs.Layout.{Byte, numbered_bytes}
use Rattle.steps.specs.Ranges.{Cut, Within}
use Rattle.steps.specs.Tables.{ranges_of_numbered}
use Rattle.steps.specs.Reading.{IsNumbered, Reads, SomeIs}
use Rattle.steps.proofs.Insides.{cut_refused, Sound, within_bytes}

module _ (step : ℕ) (small : step < 256) where
  numbered_sound : AllByRecursion Sound (ranges_of_numbered step)
  numbered_sound = search rules

  numbered_said : (g : List ℕ) → Within (ranges_of_numbered step) g → (n : ℕ) → n ≡ get_or g 4 0 * 16777216 + get_or g 5 0 * 65536 + get_or g 6 0 * 256 + get_or g 7 0 → g ≡ numbered_bytes step n
  numbered_said g w n e = search rules

  numbered_within : (g : List ℕ) → Within (ranges_of_numbered step) g → SomeIs (IsNumbered step) g
  numbered_within g w =
      let n = get_or g 4 0 * 16777216 + get_or g 5 0 * 65536 + get_or g 6 0 * 256 + get_or g 7 0 in
      (n, (numbered_said g w n refl, within_bytes (ranges_of_numbered step) numbered_sound g w))

  within_numbered : (g : List ℕ) → SomeIs (IsNumbered step) g → Within (ranges_of_numbered step) g
  within_numbered g s =
      let a : AllByRecursion Byte (numbered_bytes step s.0) = subst (AllByRecursion Byte) s.1.0 s.1.1 in
      let w : Within (ranges_of_numbered step) (numbered_bytes step s.0) = search rules in
      subst (Within (ranges_of_numbered step)) (sym s.1.0) w

  pub numbered_refused : (rs : List ByteRange) (table : rs ≡ ranges_of_numbered step) (bytes : List ℕ) (err : Unlawful) → Cut rs bytes (Err err) → Reads (IsNumbered step) 10 bytes (Err err)
  numbered_refused rs table bytes err c = cut_refused (ranges_of_numbered step) numbered_sound numbered_within within_numbered bytes err (subst (λ x. Cut x bytes (Err err)) table c)

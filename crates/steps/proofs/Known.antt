-- A number that some value has is read as a value.
use Rattle.std.proofs.Common.{◌≡◌, ℕ, Ok, Err, Result, refl}
use Rattle.std.specs.Result.{IsOk}
use Rattle.messages.specs.Numbers.{HasNumber}
use Rattle.messages.specs.declared.unknown.UnknownNumber.{UnknownNumber}

pub known : {V : Type 0} (number : V → ℕ) (n : ℕ) (r : Result V UnknownNumber) → HasNumber number n r → (v : V) × (number v ≡ n) → IsOk r
known number n (Ok v) is some = refl
known number n (Err e) is some = absurd (is.1 some.0 some.1)

-- Values that have numbers of their own.
use Rattle.std.specs.Prelude.{◌≡◌, ◌≢◌, ℕ, Result, MatchResult}
use Rattle.messages.specs.declared.unknown.UnknownNumber.{UnknownNumber}

-- the value whose number is n, or that no value has this number
abbrev pub HasNumber : {V : Type 0} → (V → ℕ) → ℕ → Result V UnknownNumber → Type 0
HasNumber {V} number n r =
    MatchResult r (λ v. number v ≡ n) (λ e. (e.0 ≡ n) × ((v : V) → number v ≢ n))

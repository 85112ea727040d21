-- What the reader's calls answer.
use Rattle.std.specs.Prelude.{◌≡◌, ℕ, ◌<◌, List, ◌∷◌, take, Ok, Err, Result}
use Rattle.std.specs.List.{AllByRecursion}
use Rattle.steps.specs.declared.fault.Unlawful.{Unlawful}
use Rattle.steps.specs.declared.header.Header.{Header}
use Rattle.steps.specs.declared.step.Step.{Step}
use Rattle.steps.specs.Beginnings.{Longest}
use Rattle.steps.specs.Layout.{Byte, EnoughTrays, Format, bare_bytes, header_bytes, numbered_bytes, step_bytes}

-- these bytes say this header, this post, this step, a bare step or a number with its step, and nothing else
abbrev pub IsHeader : Header → List ℕ → Type 0
IsHeader h bytes = (bytes ≡ header_bytes h) × EnoughTrays h

abbrev pub IsPost : {M : Type 0} → Format M → M → List ℕ → Type 0
IsPost f m bytes = (bytes ≡ 1 ∷ f.laid m) × AllByRecursion Byte bytes

abbrev pub IsStep : {M : Type 0} → Format M → Step M → List ℕ → Type 0
IsStep f s bytes = (bytes ≡ step_bytes f s) × AllByRecursion Byte bytes

abbrev pub IsBare : ℕ → Unit {0} → List ℕ → Type 0
IsBare step u bytes = (bytes ≡ bare_bytes step) × AllByRecursion Byte bytes

abbrev pub IsNumbered : ℕ → ℕ → List ℕ → Type 0
IsNumbered step n bytes = (bytes ≡ numbered_bytes step n) × AllByRecursion Byte bytes

-- some value is said by these bytes
abbrev pub SomeIs : {V : Type 0} → (V → List ℕ → Type 0) → List ℕ → Type 0
SomeIs {V} Is bytes = (v : V) × Is v bytes

-- what reading a value of `size` bytes from the start of `bytes` answers:
-- the value, or the length of the longest beginning that some value has too
abbrev pub Reads : {V : Type 0} → (V → List ℕ → Type 0) → ℕ → List ℕ → Result V Unlawful → Type 0
Reads Is size bytes (Ok v) = Is v (take size bytes)
Reads Is size bytes (Err e) = (e.lawful_up_to < size) × Longest (SomeIs Is) bytes e.lawful_up_to

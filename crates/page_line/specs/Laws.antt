-- What the law of the mark states. Definitions only.
use Rattle.std.specs.Prelude.{ℕ, ◌^◌, ◌≡◌, ◌⊎◌, ℤ, Float}
use Rattle.double.specs.Double.{HasQuotient}

-- "K or M": K exactly where the double x has the value of the word v, which is v / 2^b
abbrev pub Marks : ℕ → Float → ℤ → ℕ → Type 0
Marks m x v b = ((m ≡ 75) × HasQuotient x v (2 ^ b)) ⊎ ((m ≡ 77) × (HasQuotient x v (2 ^ b) → ⊥))

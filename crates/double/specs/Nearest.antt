-- What "rounded to the nearest whole count, a tie to the even one", "up" and "down" say of a fraction, a double and an integer: what the laws
-- of them state. Definitions only.
use Rattle.std.specs.Prelude.{◌≡◌, ℕ, ◌+◌, ◌*◌, ◌%◌, ◌^◌, ◌≤◌, Bool, false, ◌&&◌, ℤ, pos, ◌+ℤ◌, ◌-ℤ◌, ◌*ℤ◌, ◌≤ℤ◌, ◌<ℤ◌, nat_lt, unsigned_abs, Float}
use Rattle.std.specs.Float.{nan, inf, fin}
use Rattle.std.specs.Float.Ieee.{up, down}
use Rattle.word.specs.Format.{is_format, top}
use Rattle.double.specs.Double.{accepted, round_nearest, signed}
use Rattle.double.specs.declared.Rounding.{Rounding}
use Rattle.double.specs.declared.Rounding.TheVariants.{Down, Up, Nearest}

-- how far n is from z / d, in parts of 1 / d
abbrev pub distance : ℤ → ℕ → ℤ → ℕ
distance z d n = unsigned_abs (n *ℤ pos d -ℤ z)

-- n is "the nearest whole" number to z / d
pub record IsNearest (z : ℤ) (d : ℕ) (n : ℤ) : Type 0 where
  -- it is at most half away
  pub within_half : 2 * distance z d n ≤ d
  -- no other is nearer
  pub no_nearer : (k : ℤ) → distance z d n ≤ distance z d k
  -- "a tie to the even one"
  pub tie_even : 2 * distance z d n ≡ d → unsigned_abs n % 2 ≡ 0

-- n is z / d rounded: down it is not above, up it is not below, and less than 1 away
abbrev pub IsRounded : Rounding → ℤ → ℕ → ℤ → Type 0
IsRounded Down z d n = ((n *ℤ pos d) ≤ℤ z) × (z <ℤ (n *ℤ pos d +ℤ pos d))
IsRounded Up z d n = (z ≤ℤ (n *ℤ pos d)) × ((n *ℤ pos d) <ℤ (z +ℤ pos d))
IsRounded Nearest z d n = IsNearest z d n

-- n is a finite double, "scaled by 2^b", rounded: a whole number of counts
abbrev pub IsRoundedCount : Rounding → ℕ → Float → ℤ → Type 0
IsRoundedCount how b nan n = ⊥
IsRoundedCount how b (inf s) n = ⊥
IsRoundedCount how b (fin s m e) n = IsRounded how (signed s (m * up e * 2 ^ b)) (down e) n

-- ---- the edge of the word

-- twice top + 1/2, in parts of 1 / d
abbrev pub twice_edge : ℕ → ℕ → ℕ
twice_edge w d = (2 * top w + 1) * d

-- the magnitude of a finite double, "scaled by 2^b", is below top + 1/2
abbrev pub below_edge : ℕ → ℕ → Float → Bool
below_edge b w nan = false
below_edge b w (inf s) = false
below_edge b w (fin s m e) = nat_lt (2 * (m * up e * 2 ^ b)) (twice_edge w (down e))

-- "and only then tested for 5": a double is accepted exactly there, for top is odd, and the tie goes to top + 1
abbrev pub AcceptedBelow : ℕ → ℕ → Float → Type 0
AcceptedBelow b w x = accepted round_nearest b w x ≡ is_format b w && below_edge b w x

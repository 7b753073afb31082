-- One iteration of the commands on arrays: what each element becomes, and what that asks. Assumes nothing.
use Rattle.std.specs.Prelude.{◌≡◌, Bool, true, List, [], ℕ, ◌+◌, ◌^◌, ◌≤◌, ◌<◌, get_or, ℤ, pos, ◌-ℤ◌}
use Rattle.integer.specs.Round.{floor, clamp}
use Rattle.gradient.specs.Index.{sum_z, product_at}
use Rattle.gradient.specs.Scheme.{product}
use Rattle.array.specs.Arrays.{Filled, WordsTo}
use Rattle.dot.specs.Sums.{RunsTo}
use Rattle.commands.specs.declared.CommandTerms.{CommandTerms}

-- "t = M y − h", the sum of M y divided "and rounded down once"; "new z = t held to its limits": command i, from that sum
unfoldable pub unclamped_of : CommandTerms → ℕ → ℤ → ℤ
unclamped_of t i sum = floor sum (2 ^ t.b) -ℤ get_or t.linear i (pos 0)

unfoldable pub command_of : CommandTerms → ℕ → ℤ → ℤ
command_of t i sum = clamp (get_or t.limits.lower i (pos 0)) (get_or t.limits.upper i (pos 0)) (unclamped_of t i sum)

abbrev pub z_at : List (List ℤ) → CommandTerms → List ℤ → ℕ → ℤ
z_at m t y i = command_of t i (sum_z (product_at (get_or m i []) y) 0 t.n)

-- "new y = rounded((2^b + β) × new z) − rounded(β × old z)"
unfoldable pub point_of : ℕ → ℕ → ℤ → ℤ → ℤ
point_of b momentum new old = product (2 ^ b) (pos (2 ^ b + momentum)) new -ℤ product (2 ^ b) (pos momentum) old

abbrev pub y_at : ℕ → ℕ → List ℤ → List ℤ → ℕ → ℤ
y_at b momentum new old i = point_of b momentum (get_or new i (pos 0)) (get_or old i (pos 0))

-- ---- what an iteration asks
-- of what stays the same: machine words then hold each sum and each product
pub record Fitting (t : CommandTerms) : Type 0 where
  pub few : t.n ≤ 16
  pub low : 4 ≤ t.b
  pub high : t.b ≤ 20
  pub momentum_most : t.momentum < 2 ^ 20
  pub lowers : WordsTo t.n t.limits.lower
  pub uppers : WordsTo t.n t.limits.upper
  pub linears : WordsTo t.n t.linear

-- each row's sums of neighbouring products of M y, undivided
abbrev pub SumsTo : ℕ → List (List ℤ) → List ℤ → Type 0
SumsTo n m y = (i : ℕ) → i < n → RunsTo n (product_at (get_or m i []) y)

-- ---- what it leaves: the new y in place of y, from new commands and old ones, and the new commands in place of z; where settled is true, it is
-- as it was, and `before` was true
pub record StoredY (n b momentum : ℕ) (new old y y' : List ℤ) (before settled : Bool) : Type 0 where
  pub new_y : Filled (pos 0) n (y_at b momentum new old) y'
  pub same : settled ≡ true → (before ≡ true) × (y' ≡ y)

pub record StoredZ (n : ℕ) (new z z' : List ℤ) (before settled : Bool) : Type 0 where
  pub new_z : Filled (pos 0) n (λ (i : ℕ). get_or new i (pos 0)) z'
  pub same : settled ≡ true → (before ≡ true) × (z' ≡ z)

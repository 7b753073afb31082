-- Request 8, "Distance from the best sequence". A sequence of fractions is a list `Ps` "written as whole numbers over any one common
-- denominator" N: a command is P / N counts, its gradient step is in units of 2^-2b / N. Commands in counts have N = 1. Assumes nothing.
use Rattle.std.specs.Prelude.{◌≡◌, Bool, List, [], ◌∷◌, map, ℕ, zero, suc, ◌+◌, ◌*◌, ◌^◌, ◌≤◌, ◌<◌, max, leb, ℤ, pos, nat_abs, ◌-ℤ◌, ◌*ℤ◌}
use Rattle.integer.specs.Round.{ceil, clamp}
use Rattle.gradient.specs.Vector.{zip_with, total, sum, All2}
use Rattle.gradient.specs.Problem.{Command, Problem, F}
use Rattle.gradient.specs.Scheme.{products}
use Rattle.gradient.specs.Exact.{exact_linear}
use Rattle.gradient.specs.Demand.{every, Near, In64, RunningSums}

-- ---- D
-- "z − H z − h, unrounded": M z less G, for M is 2^b on the diagonal less H
unfoldable pub gradient_step : List ℤ → ℕ → List ℤ → Command → ℤ
gradient_step inputs N Ps r = total (products r.row Ps) -ℤ pos N *ℤ exact_linear inputs r

-- the gradient step held "to the limits": its projection
unfoldable pub projected_step : Problem → List ℤ → ℕ → List ℤ → Command → ℤ
projected_step p inputs N Ps r = clamp (r.lower *ℤ pos (F p * N)) (r.upper *ℤ pos (F p * N)) (gradient_step inputs N Ps r)

-- its "difference from z, in units of 2^-2b"
unfoldable pub difference : Problem → List ℤ → List ℤ → Command → ℤ → ℕ
difference p inputs zs r z = nat_abs (projected_step p inputs 1 zs r -ℤ pos (F p) *ℤ z)

-- the largest of a list, 0 of none
abbrev pub largest : List ℕ → ℕ
largest [] = zero
largest (a ∷ xs) = max a (largest xs)

-- "let R be the largest difference from z"
unfoldable pub residual : Problem → List ℤ → List ℤ → ℕ
residual p inputs zs = largest (zip_with (difference p inputs zs) p.commands zs)

-- "R / m rounded up as D"
unfoldable pub optimum_bound : Problem → ℕ → List ℤ → List ℤ → ℕ
optimum_bound p m inputs zs = ceil (residual p inputs zs) m

-- ---- what is given
-- the magnitudes of each row of M leave m of 2^b: a gradient step brings any two sequences nearer by that share
unfoldable pub contracting : Problem → ℕ → Bool
contracting p m = every (λ (r : Command). leb (sum (map nat_abs r.row) + m) (F p)) p.commands

-- ---- the claim
-- a "sequence of fractions .. that equals its own held gradient step, which is the condition for the optimum"
unfoldable pub Optimal : Problem → List ℤ → ℕ → List ℤ → Type 0
Optimal p inputs N Ps = All2 (λ (r : Command) (P : ℤ). projected_step p inputs N Ps r ≡ pos (F p) *ℤ P) p.commands Ps

-- "for every sequence of fractions .. over any one common denominator above 0 .. each command is within D counts of it". That there is one
-- is not assumed
unfoldable pub NearOptimum : Problem → List ℤ → List ℤ → ℕ → Type 0
NearOptimum p inputs zs D = (N : ℕ) (Ps : List ℤ) → 1 ≤ N → Optimal p inputs N Ps → All2 (λ (z P : ℤ). Near N z P D) zs Ps

-- D is 0 exactly where the commands are the optimum themselves
abbrev pub ZeroAtOptimum : Problem → ℕ → List ℤ → List ℤ → Type 0
ZeroAtOptimum p m inputs zs = (optimum_bound p m inputs zs ≡ 0 → Optimal p inputs 1 zs) × (Optimal p inputs 1 zs → optimum_bound p m inputs zs ≡ 0)

-- ---- how large the numbers become
-- "within 64 bits": all that makes the difference of a command z, each sum of neighbouring products of M z and of G among it
pub record StepIn64 (p : Problem) (inputs zs : List ℤ) (r : Command) (z : ℤ) : Type 0 where
  pub row_sums : RunningSums (products r.row zs)
  pub linear_sums : RunningSums (products r.gains inputs)
  pub step : In64 (gradient_step inputs 1 zs r)
  pub lower : In64 (r.lower *ℤ pos (F p))
  pub upper : In64 (r.upper *ℤ pos (F p))
  pub command : In64 (pos (F p) *ℤ z)
  pub apart : difference p inputs zs r z < 2 ^ 63

-- ---- the largest by index, as code goes through it: of f 0 .. f (n - 1)
abbrev pub largest_n : (ℕ → ℕ) → ℕ → ℕ
largest_n f zero = zero
largest_n f (suc n) = max (largest_n f n) (f n)

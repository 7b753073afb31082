-- Request 12: "ranges of one value give that solve's commands twice". Assumes nothing.
use mathlib.Core.Path.{◌≡◌, refl, ap, ◌∙◌}
use mathlib.Core.List.{List, [], ◌∷◌, map, ◌++◌}
use Prim.Native.Nat.{ℕ, zero, suc}
use lib.IntN.{ℤ}
use Rattle.gradient.specs.Vector.{zip_with}
use Rattle.gradient.specs.Problem.{Command, Problem, F}
use Rattle.gradient.specs.Scheme.{Iterate, linear, unclamped, next_z, next_y, step, iterate}
use Rattle.ranges.specs.Interval.{Interval, degenerate, input_intervals, interval_difference}
use Rattle.ranges.specs.Sweeps.{linear_interval, unclamped_interval, clamp_interval, next_z_interval, next_y_interval, interval_step, interval_iterate}
use Rattle.ranges.specs.Claim.{degenerate_iterate}
use Rattle.ranges.proofs.Interval.{row_degenerate}

-- the ranges of a state, with the target: "ranges of one value"
one_value : (state target : List ℤ) → input_intervals (map degenerate state) target ≡ map degenerate (state ++ target)
unfolding input_intervals
one_value [] target = refl
one_value (a ∷ state) target = ap (λ (l : List Interval). degenerate a ∷ l) (one_value state target)

module _ (p : Problem) where
  -- a command
  next_degenerate : (inputs y : List ℤ) (r : Command) → next_z_interval p (map degenerate inputs) (map degenerate y) r ≡ degenerate (next_z p inputs y r)
  unfolding next_z_interval next_z clamp_interval unclamped_interval unclamped linear_interval linear interval_difference
  next_degenerate inputs y r = rw (row_degenerate (F p) r.row y, row_degenerate (F p) r.gains inputs) refl

  next_degenerates : (inputs y : List ℤ) (rs : List Command) → map (next_z_interval p (map degenerate inputs) (map degenerate y)) rs ≡ map degenerate (map (next_z p inputs y) rs)
  next_degenerates inputs y [] = refl
  next_degenerates inputs y (r ∷ rs) = rw (next_degenerate inputs y r, next_degenerates inputs y rs) refl

  -- y
  y_degenerates : (new old : List ℤ) → zip_with (next_y_interval p) (map degenerate new) (map degenerate old) ≡ map degenerate (zip_with (next_y p) new old)
  unfolding next_y_interval
  y_degenerates [] old = refl
  y_degenerates (a ∷ new) [] = refl
  y_degenerates (a ∷ new) (b ∷ old) = rw (y_degenerates new old) refl

  -- a sweep, and every number of them
  step_degenerates : (inputs : List ℤ) (s : Iterate) → interval_step p (map degenerate inputs) (degenerate_iterate s) ≡ degenerate_iterate (step p inputs s)
  unfolding interval_step step
  step_degenerates inputs s = rw (next_degenerates inputs s.y p.commands, y_degenerates (map (next_z p inputs s.y) p.commands) s.z) refl

  pub same : (inputs start : List ℤ) (k : ℕ) → interval_iterate p (map degenerate inputs) start k ≡ degenerate_iterate (iterate p inputs start k)
  unfolding interval_iterate iterate
  same inputs start zero = refl
  same inputs start (suc k) = ap (interval_step p (map degenerate inputs)) (same inputs start k) ∙ step_degenerates inputs (iterate p inputs start k)

  -- "ranges of one value give that solve's commands twice"
  pub state_same : (state target start : List ℤ) (k : ℕ) → interval_iterate p (input_intervals (map degenerate state) target) start k ≡ degenerate_iterate (iterate p (state ++ target) start k)
  state_same state target start k = rw (one_value state target) (same (state ++ target) start k)

-- Request 8 on document 01's sample S with state 10, whose commands after three sweeps are −18: by computation. Assumes nothing.
use mathlib.Core.Path.{◌≡◌, refl, subst}
use mathlib.Core.Bool.{false}
use mathlib.Core.List.{List, [], ◌∷◌}
use native.Mathlib.Omega.{arith}
use lib.IntN.{ℤ, pos, neg_ℤ}
use Rattle.integer.specs.Round.{floor, ceil, clamp}
use Rattle.gradient.specs.Vector.{nil2, cons2}
use Rattle.gradient.specs.Problem.{Problem, F, cold_start}
use Rattle.gradient.specs.Scheme.{linear, unclamped, next_z, next_y, step, iterate}
use Rattle.gradient.specs.Exact.{exact_linear}
use Rattle.gradient.specs.Demand.{every, ordered}
use Rattle.gradient.specs.Sample.{sample, S, state}
use Rattle.optimum.specs.Optimum.{gradient_step, projected_step, difference, residual, optimum_bound, contracting, Optimal, NearOptimum}
use Rattle.optimum.proofs.Distance.{near_optimum}

-- the last commands of S
abbrev commands : List ℤ
commands = neg_ℤ (pos 18) ∷ []

pub s_commands : (iterate S state (cold_start S) 3).z ≡ commands
unfolding sample S state F floor clamp cold_start linear unclamped next_z next_y step iterate
s_commands = refl

-- the step 8 × −18 − 16 × 10 is −304 and z is −288, in units of 2^-8: R is 16, and D 2
pub s_residual : residual S state commands ≡ 16
unfolding sample S state F clamp exact_linear gradient_step projected_step difference residual
s_residual = refl

pub s_distance : optimum_bound S 8 state commands ≡ 2
unfolding sample S state F ceil clamp exact_linear gradient_step projected_step difference residual optimum_bound
s_distance = refl

-- R / m is "rounded up": with an entry of 15 counts in Φ R is 6, and D 1
pub s_rounded_up : optimum_bound (sample 0 20 15 10) 8 state commands ≡ 1
unfolding sample state F ceil clamp exact_linear gradient_step projected_step difference residual optimum_bound
s_rounded_up = refl

-- the step is held: with limits −1 and 1 it is −168, held to −16, which is z, and D is 0
pub s_held : optimum_bound (sample 0 1 16 10) 8 state (neg_ℤ (pos 1) ∷ []) ≡ 0
unfolding sample state F ceil clamp exact_linear gradient_step projected_step difference residual optimum_bound
s_held = refl

-- S meets what the theorem is given, with m 8 and not with 9
pub s_near : NearOptimum S state commands 2
unfolding sample S F every ordered contracting
s_near = subst (NearOptimum S state commands) s_distance (near_optimum S 8 state commands tt tt (omega arith) refl)

pub s_nine : contracting S 9 ≡ false
unfolding sample S F every contracting
s_nine = refl

-- and there is an optimum: −20 counts, from which −18 is just D counts away. With an entry of 15 counts in Φ it is −75 / 4 counts
pub s_optimum : Optimal S state 1 (neg_ℤ (pos 20) ∷ [])
unfolding sample S state F clamp exact_linear gradient_step projected_step Optimal
s_optimum = cons2 refl nil2

pub s_fraction : Optimal (sample 0 20 15 10) state 4 (neg_ℤ (pos 75) ∷ [])
unfolding sample state F clamp exact_linear gradient_step projected_step Optimal
s_fraction = cons2 refl nil2

-- ---- two commands: H has the rows (8, 7) and (7, 8), Φ the rows (16) and (0)
unfoldable pub coupled : Problem
coupled = record {
  b = 4;
  W = 8;
  iterations = 3;
  momentum = 10;
  commands = record { lower = neg_ℤ (pos 20); upper = pos 20; row = pos 8 ∷ neg_ℤ (pos 7) ∷ []; gains = pos 16 ∷ [] }
      ∷ record { lower = neg_ℤ (pos 20); upper = pos 20; row = neg_ℤ (pos 7) ∷ pos 8 ∷ []; gains = pos 0 ∷ [] } ∷ [];
  input_limits = 10 ∷ [];
}

-- of −18 and 5: the step −339 is held to −320, which is 32 from −288, and the step 166 is 86 from 80
pub coupled_residual : residual coupled state (neg_ℤ (pos 18) ∷ pos 5 ∷ []) ≡ 86
unfolding coupled state F clamp exact_linear gradient_step projected_step difference residual
coupled_residual = refl

-- the theorem takes it, with m 1
pub coupled_near : NearOptimum coupled state (neg_ℤ (pos 18) ∷ pos 5 ∷ []) (optimum_bound coupled 1 state (neg_ℤ (pos 18) ∷ pos 5 ∷ []))
unfolding coupled F every ordered contracting
coupled_near = near_optimum coupled 1 state (neg_ℤ (pos 18) ∷ pos 5 ∷ []) tt tt (omega arith) refl

-- Request 8 on bytes: the gradient step by the image's own words, and what D is after each sweep, as statements. Definitions only.
use Rattle.std.specs.Prelude.{List, ◌≡◌, ℕ, ◌^◌, ◌<◌, ℤ, pos, ◌-ℤ◌, ◌*ℤ◌, get_or}
use Rattle.word.specs.Word.{words_at}
use Rattle.gradient.specs.Vector.{total, All2}
use Rattle.gradient.specs.Scheme.{products}
use Rattle.gradient.specs.Exact.{exact_linear}
use Rattle.optimum.specs.Optimum.{gradient_step, NearOptimum, ZeroAtOptimum, StepIn64}
use Rattle.image.specs.declared.Sizes.{Sizes}
use Rattle.image.specs.Sizes.{command_count}
use Rattle.image.specs.Layout.{sizes_of, cost_row, command_at, problem_of}
use Rattle.interface.specs.Tables.{margin_of}
use Rattle.interface.specs.Calls.{inputs_of, commands_after, distance_after}

-- row i of H, by the image's words
abbrev pub costs_of : Sizes → List ℕ → ℕ → List ℤ
costs_of z image i = words_at (cost_row z image i) 0 (command_count z)

-- "z − H z − h, unrounded", as the request writes it: of fractions P / N, at command i, in units of 2^-2b / N
abbrev pub StepByCost : Sizes → List ℕ → List ℤ → ℕ → List ℤ → ℕ → Type 0
StepByCost z image inputs N Ps i =
    gradient_step inputs N Ps (command_at z image i)
    ≡ pos (2 ^ z.b) *ℤ get_or Ps i (pos 0) -ℤ total (products (costs_of z image i) Ps) -ℤ pos N *ℤ exact_linear inputs (command_at z image i)

-- after k sweeps: each command is within D counts of every optimum, and D is 0 exactly at one; every sum on the way to D is "within 64
-- bits", and D below 2^52
pub record DistanceClaim (image state target start : List ℕ) (k : ℕ) : Type 0 where
  pub from_optimum : NearOptimum (problem_of image) (inputs_of (sizes_of image) state target) (commands_after image state target start k) (distance_after image state target start k)
  pub zero : ZeroAtOptimum (problem_of image) (margin_of image) (inputs_of (sizes_of image) state target) (commands_after image state target start k)
  pub steps : All2 (StepIn64 (problem_of image) (inputs_of (sizes_of image) state target) (commands_after image state target start k)) (problem_of image).commands (commands_after image state target start k)
  pub size : distance_after image state target start k < 2 ^ 52

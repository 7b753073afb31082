-- What R takes of an image as arrays, and what D asks. Assumes nothing.
use Rattle.std.specs.Prelude.{◌≡◌, List, ℕ, ◌*◌, T, ℤ, pos, length, take}
use Rattle.gradient.specs.Vector.{All2}
use Rattle.gradient.specs.Demand.{Inside, inputs_within}
use Rattle.image.specs.declared.Sizes.{Sizes}
use Rattle.image.specs.Sizes.{command_count}
use Rattle.image.specs.Layout.{sizes_of, lower_at, upper_at, entry_at, problem_of}
use Rattle.interface.specs.Calls.{inputs_of}
use Rattle.interface.specs.Accepted.{Accepted}
use Rattle.array.specs.Arrays.{Filled, Tabled}
use Rattle.loading.specs.Tables.{exact_at}
use Rattle.residual.specs.declared.ResidualTerms.{ResidualTerms}

-- the arrays
pub record ResidualTermsOf (z : Sizes) (image state target : List ℕ) (t : ResidualTerms) : Type 0 where
  pub lowers : Filled (pos 0) (command_count z) (lower_at z image) t.limits.lower
  pub uppers : Filled (pos 0) (command_count z) (upper_at z image) t.limits.upper
  pub linears : Filled (pos 0) (command_count z) (exact_at z image state target) t.linear
  pub n_is : t.n ≡ command_count z
  pub b_is : t.b ≡ z.b

-- what D asks, beside 9 and 10: an accepted image, inputs that pass 13 and 16, its M, and n commands inside their limits in front of z
pub record Measurable (image state target : List ℕ) (m : List (List ℤ)) (z : List ℤ) : Type 0 where
  pub accepted : Accepted image
  pub state_size : length state ≡ 4 * (sizes_of image).nx
  pub target_size : length target ≡ 4 * (sizes_of image).nr
  pub inputs : T (inputs_within (problem_of image) (inputs_of (sizes_of image) state target))
  pub matrix : Tabled (pos 0) (command_count (sizes_of image)) (entry_at (sizes_of image) image) m
  pub inside : All2 Inside (problem_of image).commands (take (command_count (sizes_of image)) z)

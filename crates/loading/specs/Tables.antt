-- What an image's tables are as arrays. Assumes nothing.
use Rattle.std.specs.Prelude.{◌≡◌, List, ℕ, ◌*◌, ◌<◌, ℤ, pos, nat_abs, length}
use Rattle.gradient.specs.Scheme.{products, linear}
use Rattle.gradient.specs.Exact.{exact_linear}
use Rattle.gradient.specs.Bounds.{width}
use Rattle.gradient.specs.Demand.{RunningSums}
use Rattle.image.specs.declared.Sizes.{Sizes}
use Rattle.image.specs.Sizes.{Whole, command_count}
use Rattle.image.specs.Layout.{lower_at, upper_at, momentum_at, command_at, problem_at}
use Rattle.interface.specs.Calls.{inputs_of}
use Rattle.array.specs.Arrays.{Filled}
use Rattle.commands.specs.declared.CommandTerms.{CommandTerms}
use Rattle.bounds.specs.declared.BoundTerms.{BoundTerms}
use Rattle.array.specs.declared.Limits.{Limits}

-- at command i: G, "the sum of Φ times the state, undivided", with "the target products, undivided"; h, the same divided; w
abbrev pub exact_at : Sizes → List ℕ → List ℕ → List ℕ → ℕ → ℤ
exact_at z image state target i = exact_linear (inputs_of z state target) (command_at z image i)

abbrev pub linear_at : Sizes → List ℕ → List ℕ → List ℕ → ℕ → ℤ
linear_at z image state target i = linear (problem_at z image) (inputs_of z state target) (command_at z image i)

abbrev pub width_at : Sizes → List ℕ → ℕ → ℕ
width_at z image i = width (command_at z image i)

-- the limits
pub record LimitsOf (z : Sizes) (image : List ℕ) (r : Limits) : Type 0 where
  pub lowers : Filled (pos 0) (command_count z) (lower_at z image) r.lower
  pub uppers : Filled (pos 0) (command_count z) (upper_at z image) r.upper

-- what the linear term asks: that the undivided sums of h stay within 64 bits, as demand 3 says of them
pub record Loadable (z : Sizes) (image state target : List ℕ) : Type 0 where
  pub whole : Whole z image
  pub state_size : length state ≡ 4 * z.nx
  pub target_size : length target ≡ 4 * z.nr
  pub sums : (i : ℕ) → i < command_count z → RunningSums (products (command_at z image i).gains (inputs_of z state target))

-- what stays the same over the iterations of the commands, but for M, where f are the linear terms
pub record TermsOf (z : Sizes) (image : List ℕ) (f : ℕ → ℤ) (t : CommandTerms) : Type 0 where
  pub lowers : Filled (pos 0) (command_count z) (lower_at z image) t.limits.lower
  pub uppers : Filled (pos 0) (command_count z) (upper_at z image) t.limits.upper
  pub linears : Filled (pos 0) (command_count z) f t.linear
  pub momentum_is : t.momentum ≡ nat_abs (momentum_at z image)
  pub n_is : t.n ≡ command_count z
  pub b_is : t.b ≡ z.b

abbrev pub CommandTermsOf : Sizes → List ℕ → List ℕ → List ℕ → CommandTerms → Type 0
CommandTermsOf z image state target t = TermsOf z image (linear_at z image state target) t

-- and over those of the error bounds
pub record BoundTermsOf (z : Sizes) (image : List ℕ) (t : BoundTerms) : Type 0 where
  pub widths : Filled 0 (command_count z) (width_at z image) t.width
  pub momentum_is : t.momentum ≡ nat_abs (momentum_at z image)
  pub n_is : t.n ≡ command_count z
  pub b_is : t.b ≡ z.b

-- The arrays after k iterations. Assumes nothing.
use Rattle.std.specs.Prelude.{List, ℕ, length, get_or, ℤ, pos}
use Rattle.gradient.specs.Problem.{Problem}
use Rattle.gradient.specs.Scheme.{iterate}
use Rattle.gradient.specs.Bounds.{error_after}
use Rattle.image.specs.Sizes.{command_count}
use Rattle.image.specs.Layout.{sizes_of, entry_at}
use Rattle.interface.specs.Calls.{commands_after, bounds_after}
use Rattle.array.specs.Arrays.{Filled, Tabled}

-- M of an image
abbrev pub MatrixOf : List ℕ → List (List ℤ) → Type 0
MatrixOf image m = Tabled (pos 0) (command_count (sizes_of image)) (entry_at (sizes_of image) image) m

-- z and y after k iterations, and e and q
pub record CommandsAt (p : Problem) (inputs start : List ℤ) (k : ℕ) (z y : List ℤ) : Type 0 where
  pub at_z : Filled (pos 0) (length p.commands) (λ (i : ℕ). get_or (iterate p inputs start k).z i (pos 0)) z
  pub at_y : Filled (pos 0) (length p.commands) (λ (i : ℕ). get_or (iterate p inputs start k).y i (pos 0)) y

pub record BoundsAt (p : Problem) (k : ℕ) (e q : List ℕ) : Type 0 where
  pub at_e : Filled 0 (length p.commands) (λ (i : ℕ). get_or (error_after p k).e i 0) e
  pub at_q : Filled 0 (length p.commands) (λ (i : ℕ). get_or (error_after p k).q i 0) q

-- the commands and the bounds of a call after k iterations
abbrev pub CommandsOf : List ℕ → List ℕ → List ℕ → List ℕ → ℕ → List ℤ → Type 0
CommandsOf image state target start k z = Filled (pos 0) (command_count (sizes_of image)) (λ (i : ℕ). get_or (commands_after image state target start k) i (pos 0)) z

abbrev pub BoundsOf : List ℕ → ℕ → List ℕ → Type 0
BoundsOf image k e = Filled 0 (command_count (sizes_of image)) (λ (i : ℕ). get_or (bounds_after image k) i 0) e

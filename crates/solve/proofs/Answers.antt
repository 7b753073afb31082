-- The answer's bytes: arrays as the lists that they hold, and two parts of a buffer. Assumes nothing.
use mathlib.Core.Path.{◌≡◌, sym, ◌∙◌}
use mathlib.Core.List.{List, ◌++◌, append-nil}
use Prim.Native.Nat.{ℕ, ◌≤◌}
use native.Mathlib.Omega.{arith}
use lib.ListN.{length, take, drop, drop_of_length-le}
use lib.Seq.{take_at, drop_at}
use lib.IntN.{ℤ, pos}
use Rattle.word.proofs.Buffer.{taken}
use Rattle.gradient.proofs.Lengths.{error_e_length}
use Rattle.image.specs.Sizes.{command_count}
use Rattle.image.specs.Layout.{sizes_of, problem_of}
use Rattle.interface.specs.Calls.{commands_after, bounds_after}
use Rattle.interface.specs.Accepted.{Accepted, Solvable}
use Rattle.interface.proofs.Guaranteed.{z_length}
use Rattle.loading.proofs.Tables.{count_is}
use Rattle.solve.specs.Reached.{CommandsOf, BoundsOf}

-- x in front, and y in the place of all that is behind it
pub behind : (x y s : List ℕ) (at k : ℕ) → length x ≡ at → length s ≤ k → take at (x ++ s) ++ (y ++ drop k (drop at (x ++ s))) ≡ x ++ y
behind x y s at k e h = rw (take_at x s at e, drop_at x s at e, drop_of_length-le s {i = k} h, append-nil y)

-- what a solve answers, as the arrays hold it
module _ {image : List ℕ} (ok : Accepted image) (k n : ℕ) (e : n ≡ command_count (sizes_of image)) where
  pub few : n ≤ 16
  few = omega (arith, ok.whole.sizes.n_high)

  pub bounds_are : (r : List ℕ) → BoundsOf image k r → take n r ≡ bounds_after image k
  unfolding bounds_after
  bounds_are r at =
      taken 0 r (bounds_after image k) n (omega (arith, few, at.sized)) (error_e_length (problem_of image) k ∙ count_is image ∙ sym e)
      (λ i h. at.each i (omega arith))

module _ {image state target start : List ℕ} (ok : Solvable image state target start) (k n : ℕ) (e : n ≡ command_count (sizes_of image)) where
  pub commands_are : (r : List ℤ) → CommandsOf image state target start k r → take n r ≡ commands_after image state target start k
  commands_are r at =
      taken (pos 0) r (commands_after image state target start k) n (omega (arith, few ok.accepted k n e, at.sized)) (z_length image state target start k ∙ sym e)
      (λ i h. at.each i (omega arith))

-- The terms of A and B of check 12, and what a sum of terms asks of the closure that gives them. Assumes nothing.
use Rattle.std.specs.Prelude.{ℕ, ◌*◌, ◌<◌, ◌≡◌, true, List, nat_abs}
use Rattle.array.specs.Arrays.{Filled}
use Rattle.gradient.specs.Bounds.{range_y}
use Rattle.gradient.specs.Index.{all_to}
use Rattle.image.specs.declared.Sizes.{Sizes}
use Rattle.image.specs.declared.Input.{Input}
use Rattle.image.specs.Sizes.{Whole, command_count}
use Rattle.image.specs.Layout.{gain_at, limit_at, entry_at, command_at, problem_at}
use Rattle.interface.specs.Tables.{range_test}

-- term j of row i: of A "|M| × Y", of B "|Φ| × state limit" or the target's
unfoldable pub range_term : Sizes → List ℕ → ℕ → ℕ → ℕ
range_term z s i j = nat_abs (entry_at z s i j) * range_y (problem_at z s) (command_at z s j)

unfoldable pub gain_term : Input → Sizes → List ℕ → ℕ → ℕ → ℕ
gain_term v z s i j = nat_abs (gain_at v z s i j) * nat_abs (limit_at v z s j)

-- what a call answers of each of n places is the term there
abbrev pub Answers : (ℕ → ℕ → Type 0) → (ℕ → ℕ) → ℕ → Type 0
Answers post terms n = (j x : ℕ) → j < n → post j x → x ≡ terms j

-- every P and every Y is in the word
abbrev pub RangesPass : Sizes → List ℕ → Type 0
RangesPass z s = all_to (range_test z s) (command_count z) ≡ true

-- y holds the Y of every command
abbrev pub RangesY : Sizes → List ℕ → List ℕ → Type 0
RangesY z s y = Filled 0 (command_count z) (λ (k : ℕ). range_y (problem_at z s) (command_at z s k)) y

-- A is summed only once every Y is in the word: the products then fit 64 bits
pub record RangesReady (z : Sizes) (s y : List ℕ) : Type 0 where
  pub whole : Whole z s
  pub passed : RangesPass z s
  pub ranges : RangesY z s y

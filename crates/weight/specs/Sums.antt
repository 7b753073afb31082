-- The sum of a row's magnitudes, each times an error bound. Assumes nothing.
use Rattle.std.specs.Prelude.{List, ℕ, ◌*◌, ◌^◌, ◌≤◌, ◌<◌, get_or}
use Rattle.gradient.specs.Index.{sum_n}
use Rattle.array.specs.Arrays.{NatsTo}

-- term j: a magnitude times its q
unfoldable pub term_at : List ℕ → List ℕ → ℕ → ℕ
term_at r q j = get_or r j 0 * get_or q j 0

-- the sum of the first n
unfoldable pub weight_to : List ℕ → List ℕ → ℕ → ℕ
weight_to r q n = sum_n (term_at r q) n

-- what that sum asks
pub record Weighable (r q : List ℕ) (n : ℕ) : Type 0 where
  pub few : n ≤ 16
  pub left : NatsTo n r
  pub right : NatsTo n q
  pub small : weight_to r q n < 2 ^ 54

-- The sums of a row of undivided products. Assumes nothing.
use Rattle.std.specs.Prelude.{List, ℕ, ◌+◌, ◌*◌, ◌^◌, ◌≤◌, ◌<◌, length, get_or, ℤ, pos, nat_abs, ◌*ℤ◌}
use Rattle.word.specs.Word.{word_at}
use Rattle.gradient.specs.Index.{sum_z, product_at}
use Rattle.gradient.specs.Demand.{In64}
use Rattle.array.specs.Arrays.{WordsTo}

-- term i of a row of the image and a vector x
unfoldable pub input_term : List ℕ → List ℤ → ℕ → ℤ
input_term row x i = word_at row (4 * i) *ℤ get_or x i (pos 0)

-- every sum of neighbours among the first n terms is within 64 bits, as demand 3 says of a solve's rows
abbrev pub RunsTo : ℕ → (ℕ → ℤ) → Type 0
RunsTo n f = (a k : ℕ) → a + k ≤ n → In64 (sum_z f a k)

-- what a sum of some of the first n terms asks: of a row of words, and of values that are words or sums of two words
pub record Summable (r y : List ℤ) (n : ℕ) : Type 0 where
  pub few : n ≤ 16
  pub left : WordsTo n r
  pub right : (i : ℕ) → i < n → nat_abs (get_or y i (pos 0)) ≤ 2 ^ 32
  pub runs : RunsTo n (product_at r y)

-- the same of a row of the image
pub record RowSummable (row : List ℕ) (x : List ℤ) (n : ℕ) : Type 0 where
  pub few : n ≤ 16
  pub held : 4 * n ≤ length row
  pub right : WordsTo n x
  pub runs : RunsTo n (input_term row x)

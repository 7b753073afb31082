-- Both ends of the linear terms as arrays. Assumes nothing.
use Rattle.std.specs.Prelude.{◌≡◌, List, ℕ, ◌+◌, ◌*◌, ◌^◌, ◌≤◌, ◌<◌, ℤ, pos, nat_abs, ◌*ℤ◌, length, take, drop}
use Rattle.word.specs.Word.{word_at, words_at}
use Rattle.gradient.specs.Index.{sum_z}
use Rattle.gradient.specs.Vector.{total}
use Rattle.gradient.specs.Scheme.{products}
use Rattle.image.specs.declared.Sizes.{Sizes}
use Rattle.image.specs.declared.Input.TheVariants.{State}
use Rattle.image.specs.Sizes.{Whole, command_count}
use Rattle.image.specs.Layout.{gain_row, command_at, problem_at}
use Rattle.ranges.specs.Interval.{End, low, high, end_of, taken_end, taken_ends}
use Rattle.ranges.specs.Sweeps.{linear_interval}
use Rattle.range_interface.specs.Calls.{range_inputs_of}
use Rattle.array.specs.Arrays.{Filled}
use Rattle.range_sums.specs.declared.Ends.{Ends}
use Rattle.range_sums.specs.Ends.{value_at, Ranged}

-- term j of an end of the sum of row i of Φ: a word of the image times the end that it takes, undivided
unfoldable pub gain_term : End → Sizes → List ℕ → List ℤ → List ℤ → ℕ → ℕ → ℤ
gain_term e z image lows highs i j = word_at (gain_row State z image i) (4 * j) *ℤ taken_end e (word_at (gain_row State z image i) (4 * j)) (value_at lows highs j)

-- what the two sums of row i ask, and what they are
pub record GainReady (z : Sizes) (image : List ℕ) (lows highs : List ℤ) (i : ℕ) : Type 0 where
  pub whole : Whole z image
  pub below : i < command_count z
  pub values : Ranged lows highs z.nx
  pub sums : (e : End) (a k : ℕ) → a + k ≤ z.nx → nat_abs (sum_z (gain_term e z image lows highs i) a k) < 2 ^ 51

pub record GainEndsOf (z : Sizes) (image : List ℕ) (lows highs : List ℤ) (i : ℕ) (x : Ends ℤ) : Type 0 where
  pub low_sum : x.low ≡ sum_z (gain_term low z image lows highs i) 0 z.nx
  pub high_sum : x.high ≡ sum_z (gain_term high z image lows highs i) 0 z.nx

-- ---- from the bytes that are lent
-- every sum of neighbours so small that both ends together are within 64 bits
abbrev pub SmallSums : List ℤ → Type 0
SmallSums l = (j k : ℕ) → nat_abs (total (take k (drop j l))) < 2 ^ 51

pub record RangeLoadable (z : Sizes) (image ranges target : List ℕ) : Type 0 where
  pub whole : Whole z image
  pub ranges_size : length ranges ≡ 8 * z.nx
  pub target_size : length target ≡ 4 * z.nr
  pub values : Ranged (words_at ranges 0 z.nx) (words_at ranges (4 * z.nx) z.nx) z.nx
  pub sums : (i : ℕ) → i < command_count z → (e : End) → SmallSums (products (command_at z image i).gains (taken_ends e (command_at z image i).gains (range_inputs_of z ranges target)))

-- an end of h at command i: "h = Φ times the state", with the "target products", "rounded down once"
abbrev pub linear_end : End → Sizes → List ℕ → List ℕ → List ℕ → ℕ → ℤ
linear_end e z image ranges target i = end_of e (linear_interval (problem_at z image) (range_inputs_of z ranges target) (command_at z image i))

pub record LinearEndsOf (z : Sizes) (image ranges target : List ℕ) (r : Ends (List ℤ)) : Type 0 where
  pub lowest : Filled (pos 0) (command_count z) (linear_end low z image ranges target) r.low
  pub highest : Filled (pos 0) (command_count z) (linear_end high z image ranges target) r.high

-- The lowest and the highest sum of a row whose values are known within ranges, on arrays. Assumes nothing.
use Rattle.std.specs.Prelude.{List, ◌≡◌, ℕ, ◌+◌, ◌^◌, ◌≤◌, ◌<◌, get_or, ℤ, pos, nat_abs, ◌+ℤ◌, ◌-ℤ◌, ◌*ℤ◌, ◌≤ℤ◌}
use Rattle.integer.specs.Round.{floor}
use Rattle.gradient.specs.Index.{sum_z, product_at}
use Rattle.array.specs.Arrays.{WordsTo}
use Rattle.dot.specs.Sums.{Summable}
use Rattle.weight.specs.Sums.{weight_to, Weighable}
use Rattle.ranges.specs.Interval.{Interval, interval, End, taken_end}
use Rattle.range_sums.specs.declared.Ends.{Ends}

-- value j, from the arrays of the lows and of the highs
abbrev pub value_at : List ℤ → List ℤ → ℕ → Interval
value_at lows highs j = interval (get_or lows j (pos 0)) (get_or highs j (pos 0))

-- term j of an end of the sum: the factor times the end that it takes, undivided
unfoldable pub end_term : End → List ℤ → List ℤ → List ℤ → ℕ → ℤ
end_term e r lows highs j = get_or r j (pos 0) *ℤ taken_end e (get_or r j (pos 0)) (value_at lows highs j)

-- what both sums take of a value: low + high, and high − low
abbrev pub sum_at : List ℤ → List ℤ → ℕ → ℤ
sum_at lows highs j = get_or lows j (pos 0) +ℤ get_or highs j (pos 0)

abbrev pub width_at : List ℤ → List ℤ → ℕ → ℕ
width_at lows highs j = nat_abs (get_or highs j (pos 0) -ℤ get_or lows j (pos 0))

-- the first n values, and a row of factors: words, each low at most its high; and every sum of neighbouring terms of an end so small that
-- both ends together are within 64 bits
pub record Ranged (lows highs : List ℤ) (n : ℕ) : Type 0 where
  pub few : n ≤ 16
  pub lows_small : (j : ℕ) → j < n → nat_abs (get_or lows j (pos 0)) < 2 ^ 31
  pub highs_small : (j : ℕ) → j < n → nat_abs (get_or highs j (pos 0)) < 2 ^ 31
  pub order : (j : ℕ) → j < n → get_or lows j (pos 0) ≤ℤ get_or highs j (pos 0)

pub record EndsSmall (r lows highs : List ℤ) (n : ℕ) : Type 0 where
  pub factors : WordsTo n r
  pub sums : (e : End) (a k : ℕ) → a + k ≤ n → nat_abs (sum_z (end_term e r lows highs) a k) < 2 ^ 51

-- ---- the two sums as the code takes them: from the row times the sums of its values, and its magnitudes times their widths
pub record RowReady (r : List ℤ) (magnitudes : List ℕ) (sums : List ℤ) (widths : List ℕ) (n : ℕ) : Type 0 where
  pub summable : Summable r sums n
  pub weighable : Weighable magnitudes widths n
  pub small : nat_abs (sum_z (product_at r sums) 0 n) < 2 ^ 62

pub record RowEndsOf (r : List ℤ) (magnitudes : List ℕ) (sums : List ℤ) (widths : List ℕ) (n : ℕ) (x : Ends ℤ) : Type 0 where
  pub low_half : x.low ≡ floor (sum_z (product_at r sums) 0 n -ℤ pos (weight_to magnitudes widths n)) 2
  pub high_half : x.high ≡ floor (sum_z (product_at r sums) 0 n +ℤ pos (weight_to magnitudes widths n)) 2

-- The two sums of a row from what they are together and apart. Assumes nothing.
use mathlib.Core.Path.{◌≡◌, refl, sym, ap, subst, ◌∙◌}
use mathlib.Core.List.{List}
use Prim.Native.Nat.{ℕ, zero, suc, ◌+◌, ◌*◌, ◌^◌, ◌≤◌, ◌<◌}
use native.Mathlib.Nat.{zero-add}
use native.Mathlib.Omega.{arith}
use native.Mathlib.Numerals.{add-one}
use lib.ListN.{get_or}
use lib.IntN.{ℤ, pos, negsuc, neg_ℤ, nat_abs, ◌+ℤ◌, ◌-ℤ◌, ◌*ℤ◌}
use lib.Signed.{◌≤ℤ◌, ◌<ℤ◌}
use Rattle.integer.specs.Parts.{int, nat, neg, ◌⊕◌, ◌⊖◌, ◌⊗◌, ◌⊡◌}
use Rattle.integer.specs.Round.{floor}
use Rattle.integer.proofs.Parts.{eq!, le!, lt?, whole}
use Rattle.integer.proofs.Laws.{abs_add, abs_sub, mul_add}
use Rattle.integer.proofs.Floor.{floor_exact}
use Rattle.gradient.specs.Index.{sum_z, product_at}
use Rattle.gradient.proofs.Index.{sum_z_cong, sum_z_next}
use Rattle.array.specs.Arrays.{Filled}
use Rattle.weight.specs.Sums.{term_at, weight_to}
use Rattle.ranges.specs.Interval.{Interval, low, high, taken_end}
use Rattle.ranges.proofs.Interval.{by_signs}
use Rattle.range_sums.specs.declared.Ends.{Ends}
use Rattle.range_sums.specs.Ends.{value_at, end_term, sum_at, width_at, Ranged, EndsSmall, RowReady, RowEndsOf}

-- the sum of two rows of terms
sums_add : (f g : ℕ → ℤ) (a n : ℕ) → sum_z (λ (j : ℕ). f j +ℤ g j) a n ≡ sum_z f a n +ℤ sum_z g a n
sums_add f g a zero = refl
sums_add f g a (suc n) =
    let e = sums_add f g (suc a) n in
    rw e (eq! ((int (f a) ⊕ int (g a)) ⊕ (int (sum_z f (suc a) n) ⊕ int (sum_z g (suc a) n))) ((int (f a) ⊕ int (sum_z f (suc a) n)) ⊕ (int (g a) ⊕ int (sum_z g (suc a) n))) (omega arith))

one_more : (f : ℕ → ℤ) (k : ℕ) → sum_z f 0 (suc k) ≡ sum_z f 0 k +ℤ f k
one_more f k = subst (λ (m : ℕ). sum_z f 0 m ≡ sum_z f 0 k +ℤ f k) (add-one k) (rw (zero-add k) at (sum_z_next f 0 k))

-- ---- of one factor: both terms together, and apart
terms_together : (c : ℤ) (x : Interval) → c *ℤ (x.lowest +ℤ x.highest) ≡ c *ℤ taken_end low c x +ℤ c *ℤ taken_end high c x
terms_together c x =
    by_signs (λ (a b : ℤ). c *ℤ (x.lowest +ℤ x.highest) ≡ c *ℤ a +ℤ c *ℤ b) c x
    (λ n. eq! (int c ⊗ (int x.lowest ⊕ int x.highest)) (int c ⊗ int x.highest ⊕ int c ⊗ int x.lowest) (omega arith))
    (λ n. mul_add c x.lowest x.highest)

magnitude_up : (a : ℤ) → pos zero ≤ℤ a → pos (nat_abs a) ≡ a
magnitude_up (pos k) h = refl
magnitude_up (negsuc k) h = absurd h.le

magnitude_down : (a : ℤ) → a <ℤ pos zero → pos (nat_abs a) ≡ neg_ℤ a
magnitude_down (pos k) h = absurd (let l = lt? (nat k) (nat zero) h in omega arith)
magnitude_down (negsuc k) h = refl

terms_apart : (c : ℤ) (x : Interval) → x.lowest ≤ℤ x.highest → pos (nat_abs c * nat_abs (x.highest -ℤ x.lowest)) ≡ c *ℤ taken_end high c x -ℤ c *ℤ taken_end low c x
terms_apart c x h =
    ap (λ (w : ℤ). pos (nat_abs c) *ℤ w) (magnitude_up (x.highest -ℤ x.lowest) (le! (nat zero) (int x.highest ⊖ int x.lowest) (omega (arith, whole))))
    ∙ by_signs (λ (a b : ℤ). pos (nat_abs c) *ℤ (x.highest -ℤ x.lowest) ≡ c *ℤ b -ℤ c *ℤ a) c x
    (λ n. ap (λ (m : ℤ). m *ℤ (x.highest -ℤ x.lowest)) (magnitude_down c n)
    ∙ eq! (neg (int c) ⊗ (int x.highest ⊖ int x.lowest)) (int c ⊗ int x.lowest ⊖ int c ⊗ int x.highest) (omega arith))
    (λ n. ap (λ (m : ℤ). m *ℤ (x.highest -ℤ x.lowest)) (magnitude_up c n)
    ∙ eq! (int c ⊗ (int x.highest ⊖ int x.lowest)) (int c ⊗ int x.highest ⊖ int c ⊗ int x.lowest) (omega arith))

-- ---- of a row, where the arrays hold its magnitudes, and the sums and widths of its values
module _ (r lows highs : List ℤ) {n : ℕ} (v : Ranged lows highs n) (s : EndsSmall r lows highs n)
    (magnitudes widths : List ℕ) (sums : List ℤ) (fm : Filled 0 n (λ (j : ℕ). nat_abs (get_or r j (pos 0))) magnitudes)
    (fs : Filled (pos 0) n (sum_at lows highs) sums) (fw : Filled 0 n (width_at lows highs) widths) where
  abbrev low_sum : ℕ → ℕ → ℤ
  low_sum a k = sum_z (end_term low r lows highs) a k

  abbrev high_sum : ℕ → ℕ → ℤ
  high_sum a k = sum_z (end_term high r lows highs) a k

  together : (a k : ℕ) → a + k ≤ n → sum_z (product_at r sums) a k ≡ low_sum a k +ℤ high_sum a k
  unfolding product_at end_term
  together a k h =
      sum_z_cong _ _ a k (λ j l u. ap (λ (y : ℤ). get_or r j (pos 0) *ℤ y) (fs.each j (omega arith)) ∙ terms_together (get_or r j (pos 0)) (value_at lows highs j))
      ∙ sums_add (end_term low r lows highs) (end_term high r lows highs) a k

  apart : (k : ℕ) → k ≤ n → pos (weight_to magnitudes widths k) ≡ high_sum 0 k -ℤ low_sum 0 k
  unfolding weight_to term_at end_term
  apart zero h = refl
  apart (suc k) h =
      let c = get_or r k (pos 0) in
      let x = value_at lows highs k in
      let m : ℤ = pos (weight_to magnitudes widths k) in
      let term : get_or magnitudes k 0 * get_or widths k 0 ≡ nat_abs c * nat_abs (x.highest -ℤ x.lowest) = rw (fm.each k (omega arith), fw.each k (omega arith)) refl in
      ap (λ (w : ℕ). pos (weight_to magnitudes widths k + w)) term
      ∙ ap (λ (w : ℤ). m +ℤ w) (terms_apart c x (v.order k (omega arith)))
      ∙ ap (λ (w : ℤ). w +ℤ (c *ℤ taken_end high c x -ℤ c *ℤ taken_end low c x)) (apart k (omega arith))
      ∙ eq! ((int (high_sum 0 k) ⊖ int (low_sum 0 k)) ⊕ (int (c *ℤ taken_end high c x) ⊖ int (c *ℤ taken_end low c x))) ((int (high_sum 0 k) ⊕ int (c *ℤ taken_end high c x)) ⊖ (int (low_sum 0 k) ⊕ int (c *ℤ taken_end low c x))) (omega arith)
      ∙ sym (ap (λ (w : ℤ). w -ℤ low_sum 0 (suc k)) (one_more (end_term high r lows highs) k) ∙ ap (λ (w : ℤ). (high_sum 0 k +ℤ end_term high r lows highs k) -ℤ w) (one_more (end_term low r lows highs) k))

  both_small : (a k : ℕ) → a + k ≤ n → nat_abs (sum_z (product_at r sums) a k) < 2 ^ 52
  both_small a k h = rw (together a k h) (omega (arith, abs_add (low_sum a k) (high_sum a k), s.sums low a k h, s.sums high a k h))

  apart_small : weight_to magnitudes widths n < 2 ^ 52
  apart_small = omega (arith, ap nat_abs (apart n (omega arith)), abs_sub (high_sum 0 n) (low_sum 0 n), s.sums low 0 n (omega arith), s.sums high 0 n (omega arith))

  pub row_ready : RowReady r magnitudes sums widths n
  row_ready = record {
    summable = record {
      few = v.few;
      left = s.factors;
      right = λ j h. rw (fs.each j h) (omega (arith, abs_add (get_or lows j (pos 0)) (get_or highs j (pos 0)), v.lows_small j h, v.highs_small j h));
      runs = λ a k h. omega (arith, both_small a k h);
    };
    weighable = record {
      few = v.few;
      left = λ j h. rw (fm.each j h) (omega (arith, s.factors j h));
      right = λ j h. rw (fw.each j h) (omega (arith, abs_sub (get_or highs j (pos 0)) (get_or lows j (pos 0)), v.lows_small j h, v.highs_small j h));
      small = omega (arith, apart_small);
    };
    small = omega (arith, both_small 0 n (omega arith));
  }

  module _ {x : Ends ℤ} (of : RowEndsOf r magnitudes sums widths n x) where
    pub low_is : x.low ≡ low_sum 0 n
    low_is =
        of.low_half
        ∙ rw (together 0 n (omega arith), apart n (omega arith))
        (ap (λ (z : ℤ). floor z 2) (eq! ((int (low_sum 0 n) ⊕ int (high_sum 0 n)) ⊖ (int (high_sum 0 n) ⊖ int (low_sum 0 n))) (int (low_sum 0 n) ⊡ 2) (omega arith)) ∙ floor_exact (low_sum 0 n) (omega arith))

    pub high_is : x.high ≡ high_sum 0 n
    high_is =
        of.high_half
        ∙ rw (together 0 n (omega arith), apart n (omega arith))
        (ap (λ (z : ℤ). floor z 2) (eq! ((int (low_sum 0 n) ⊕ int (high_sum 0 n)) ⊕ (int (high_sum 0 n) ⊖ int (low_sum 0 n))) (int (high_sum 0 n) ⊡ 2) (omega arith)) ∙ floor_exact (high_sum 0 n) (omega arith))

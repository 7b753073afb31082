-- The sums that are taken of a row of Φ and of the target's row are those of the two ends of h. Assumes nothing.
use mathlib.Core.Path.{◌≡◌, refl, sym, ap, subst, ◌∙◌}
use mathlib.Core.List.{List, ◌++◌, map}
use Prim.Native.Nat.{ℕ, ◌+◌, ◌-◌, ◌*◌, ◌^◌, ◌≤◌, ◌<◌}
use native.Mathlib.Nat.{add-zero, zero-add}
use native.Mathlib.Omega.{arith}
use lib.ListN.{length, length-map, length-append, get_or, take, drop}
use lib.IntN.{ℤ, pos, nat_abs, ◌+ℤ◌}
use Rattle.integer.specs.Round.{floor}
use Rattle.word.specs.Word.{word_at, words_at}
use Rattle.word.proofs.Words.{get_d_words_front, get_d_words_at, word_drop}
use Rattle.word.proofs.Buffer.{rest_from}
use Rattle.gradient.specs.Index.{sum_z, product_at}
use Rattle.gradient.specs.Vector.{total}
use Rattle.gradient.specs.Problem.{F}
use Rattle.gradient.specs.Scheme.{products}
use Rattle.gradient.proofs.Index.{sum_z_cong, sum_z_split, products_sum, products_part, sum_front, sum_behind}
use Rattle.gradient.proofs.Vector.{map_at}
use Rattle.image.specs.declared.Sizes.{Sizes}
use Rattle.image.specs.declared.Input.TheVariants.{State, Target}
use Rattle.image.specs.Layout.{gain_row, gains_of, command_at, problem_at}
use Rattle.interface.specs.Calls.{values_of}
use Rattle.interface.proofs.Accept.{gains_count, gain_at_lem}
use Rattle.interface.proofs.Demand.{values_count}
use Rattle.ranges.specs.Interval.{Interval, degenerate, input_intervals, End, taken_ends}
use Rattle.ranges.proofs.Interval.{taken_degenerate}
use Rattle.ranges.proofs.Ends.{linear_end_lem, taken_at, taken_length, taken_append}
use Rattle.range_interface.specs.Calls.{ranges_of, range_inputs_of}
use Rattle.range_interface.proofs.Words.{intervals_count, interval_at}
use Rattle.array.specs.Arrays.{Filled, WordsTo}
use Rattle.dot.specs.Sums.{input_term}
use Rattle.range_sums.specs.Ends.{end_term, Ranged, EndsSmall}
use Rattle.range_loading.specs.Tables.{gain_term, SmallSums, linear_end}

-- the arrays of the lows and of the highs
abbrev pub LowsHeld : Sizes → List ℕ → List ℤ → Type 0
LowsHeld z ranges lows = Filled (pos 0) z.nx (λ (j : ℕ). word_at ranges (4 * j)) lows

abbrev pub HighsHeld : Sizes → List ℕ → List ℤ → Type 0
HighsHeld z ranges highs = Filled (pos 0) z.nx (λ (j : ℕ). word_at ranges (4 * z.nx + 4 * j)) highs

-- the second half of the ranges
pub behind_lows : (z : Sizes) (ranges : List ℕ) (off : ℕ) {l : List ℤ} → off ≡ 4 * z.nx
    → Filled (pos 0) z.nx (λ (j : ℕ). word_at (take (length ranges - off) (drop off ranges)) (4 * j)) l → HighsHeld z ranges l
behind_lows z ranges off q f = record {
  sized = f.sized;
  each = λ j h. f.each j h ∙ ap (λ (s : List ℕ). word_at s (4 * j)) (rest_from ranges off (4 * z.nx) q) ∙ word_drop ranges (4 * z.nx) (4 * j);
}

-- as words in a row, and as arrays, they are as small and in the same order
pub held_ranged : (z : Sizes) (ranges : List ℕ) {lows highs : List ℤ} → LowsHeld z ranges lows → HighsHeld z ranges highs
    → Ranged (words_at ranges 0 z.nx) (words_at ranges (4 * z.nx) z.nx) z.nx → Ranged lows highs z.nx
held_ranged z ranges {lows} {highs} fl fh v = record {
  few = v.few;
  lows_small = λ j h. rw (lows_are j h) (v.lows_small j h);
  highs_small = λ j h. rw (highs_are j h) (v.highs_small j h);
  order = λ j h. rw (lows_are j h, highs_are j h) (v.order j h);
}
  where
    lows_are : (j : ℕ) → j < z.nx → get_or lows j (pos 0) ≡ get_or (words_at ranges 0 z.nx) j (pos 0)
    lows_are j h = fl.each j h ∙ sym (get_d_words_front ranges z.nx j h)

    highs_are : (j : ℕ) → j < z.nx → get_or highs j (pos 0) ≡ get_or (words_at ranges (4 * z.nx) z.nx) j (pos 0)
    highs_are j h = fh.each j h ∙ sym (get_d_words_at ranges (4 * z.nx) z.nx j h)

-- ---- the row of Φ as an array
module _ (z : Sizes) (image : List ℕ) (i : ℕ) (r lows highs : List ℤ) (f : Filled (pos 0) z.nx (λ (j : ℕ). word_at (gain_row State z image i) (4 * j)) r) where
  pub terms_are : (e : End) (a k : ℕ) → a + k ≤ z.nx → sum_z (end_term e r lows highs) a k ≡ sum_z (gain_term e z image lows highs i) a k
  unfolding end_term gain_term
  terms_are e a k h = sum_z_cong _ _ a k (λ j l u. rw (f.each j (omega arith)) refl)

  pub row_small : WordsTo z.nx r → ((e : End) (a k : ℕ) → a + k ≤ z.nx → nat_abs (sum_z (gain_term e z image lows highs i) a k) < 2 ^ 51) → EndsSmall r lows highs z.nx
  row_small w s = record { factors = w; sums = λ e a k h. rw (terms_are e a k h) (s e a k h) }

-- ---- an end of the linear term
module _ (e : End) (z : Sizes) (image ranges target : List ℕ) (i : ℕ) (lows highs goal : List ℤ) (fl : LowsHeld z ranges lows) (fh : HighsHeld z ranges highs)
    (fg : Filled (pos 0) z.nr (λ (j : ℕ). word_at target (4 * j)) goal)
    (w : SmallSums (products (command_at z image i).gains (taken_ends e (command_at z image i).gains (range_inputs_of z ranges target)))) where
  abbrev g_s : List ℤ
  g_s = gains_of State z image i

  abbrev g_t : List ℤ
  g_t = gains_of Target z image i

  abbrev ts : List Interval
  ts = map degenerate (values_of Target z target)

  abbrev v_s : List ℤ
  v_s = taken_ends e g_s (ranges_of z ranges)

  abbrev v_t : List ℤ
  v_t = taken_ends e g_t ts

  targets : length ts ≡ z.nr
  targets = length-map (values_of Target z target) degenerate ∙ values_count Target z target

  v_s_length : length v_s ≡ z.nx
  v_s_length = taken_length e g_s (ranges_of z ranges) (gains_count z image State i ∙ sym (intervals_count z.nx ranges)) ∙ gains_count z image State i

  v_t_length : length v_t ≡ z.nr
  v_t_length = taken_length e g_t ts (gains_count z image Target i ∙ sym targets) ∙ gains_count z image Target i

  -- the ends of the state's row stand in front, the target's behind them
  ends_are : taken_ends e (command_at z image i).gains (range_inputs_of z ranges target) ≡ v_s ++ v_t
  unfolding command_at input_intervals
  ends_are = taken_append e g_s g_t (ranges_of z ranges) ts (gains_count z image State i ∙ sym (intervals_count z.nx ranges))

  abbrev products_at : ℕ → ℤ
  products_at = product_at (g_s ++ g_t) (v_s ++ v_t)

  state_term : (j : ℕ) → j < z.nx → gain_term e z image lows highs i j ≡ product_at g_s v_s j
  unfolding gain_term product_at
  state_term j h =
      let d = degenerate (pos 0) in
      rw (taken_at e g_s (ranges_of z ranges) d j (omega (arith, gains_count z image State i)) (omega (arith, intervals_count z.nx ranges)), interval_at z.nx ranges d j h, gain_at_lem z image State i j h, fl.each j h, fh.each j h)

  target_term : (j : ℕ) → j < z.nr → input_term (gain_row Target z image i) goal j ≡ product_at g_t v_t j
  unfolding input_term product_at values_of
  target_term j h =
      let d = degenerate (pos 0) in
      rw (taken_at e g_t ts d j (omega (arith, gains_count z image Target i)) (omega (arith, targets)), map_at degenerate (values_of Target z target) j (pos 0) d (omega (arith, values_count Target z target)), taken_degenerate e (get_or g_t j (pos 0)) (get_or (values_of Target z target) j (pos 0)), gain_at_lem z image Target i j h, get_d_words_front target z.nr j h, fg.each j h)

  state_sum : (a m : ℕ) → a + m ≤ z.nx → sum_z (gain_term e z image lows highs i) a m ≡ sum_z products_at a m
  state_sum a m h =
      sum_z_cong _ _ a m (λ j l u. state_term j (omega arith))
      ∙ sum_front g_s g_t v_s v_t z.nx (gains_count z image State i) v_s_length a m h

  target_sum : (a m : ℕ) → a + m ≤ z.nr → sum_z (input_term (gain_row Target z image i) goal) a m ≡ sum_z products_at (z.nx + a) m
  target_sum a m h =
      sum_z_cong _ _ a m (λ j l u. target_term j (omega arith))
      ∙ sum_behind g_s g_t v_s v_t z.nx (gains_count z image State i) v_s_length a m

  abbrev whole_sum : ℤ
  whole_sum = sum_z (gain_term e z image lows highs i) 0 z.nx +ℤ sum_z (input_term (gain_row Target z image i) goal) 0 z.nr

  whole_is : whole_sum ≡ sum_z products_at 0 (z.nx + z.nr)
  whole_is =
      rw (state_sum 0 z.nx (omega arith), target_sum 0 z.nr (omega arith), add-zero z.nx)
      (sym (rw (zero-add z.nx) at (sum_z_split products_at 0 z.nx z.nr)))

  gains_long : length (g_s ++ g_t) ≡ z.nx + z.nr
  gains_long = omega (arith, length-append g_s g_t, gains_count z image State i, gains_count z image Target i)

  ends_long : length (v_s ++ v_t) ≡ z.nx + z.nr
  ends_long = omega (arith, length-append v_s v_t, v_s_length, v_t_length)

  runs : SmallSums (products (g_s ++ g_t) (v_s ++ v_t))
  runs = subst (λ (v : List ℤ). SmallSums (products (g_s ++ g_t) v)) ends_are (unfold command_at in w)

  small : (a m : ℕ) → a + m ≤ z.nx + z.nr → nat_abs (sum_z products_at a m) < 2 ^ 51
  small a m h = rw (← (products_part (g_s ++ g_t) (v_s ++ v_t) a m (omega (arith, gains_long)) (omega (arith, ends_long)))) (runs a m)

  pub state_small : (a m : ℕ) → a + m ≤ z.nx → nat_abs (sum_z (gain_term e z image lows highs i) a m) < 2 ^ 51
  state_small a m h = rw (state_sum a m h) (small a m (omega arith))

  pub target_small : (a m : ℕ) → a + m ≤ z.nr → nat_abs (sum_z (input_term (gain_row Target z image i) goal) a m) < 2 ^ 51
  target_small a m h = rw (target_sum a m h) (small (z.nx + a) m (omega arith))

  pub whole_small : nat_abs whole_sum < 2 ^ 51
  whole_small = rw whole_is (small 0 (z.nx + z.nr) (omega arith))

  pub linear_is : floor whole_sum (2 ^ z.b) ≡ linear_end e z image ranges target i
  unfolding problem_at command_at F
  linear_is =
      ap (λ (s : ℤ). floor s (2 ^ z.b)) (whole_is ∙ sym (products_sum (g_s ++ g_t) (v_s ++ v_t) (z.nx + z.nr) gains_long ends_long))
      ∙ sym (ap (λ (v : List ℤ). floor (total (products (g_s ++ g_t) v)) (2 ^ z.b)) ends_are)
      ∙ sym (linear_end_lem e (problem_at z image) (range_inputs_of z ranges target) (command_at z image i))

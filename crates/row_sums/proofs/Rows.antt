-- How large Y is, and the sums A and B as sums of their terms. Assumes nothing.
use mathlib.Core.Path.{◌≡◌, refl, sym, ap, ◌∙◌}
use mathlib.Core.List.{List}
use Prim.Native.Nat.{ℕ, ◌+◌, ◌*◌, ◌^◌, ◌≤◌, ◌<◌}
use native.Mathlib.Nat.{mul-le-mul}
use native.Mathlib.Omega.{arith}
use lib.Dec.{leb}
use lib.IntN.{pos}
use lib.ListN.{get_or}
use borrow.Author.Tests.{leb-true}
use Rattle.integer.proofs.Tests.{both}
use Rattle.integer.specs.Round.{ceil}
use Rattle.word.specs.Format.{top}
use Rattle.word.proofs.Format.{top_high}
use Rattle.gradient.specs.Index.{sum_n}
use Rattle.gradient.specs.Problem.{F}
use Rattle.gradient.specs.Bounds.{weight, range_p, range_y, range_a, range_b}
use Rattle.gradient.proofs.Index.{sum_n_cong, weight_sum, range_a_sum, tab_at}
use Rattle.gradient.proofs.Append.{weight_append}
use Rattle.gradient.proofs.Tests.{all_at}
use Rattle.image.specs.declared.Sizes.{Sizes}
use Rattle.image.specs.declared.Input.{Input}
use Rattle.image.specs.declared.Input.TheVariants.{State, Target}
use Rattle.image.specs.Sizes.{command_count, input_count, Sound}
use Rattle.image.specs.Layout.{entry_at, gains_of, limits_of, command_at, problem_at}
use Rattle.interface.specs.Tables.{range_test}
use Rattle.interface.proofs.Accept.{commands_length, command_at_lem, limits_count, input_limit_at, row_length, gains_count, gain_at_lem}
use Rattle.row_sums.specs.Terms.{range_term, gain_term, RangesPass, RangesReady}

-- ---- how large Y is
-- Y is in the word
range_most : (z : Sizes) (s : List ℕ) (j : ℕ) → Sound z → RangesPass z s → j < command_count z → range_y (problem_at z s) (command_at z s j) ≤ 2 ^ 31
unfolding range_test
range_most z s j sized passed h =
    let r = command_at z s j in
    let p = problem_at z s in
    let t = both (leb (range_p p r) (top z.w)) (leb (range_y p r) (top z.w)) (all_at (range_test z s) (command_count z) j h passed) in
    omega (arith, leb-true (range_y p r) (top z.w) t.1, top_high z.w sized.w_high)

pub held_most : (z : Sizes) (s y : List ℕ) (j : ℕ) → RangesReady z s y → j < command_count z → get_or y j 0 ≤ 2 ^ 31
held_most z s y j r h = rw (r.ranges.each j h) (range_most z s j r.whole.sizes r.passed h)

-- times an entry of M it fits 64 bits
pub product_most : (a x : ℕ) → a ≤ 2 ^ 31 + 2 ^ 20 → x ≤ 2 ^ 31 → a * x ≤ 2 ^ 62 + 2 ^ 51
product_most a x h k = let m : a * x ≤ (2 ^ 31 + 2 ^ 20) * 2 ^ 31 = mul-le-mul h k in omega arith

-- ---- the sums of a row as sums of its terms, A and B divided once
module _ (z : Sizes) (s : List ℕ) (i : ℕ) where
  entry_is : (j : ℕ) → j < command_count z → get_or (command_at z s i).row j (pos 0) ≡ entry_at z s i j
  unfolding command_at
  entry_is j h = tab_at (entry_at z s i) (command_count z) j (pos 0) h

  F_is : F (problem_at z s) ≡ 2 ^ z.b
  unfolding F problem_at
  F_is = refl

  pub range_terms : range_a (problem_at z s) (command_at z s i) ≡ ceil (sum_n (range_term z s i) (command_count z)) (2 ^ z.b)
  unfolding range_term
  range_terms =
      range_a_sum (problem_at z s) (command_at z s i) (command_at z s i) (command_count z) (commands_length z s) (row_length z s i)
      ∙ rw F_is (ap (λ (k : ℕ). ceil k (2 ^ z.b)) (sum_n_cong _ _ (command_count z) (λ j l. rw (entry_is j l, command_at_lem z s (command_at z s i) j l))))

  -- what an input adds to B's sum, and B
  input_terms : (v : Input) → weight (gains_of v z s i) (limits_of v z s) ≡ sum_n (gain_term v z s i) (input_count v z)
  unfolding gain_term
  input_terms v =
      weight_sum (gains_of v z s i) (limits_of v z s) (input_count v z) (gains_count z s v i) (limits_count z s v)
      ∙ sum_n_cong _ _ (input_count v z) (λ j l. rw (gain_at_lem z s v i j l, input_limit_at z s v j l))

  pub gain_terms : range_b (problem_at z s) (command_at z s i) ≡ ceil (sum_n (gain_term State z s i) z.nx + sum_n (gain_term Target z s i) z.nr) (2 ^ z.b)
  unfolding range_b F problem_at command_at
  gain_terms =
      ap (λ (k : ℕ). ceil k (2 ^ z.b))
      (weight_append (gains_of State z s i) (gains_of Target z s i) (limits_of State z s) (limits_of Target z s) (gains_count z s State i ∙ sym (limits_count z s State))
      ∙ rw (input_terms State, input_terms Target))

-- Where sizes need none of the requests that a version lacks, an image has the number, and a cold start and a solve have the number and the
-- answer, that they have by that version. Assumes nothing.
use mathlib.Core.Path.{◌≡◌, refl, sym, ap, ◌∙◌}
use mathlib.Core.Bool.{Bool, true, false, cond, ◌||◌}
use mathlib.Core.List.{List, [], ◌∷◌, ◌++◌, map}
use Prim.Native.Nat.{ℕ, ◌+◌, ◌*◌, ◌%◌, ◌<◌}
use native.Mathlib.Nat.{mul-one, mod-eq_of_lt}
use native.Mathlib.Omega.{arith}
use lib.Dec.{eqb}
use lib.IntN.{ℤ, pos, nat_abs}
use lib.ListN.{drop, length}
use lib.Signed.{le_z}
use Rattle.word.specs.Word.{nat_at, word_at, words_at}
use Rattle.gradient.specs.Problem.{Problem}
use Rattle.gradient.specs.Scheme.{iterate}
use Rattle.gradient.specs.Bounds.{error_after}
use Rattle.gradient.specs.Demand.{every2, start_within}
use Rattle.gradient.specs.Index.{all_to}
use Rattle.gradient.proofs.Index.{tab_cong}
use Rattle.gradient.proofs.Tests.{all_cong}
use Rattle.image.specs.declared.Sizes.{Sizes}
use Rattle.image.specs.declared.Input.{Input}
use Rattle.image.specs.declared.Input.TheVariants.{State, Target}
use Rattle.image.specs.Order.{Check, check, first_fault}
use Rattle.image.specs.Sizes.{command_count, input_count, body_count}
use Rattle.image.specs.Layout.{sizes_of, upper_place, momentum_place, gains_from, limits_from, lower_place, lower_at, upper_at, momentum_at, limit_at, gains_of, limits_of, command_at, problem_at, problem_of}
use Rattle.image.specs.Checks.{word_test, limit_test, head_number, body_number}
use Rattle.interface.specs.Tables.{order_test, stop_test, momentum_range, momentum_ratio, range_test, row_test, tables_number, image_number}
use Rattle.interface.specs.Calls.{values_of, inputs_of, start_of, values_within, cold_number, cold_answer, call_number, solvable_number, solve_number, commands_after, bounds_after, distance_after, commands_and_bounds, solve_answer}
use Rattle.former.specs.Version.{Version}
use Rattle.former.specs.Former as former
use Rattle.former.specs.Laws.{SameCalls}

-- sizes that need none of the requests that a version lacks
pub record Fits (v : Version) (z : Sizes) : Type 0 where
  pub no_targets : v.targets ≡ false → z.nr ≡ 0
  pub one_step : v.horizon ≡ false → z.steps ≡ 1
  pub nearest : v.nearest ≡ true

-- what request 1 added to a list goes where it makes no difference
pub part : (v : Version) {A B : Type 0} (g : List A → B) (l : List A) → (v.targets ≡ false → g l ≡ g []) → g l ≡ g (former.of_targets v l)
part v g l h = by v.targets refl
  where
    by : (t : Bool) → v.targets ≡ t → g l ≡ g (cond t l [])
    by true e = refl
    by false e = h e

-- ---- such sizes
module _ (v : Version) (z : Sizes) (f : Fits v z) where
  pub count_same : command_count z ≡ former.limit_count v z
  count_same = by v.horizon refl
    where
      by : (h : Bool) → v.horizon ≡ h → command_count z ≡ cond h (command_count z) z.nu
      by true e = refl
      by false e = rw (f.one_step e) (mul-one z.nu)

  own_limit : (k : ℕ) → k < command_count z → k ≡ former.limit_of v z k
  own_limit k h = by v.horizon refl
    where
      by : (b : Bool) → v.horizon ≡ b → k ≡ cond b k (k % z.nu)
      by true e = refl
      by false e = let n : command_count z ≡ z.nu = rw (f.one_step e) (mul-one z.nu) in let l : k < z.nu = omega arith in sym (mod-eq_of_lt l)

  target_words : command_count z * z.nr + z.nr ≡ cond v.targets (command_count z * z.nr + z.nr) 0
  target_words = by v.targets refl
    where
      by : (t : Bool) → v.targets ≡ t → command_count z * z.nr + z.nr ≡ cond t (command_count z * z.nr + z.nr) 0
      by true e = refl
      by false e = rw (f.no_targets e) (omega arith)

  body_count_lem : body_count z ≡ former.body_count v z
  body_count_lem = omega (arith, count_same, target_words)

  gains_place : (i : Input) → gains_from i z ≡ former.gains_from v i z
  gains_place State = refl
  gains_place Target = omega (arith, count_same)

  limits_place : (i : Input) → limits_from i z ≡ former.limits_from v i z
  limits_place State = omega (arith, count_same)
  limits_place Target = omega (arith, count_same)

  module _ (s : List ℕ) where
    lower_same : (k : ℕ) → k < command_count z → lower_at z s k ≡ former.lower_at v z s k
    unfolding lower_at former.lower_at
    lower_same k h = ap (λ (j : ℕ). word_at s (lower_place z + 4 * j)) (own_limit k h)

    upper_same : (k : ℕ) → k < command_count z → upper_at z s k ≡ former.upper_at v z s k
    unfolding upper_at former.upper_at
    upper_same k h =
        let e : upper_place z + 4 * k ≡ former.upper_place v z + 4 * former.limit_of v z k = omega (arith, count_same, own_limit k h) in
        ap (word_at s) e

    momentum_same : momentum_at z s ≡ former.momentum_at v z s
    unfolding momentum_at former.momentum_at
    momentum_same = let e : momentum_place z ≡ former.momentum_place v z = omega (arith, count_same) in ap (word_at s) e

    limit_same : (i : Input) (j : ℕ) → limit_at i z s j ≡ former.limit_at v i z s j
    unfolding limit_at former.limit_at
    limit_same i j = ap (λ (at : ℕ). word_at s (at + 4 * j)) (limits_place i)

    limits_same : (i : Input) → limits_of i z s ≡ former.limits_of v i z s
    limits_same i = ap (λ (at : ℕ). map nat_abs (words_at s at (input_count i z))) (limits_place i)

    gains_same : (i : Input) (k : ℕ) → gains_of i z s k ≡ former.gains_of v i z s k
    gains_same i k = ap (λ (at : ℕ). words_at (drop (at + 4 * (k * input_count i z)) s) 0 (input_count i z)) (gains_place i)

    all_gains : (k : ℕ) → gains_of State z s k ++ gains_of Target z s k ≡ former.gains_of v State z s k ++ former.of_targets v (former.gains_of v Target z s k)
    unfolding words_at
    all_gains k = rw (gains_same Target k) (part v (λ (l : List ℤ). gains_of State z s k ++ l) (former.gains_of v Target z s k) (λ e. rw (f.no_targets e)))

    all_limits : limits_of State z s ++ limits_of Target z s ≡ former.limits_of v State z s ++ former.of_targets v (former.limits_of v Target z s)
    unfolding words_at
    all_limits = rw (limits_same State, limits_same Target) (part v (λ (l : List ℕ). former.limits_of v State z s ++ l) (former.limits_of v Target z s) (λ e. rw (f.no_targets e)))

    command_same : (k : ℕ) → k < command_count z → command_at z s k ≡ former.command_at v z s k
    unfolding command_at former.command_at
    command_same k h = rw (lower_same k h, upper_same k h, all_gains k)

    problem_same : problem_at z s ≡ former.problem_at v z s
    unfolding problem_at former.problem_at
    problem_same = rw (momentum_same, all_limits, tab_cong (command_at z s) (former.command_at v z s) _ command_same)

    -- checks 5, 7, 17 and 8 to 12
    body_same : body_number z s ≡ former.body_number v z s
    unfolding body_number former.body_number
    body_same =
        rw (
          body_count_lem,
          all_cong (limit_test State z s) (former.limit_test v State z s) z.nx (λ j l. ap (le_z (pos 0)) (limit_same State j)),
          all_cong (limit_test Target z s) (former.limit_test v Target z s) z.nr (λ j l. ap (le_z (pos 0)) (limit_same Target j)),
        )
        (part v (λ (l : List Check). first_fault (check 5 (all_to (word_test z s) (former.body_count v z)) ∷ check 5 (all_to (former.limit_test v State z s) z.nx) ∷ l))
        (check 5 (all_to (former.limit_test v Target z s) z.nr) ∷ []) (λ e. rw (f.no_targets e)))

    range_same : (k : ℕ) → k < command_count z → range_test z s k ≡ former.range_test v z s k
    unfolding range_test former.range_test
    range_same k h = rw (problem_same, command_same k h)

    row_same : (k : ℕ) → k < command_count z → row_test z s k ≡ former.row_test v z s k
    unfolding row_test former.row_test
    row_same k h = rw (problem_same, command_same k h)

    pub tables_same : tables_number z s ≡ former.tables_number v z s
    unfolding tables_number former.tables_number momentum_range former.momentum_range momentum_ratio former.momentum_ratio
    tables_same =
        rw (
          all_cong (order_test z s) (former.order_test v z s) (command_count z) (λ k h. rw (lower_same k h, upper_same k h)),
          all_cong (stop_test z s) (former.stop_test v z s) (command_count z) (λ k h. rw (lower_same k h, upper_same k h)),
          momentum_same,
          all_cong (range_test z s) (former.range_test v z s) (command_count z) range_same,
          all_cong (row_test z s) (former.row_test v z s) (command_count z) row_same,
        )

    pub within_same : (i : Input) (values : List ℕ) → values_within i z s values ≡ former.values_within v i z s values
    unfolding values_within former.values_within
    within_same i values = rw (limits_same i)

-- ---- an image with such sizes, and an empty target where there was none
module _ (v : Version) (s : List ℕ) (f : Fits v (sizes_of s)) where
  abbrev z : Sizes
  z = sizes_of s

  word_6 : true ≡ v.targets || eqb (nat_at s 24) 0
  unfolding sizes_of
  word_6 = by v.targets refl
    where
      by : (t : Bool) → v.targets ≡ t → true ≡ t || eqb (nat_at s 24) 0
      by true e = refl
      by false e = rw (f.no_targets e)

  head_same : head_number s ≡ former.head_number v s
  unfolding head_number former.head_number
  head_same = rw (← word_6, body_count_lem v z f)

  pub image_same : image_number s ≡ former.image_number v s
  unfolding image_number former.image_number
  image_same = rw (head_same, body_same v z f s, tables_same v z f s)

  whole_problem : problem_of s ≡ former.problem_of v s
  unfolding problem_of former.problem_of
  whole_problem = problem_same v z f s

  module _ (state target start : List ℕ) (none : v.targets ≡ false → target ≡ []) where
    inputs_same : inputs_of z state target ≡ former.inputs_of v z state target
    unfolding inputs_of former.inputs_of values_of words_at
    inputs_same = part v (λ (l : List ℤ). values_of State z state ++ l) (values_of Target z target) (λ e. rw (f.no_targets e))

    no_fault : v.targets ≡ false → former.input_passes v Target z s target ≡ true
    unfolding former.values_within values_of words_at every2
    no_fault e = rw (none e, f.no_targets e)

    call_same : call_number s state target start ≡ former.call_number v s state target start
    unfolding call_number former.call_number
    call_same =
        rw (whole_problem, within_same v z f s State state, within_same v z f s Target target)
        (part v (λ (l : List Check).
        first_fault
        (check 13 (former.input_passes v State z s state)
        ∷ l
        ++ check 14 (eqb (length start) (4 * command_count z))
        ∷ check 14 (start_within (former.problem_of v s) (start_of z start))
        ∷ [])) (check 16 (former.input_passes v Target z s target) ∷ []) (λ e. rw (no_fault e)))

    pub solvable_same : solvable_number s state target start ≡ former.solvable_number v s state target start
    unfolding solvable_number former.solvable_number
    solvable_same = rw (image_same, call_same)

    -- the commands, the bounds and D after k sweeps
    module _ (k : ℕ) where
      commands_same : commands_after s state target start k ≡ former.commands_after v s state target start k
      unfolding commands_after former.commands_after
      commands_same =
          ap (λ (l : List ℤ). (iterate (problem_of s) l (start_of z start) k).z) inputs_same
          ∙ ap (λ (p : Problem). (iterate p (former.inputs_of v z state target) (start_of z start) k).z) whole_problem

      bounds_same : bounds_after s k ≡ former.bounds_after v s k
      unfolding bounds_after former.bounds_after
      bounds_same = ap (λ (p : Problem). (error_after p k).e) whole_problem

      pub front_same : commands_and_bounds s state target start k ≡ former.commands_and_bounds v s state target start k
      front_same = rw (commands_same, bounds_same)

      pub distance_same : distance_after s state target start k ≡ former.distance_after v s state target start k
      unfolding distance_after former.distance_after
      distance_same = rw (inputs_same, whole_problem, commands_same)

pub cold_same : (v : Version) (image : List ℕ) → Fits v (sizes_of image) → cold_answer image ≡ former.cold_answer v image
unfolding cold_answer former.cold_answer
cold_same v image f = rw (whole_problem v image f)

-- ---- the law, of a version with request 8
pub same_calls : (v : Version) (image state target start : List ℕ) (room : ℕ) → Fits v (sizes_of image) → v.distance ≡ true → (v.targets ≡ false → target ≡ [])
    → SameCalls v image state target start room
unfolding cold_number former.cold_number solve_number former.solve_number solve_answer former.solve_answer
same_calls v image state target start room f d none = record {
  cold_number_lem = rw (image_same v image f);
  cold_answer_lem = cold_same v image f;
  number = rw (solvable_same v image f state target start none, d);
  answer = let k = (sizes_of image).sweeps in rw (front_same v image f state target start none k, distance_same v image f state target start none k, d);
}

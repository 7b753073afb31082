-- The same image with k as its sweeps: accepted too, and what a solve answers on it are the commands, the bounds and D after k sweeps. Assumes
-- nothing.
use mathlib.Core.Path.{◌≡◌, refl, sym, ap, subst, ◌∙◌}
use mathlib.Core.Bool.{true, cond, ◌&&◌}
use mathlib.Core.List.{List, ◌++◌, map, append_assoc}
use Prim.Native.Nat.{ℕ, zero, suc, ◌+◌, ◌-◌, ◌*◌, ◌^◌, ◌≤◌, ◌<◌}
use native.Mathlib.Omega.{arith}
use native.Mathlib.Nat.{zero-add}
use lib.Dec.{eqb, leb, lit<}
use borrow.Author.Tests.{le-leb}
use lib.IntN.{ℤ, pos, nat_abs}
use lib.ListN.{length, take, drop, length-append}
use lib.Signed.{le_z}
use lib.Seq.{drop-drop, take_at, drop_at, length-take-le, ext_get_or}
use Rattle.word.specs.Word.{nat_at, word_at, words_at, bytes_of}
use Rattle.word.specs.Buffer.{put_at}
use Rattle.word.specs.Format.{is_format, in_word}
use Rattle.word.proofs.Words.{nat_part, nat_drop, nat_back, word_drop, length_bytes, length_words_at, get_d_words_at}
use Rattle.word.proofs.Buffer.{length_put, part_put}
use Rattle.gradient.specs.Index.{tab}
use Rattle.gradient.specs.Problem.{Command, Problem, F, with_iterations}
use Rattle.gradient.specs.Scheme.{Iterate, iterate}
use Rattle.gradient.specs.Bounds.{range_p, range_y, range_a, range_b, Error, error_after}
use Rattle.gradient.proofs.Prefix.{iterate_prefix, error_prefix, start_prefix}
use Rattle.gradient.proofs.Index.{tab_cong, sum_n_cong}
use Rattle.gradient.proofs.Tests.{all_cong}
use Rattle.optimum.proofs.Prefix.{bound_prefix}
use Rattle.image.specs.declared.Sizes.{Sizes}
use Rattle.image.specs.declared.Input.{Input}
use Rattle.image.specs.declared.Input.TheVariants.{State, Target}
use Rattle.image.specs.Order.{or_else}
use Rattle.image.specs.Sizes.{between, sound, command_count, input_count, body_count}
use Rattle.image.specs.Layout.{sizes_of, problem_of, cost_at, cost_row, gain_row, lower_at, upper_at, momentum_at, limit_at, entry_of, command_at, problem_at, lower_place, upper_place, momentum_place, limits_from, limits_of, cost_offset, gain_offset}
use Rattle.image.specs.Checks.{head_number, word_test, limit_test, body_number}
use Rattle.image.proofs.Ordering.{passed, both, none}
use Rattle.interface.specs.Calls.{values_of, inputs_of, start_of, values_within, call_number, solvable_number, answer_length, solve_number, solve_answer, answer_after, commands_after, bounds_after, distance_after}
use Rattle.interface.specs.Demand.{with_sweeps, Prefix}
use Rattle.interface.specs.Tables.{order_test, stop_test, symmetry_test, margin_test, total_test, momentum_range, momentum_ratio, range_test, row_test, others_at, margin_at, total_at, least_to, largest_to, least_margin, margin_of, largest_total, eq_z, tables_number, image_number}
use Rattle.interface.proofs.Accept.{accepted}

least_cong : (f g : ℕ → ℤ) (n : ℕ) → ((i : ℕ) → f i ≡ g i) → least_to f n ≡ least_to g n
least_cong f g zero h = h 0
least_cong f g (suc n) h = rw (least_cong f g n h, h (suc n))

largest_cong : (f g : ℕ → ℤ) (n : ℕ) → ((i : ℕ) → f i ≡ g i) → largest_to f n ≡ largest_to g n
largest_cong f g zero h = h 0
largest_cong f g (suc n) h = rw (largest_cong f g n h, h (suc n))

-- ---- two images that agree from word 8 on
module _ (z : Sizes) (s t : List ℕ) (e : drop 32 s ≡ drop 32 t) where
  drop_same : (at : ℕ) → 32 ≤ at → drop at s ≡ drop at t
  drop_same at h =
      let q : at ≡ 32 + (at - 32) = omega arith in
      rw q (sym (drop-drop (at - 32) 32 s) ∙ ap (drop (at - 32)) e ∙ drop-drop (at - 32) 32 t)

  word_same : (at : ℕ) → 32 ≤ at → word_at s at ≡ word_at t at
  word_same at h =
      let q : at ≡ 32 + (at - 32) = omega arith in
      rw q (sym (word_drop s 32 (at - 32)) ∙ ap (λ (l : List ℕ). word_at l (at - 32)) e ∙ word_drop t 32 (at - 32))

  cost_row_same : (i : ℕ) → cost_row z s i ≡ cost_row z t i
  cost_row_same i = drop_same (cost_offset z i) (omega arith)

  gain_row_same : (v : Input) (i : ℕ) → gain_row v z s i ≡ gain_row v z t i
  gain_row_same State i = drop_same (gain_offset State z i) (omega arith)
  gain_row_same Target i = drop_same (gain_offset Target z i) (omega arith)

  cost_same : (i j : ℕ) → cost_at z s i j ≡ cost_at z t i j
  cost_same i j = ap (λ (l : List ℕ). word_at l (4 * j)) (cost_row_same i)

  lower_same : (k : ℕ) → lower_at z s k ≡ lower_at z t k
  unfolding lower_at
  lower_same k = word_same (lower_place z + 4 * k) (omega arith)

  upper_same : (k : ℕ) → upper_at z s k ≡ upper_at z t k
  unfolding upper_at
  upper_same k = word_same (upper_place z + 4 * k) (omega arith)

  momentum_same : momentum_at z s ≡ momentum_at z t
  unfolding momentum_at
  momentum_same = word_same (momentum_place z) (omega arith)

  behind_head : (v : Input) → 32 ≤ limits_from v z
  behind_head State = omega arith
  behind_head Target = omega arith

  limit_same : (v : Input) (j : ℕ) → limit_at v z s j ≡ limit_at v z t j
  unfolding limit_at
  limit_same v j = word_same (limits_from v z + 4 * j) (omega (arith, behind_head v))

  limits_same : (v : Input) → limits_of v z s ≡ limits_of v z t
  limits_same v = ap (map nat_abs) (words_same (input_count v z) (limits_from v z) (behind_head v))
    where
      words_same : (n at : ℕ) → 32 ≤ at → words_at s at n ≡ words_at t at n
      words_same n at h = ext_get_or (pos 0) (words_at s at n) (words_at t at n) (length_words_at s at n ∙ sym (length_words_at t at n)) (λ i l. let k : i < n = rw (length_words_at s at n) at l in get_d_words_at s at n i k ∙ word_same (at + 4 * i) (omega arith) ∙ sym (get_d_words_at t at n i k))

  command_same : (k : ℕ) → command_at z s k ≡ command_at z t k
  unfolding command_at
  command_same k =
      ap (λ (l : ℤ). made l (upper_at z s k) (cost_row z s k) (gain_row State z s k) (gain_row Target z s k)) (lower_same k)
      ∙ ap (λ (u : ℤ). made (lower_at z t k) u (cost_row z s k) (gain_row State z s k) (gain_row Target z s k)) (upper_same k)
      ∙ ap (λ (c : List ℕ). made (lower_at z t k) (upper_at z t k) c (gain_row State z s k) (gain_row Target z s k)) (cost_row_same k)
      ∙ ap (λ (g : List ℕ). made (lower_at z t k) (upper_at z t k) (cost_row z t k) g (gain_row Target z s k)) (gain_row_same State k)
      ∙ ap (made (lower_at z t k) (upper_at z t k) (cost_row z t k) (gain_row State z t k)) (gain_row_same Target k)
    where
      made : ℤ → ℤ → List ℕ → List ℕ → List ℕ → Command
      made l u c g h = record { lower = l; upper = u; row = tab (entry_of z.b c k) (command_count z); gains = words_at g 0 z.nx ++ words_at h 0 z.nr }

  pub problem_same : problem_at z s ≡ problem_at z t
  unfolding problem_at
  problem_same = rw (momentum_same, limits_same State, limits_same Target, tab_cong (command_at z s) (command_at z t) (command_count z) (λ i h. command_same i))

  others_same : (i : ℕ) → others_at z s i ≡ others_at z t i
  unfolding others_at
  others_same i = sum_n_cong (λ (j : ℕ). cond (eqb i j) 0 (nat_abs (cost_at z s i j))) (λ (j : ℕ). cond (eqb i j) 0 (nat_abs (cost_at z t i j))) (command_count z) (λ j h. rw (cost_same i j))

  margin_same : (i : ℕ) → margin_at z s i ≡ margin_at z t i
  unfolding margin_at
  margin_same i = rw (cost_same i i, others_same i)

  total_same : (i : ℕ) → total_at z s i ≡ total_at z t i
  unfolding total_at
  total_same i = rw (cost_same i i, others_same i)

  symmetry_same : (i : ℕ) → symmetry_test z s i ≡ symmetry_test z t i
  unfolding symmetry_test
  symmetry_same i = all_cong (λ (j : ℕ). eq_z (cost_at z s i j) (cost_at z s j i)) (λ (j : ℕ). eq_z (cost_at z t i j) (cost_at z t j i)) (command_count z) (λ j l. rw (cost_same i j, cost_same j i))

  momentum_range_same : momentum_range z s ≡ momentum_range z t
  unfolding momentum_range
  momentum_range_same = rw momentum_same

  ratio_same : momentum_ratio z s ≡ momentum_ratio z t
  unfolding momentum_ratio least_margin largest_total
  ratio_same =
      rw (
        momentum_same,
        least_cong (margin_at z s) (margin_at z t) (command_count z - 1) margin_same,
        largest_cong (total_at z s) (total_at z t) (command_count z - 1) total_same,
      )

  range_same : (i : ℕ) → range_test z s i ≡ range_test z t i
  unfolding range_test
  range_same i = rw (problem_same, command_same i)

  row_same : (i : ℕ) → row_test z s i ≡ row_test z t i
  unfolding row_test
  row_same i = rw (problem_same, command_same i)

  pub body_number_same : body_number z s ≡ body_number z t
  unfolding body_number
  body_number_same =
      rw (
        all_cong (word_test z s) (word_test z t) (body_count z) (λ i l. ap (in_word z.w) (word_same (4 * (8 + i)) (omega arith))),
        all_cong (limit_test State z s) (limit_test State z t) z.nx (λ j l. ap (le_z (pos 0)) (limit_same State j)),
        all_cong (limit_test Target z s) (limit_test Target z t) z.nr (λ j l. ap (le_z (pos 0)) (limit_same Target j)),
      )

  pub tables_number_same : tables_number z s ≡ tables_number z t
  unfolding tables_number
  tables_number_same =
      let n = command_count z in
      rw (
        all_cong (order_test z s) (order_test z t) n (λ i l. rw (lower_same i, upper_same i)),
        all_cong (stop_test z s) (stop_test z t) n (λ i l. rw (lower_same i, upper_same i)),
        all_cong (symmetry_test z s) (symmetry_test z t) n (λ i l. symmetry_same i),
        all_cong (margin_test z s) (margin_test z t) n (λ i l. ap (le_z (pos 1)) (margin_same i)),
        all_cong (total_test z s) (total_test z t) n (λ i l. ap (λ (x : ℤ). le_z x (pos (2 ^ z.b))) (total_same i)),
        momentum_range_same,
        ratio_same,
        all_cong (range_test z s) (range_test z t) n (λ i l. range_same i),
        all_cong (row_test z s) (row_test z t) n (λ i l. row_same i),
      )

-- ---- the image with other sweeps
resized : ℕ → Sizes → Sizes
resized k z = record { nu = z.nu; steps = z.steps; nx = z.nx; b = z.b; w = z.w; sweeps = k; nr = z.nr }

sound_resized : (k : ℕ) (z : Sizes) → 1 ≤ k → k ≤ 400 → sound z ≡ true → sound (resized k z) ≡ true
unfolding sound resized
sound_resized k z h l e =
    let sizes = between 1 4 z.nu && between 1 16 z.steps && leb (command_count z) 16 && between 1 12 z.nx && is_format z.b z.w in
    let q = both (sizes && between 1 400 z.sweeps) (leb z.nr 4) e in
    let p = both sizes (between 1 400 z.sweeps) q.0 in
    rw (p.0, le-leb 1 k h, le-leb k 400 l, q.1)

-- nothing but the problem's iterations reads the sweeps
iterations_only : (k : ℕ) (z : Sizes) (s : List ℕ) → problem_at (resized k z) s ≡ with_iterations k (problem_at z s)
unfolding resized problem_at command_at lower_at upper_at momentum_at with_iterations
iterations_only k z s = refl

body_sweeps : (k : ℕ) (z : Sizes) (s : List ℕ) → body_number (resized k z) s ≡ body_number z s
unfolding resized body_number limit_at
body_sweeps k z s = refl

tables_sweeps : (k : ℕ) (z : Sizes) (s : List ℕ) → tables_number (resized k z) s ≡ tables_number z s
unfolding resized tables_number lower_at upper_at momentum_at symmetry_test others_at margin_at total_at least_margin largest_total momentum_range momentum_ratio range_test row_test problem_at command_at F range_p range_y range_a range_b
tables_sweeps k z s = refl

values_resized : (k : ℕ) (v : Input) (z : Sizes) (values : List ℕ) → values_of v (resized k z) values ≡ values_of v z values
unfolding resized values_of
values_resized k State z values = refl
values_resized k Target z values = refl

limits_resized : (k : ℕ) (v : Input) (z : Sizes) (s : List ℕ) → limits_of v (resized k z) s ≡ limits_of v z s
unfolding resized
limits_resized k State z s = refl
limits_resized k Target z s = refl

start_kept : (k : ℕ) (z : Sizes) (start : List ℕ) → start_of (resized k z) start ≡ start_of z start
unfolding resized start_of
start_kept k z start = refl

none_of : (a b : ℕ) → a ≡ 0 → b ≡ 0 → or_else a b ≡ 0
none_of a b p q = rw p q

-- nothing in the margins reads the sweeps
margin_sweeps : (k : ℕ) (z : Sizes) (s : List ℕ) → least_margin (resized k z) s ≡ least_margin z s
unfolding resized least_margin margin_at others_at
margin_sweeps k z s = refl

module _ (s : List ℕ) (k : ℕ) (long : 32 ≤ length s) (few : k ≤ 400) where
  kept_length : length (with_sweeps k s) ≡ length s
  unfolding with_sweeps
  kept_length = length_put s 20 (bytes_of k) (rw (length_bytes 4 k) (omega arith))

  front : take 20 (with_sweeps k s) ≡ take 20 s
  unfolding with_sweeps put_at
  front =
      rw (append_assoc (take 20 s) (bytes_of k) (drop (20 + length (bytes_of k)) s))
      (take_at (take 20 s) (bytes_of k ++ drop (20 + length (bytes_of k)) s) 20 (length-take-le 20 s (omega arith)))

  behind : drop 24 (with_sweeps k s) ≡ drop 24 s
  unfolding with_sweeps put_at
  behind =
      rw (length_bytes 4 k)
      (drop_at (take 20 s ++ bytes_of k) (drop 24 s) 24 (omega (arith, length-append (take 20 s) (bytes_of k), length-take-le 20 s (omega arith), length_bytes 4 k)))

  -- the words before word 5, word 5, and the words after it
  nat_front : (at : ℕ) → at + 4 ≤ 20 → nat_at (with_sweeps k s) at ≡ nat_at s at
  nat_front at h =
      let p = nat_part 4 (with_sweeps k s) 0 20 at h in
      let q = nat_part 4 s 0 20 at h in
      let z = zero-add at in
      ap (nat_at (with_sweeps k s)) (sym z) ∙ sym p ∙ ap (λ (l : List ℕ). nat_at l at) front ∙ q ∙ ap (nat_at s) z

  nat_sweeps : nat_at (with_sweeps k s) 20 ≡ k
  nat_sweeps = nat_back 4 k (omega arith) (with_sweeps k s) 20 part
    where
      part : take 4 (drop 20 (with_sweeps k s)) ≡ bytes_of k
      part = subst (λ (n : ℕ). take n (drop 20 (with_sweeps k s)) ≡ bytes_of k) (length_bytes 4 k) (unfold with_sweeps in part_put s 20 (bytes_of k) (rw (length_bytes 4 k) (omega arith)))

  nat_behind : (at : ℕ) → nat_at (with_sweeps k s) (24 + at) ≡ nat_at s (24 + at)
  nat_behind at = sym (nat_drop 4 (with_sweeps k s) 24 at) ∙ ap (λ (l : List ℕ). nat_at l at) behind ∙ nat_drop 4 s 24 at

  body_kept : drop 32 (with_sweeps k s) ≡ drop 32 s
  body_kept = sym (drop-drop 8 24 (with_sweeps k s)) ∙ ap (drop 8) behind ∙ drop-drop 8 24 s

  sizes_resized : sizes_of (with_sweeps k s) ≡ resized k (sizes_of s)
  unfolding sizes_of resized
  sizes_resized =
      rw (nat_front 0 (omega arith), nat_front 4 (omega arith), nat_front 8 (omega arith), nat_front 12 (omega arith), nat_front 16 (omega arith), nat_sweeps, nat_behind 0)

  problem_resized : problem_of (with_sweeps k s) ≡ with_iterations k (problem_of s)
  unfolding problem_of
  problem_resized =
      ap (λ (z : Sizes). problem_at z (with_sweeps k s)) sizes_resized
      ∙ problem_same (resized k (sizes_of s)) (with_sweeps k s) s body_kept
      ∙ iterations_only k (sizes_of s) s

  head_kept : 1 ≤ k → head_number s ≡ 0 → head_number (with_sweeps k s) ≡ 0
  unfolding head_number resized
  head_kept one e =
      let p₁ = passed (leb 32 (length s)) 6 _ (lit< tt) e in
      let p₂ = passed (sound (sizes_of s)) 3 _ (lit< tt) p₁.1 in
      let p₃ = passed (eqb (nat_at s 28) 0) 3 _ (lit< tt) p₂.1 in
      let p₄ = passed (eqb (length s) (4 * (8 + body_count (sizes_of s)))) 6 _ (lit< tt) p₃.1 in
      rw (kept_length, p₁.0, sizes_resized, sound_resized k (sizes_of s) one few p₂.0, nat_behind 4, p₃.0, p₄.0)

  body_number_kept : body_number (sizes_of (with_sweeps k s)) (with_sweeps k s) ≡ body_number (sizes_of s) s
  body_number_kept =
      ap (λ (z : Sizes). body_number z (with_sweeps k s)) sizes_resized
      ∙ body_number_same (resized k (sizes_of s)) (with_sweeps k s) s body_kept
      ∙ body_sweeps k (sizes_of s) s

  tables_number_kept : tables_number (sizes_of (with_sweeps k s)) (with_sweeps k s) ≡ tables_number (sizes_of s) s
  tables_number_kept =
      ap (λ (z : Sizes). tables_number z (with_sweeps k s)) sizes_resized
      ∙ tables_number_same (resized k (sizes_of s)) (with_sweeps k s) s body_kept
      ∙ tables_sweeps k (sizes_of s) s

  number_kept : 1 ≤ k → image_number s ≡ 0 → image_number (with_sweeps k s) ≡ 0
  unfolding image_number
  number_kept one e =
      let a = none (head_number s) _ e in
      let b = none (body_number (sizes_of s) s) (tables_number (sizes_of s) s) a.1 in
      none_of (head_number (with_sweeps k s)) _ (head_kept one a.0)
      (none_of (body_number (sizes_of (with_sweeps k s)) (with_sweeps k s)) (tables_number (sizes_of (with_sweeps k s)) (with_sweeps k s)) (body_number_kept ∙ b.0) (tables_number_kept ∙ b.1))

  within_kept : (v : Input) (values : List ℕ) → values_within v (resized k (sizes_of s)) (with_sweeps k s) values ≡ values_within v (sizes_of s) s values
  unfolding values_within
  within_kept v values =
      rw (limits_same (resized k (sizes_of s)) (with_sweeps k s) s body_kept v, limits_resized k v (sizes_of s) s, values_resized k v (sizes_of s) values)

  -- ---- a call
  module _ (state target start : List ℕ) where
    call_kept : call_number (with_sweeps k s) state target start ≡ call_number s state target start
    unfolding call_number resized
    call_kept =
        rw (sizes_resized, problem_resized, within_kept State state, within_kept Target target, start_kept k (sizes_of s) start, start_prefix (problem_of s) k (start_of (sizes_of s) start))

    room_kept : answer_length (sizes_of (with_sweeps k s)) ≡ answer_length (sizes_of s)
    unfolding resized
    room_kept = ap answer_length sizes_resized

    solve_kept : (room : ℕ) → 1 ≤ k → image_number s ≡ 0 → solve_number (with_sweeps k s) state target start room ≡ solve_number s state target start room
    unfolding solve_number solvable_number
    solve_kept room one e = rw (number_kept one e, e, call_kept, room_kept)

    -- ---- its answer after j sweeps
    inputs_kept : inputs_of (sizes_of (with_sweeps k s)) state target ≡ inputs_of (sizes_of s) state target
    unfolding resized inputs_of values_of
    inputs_kept = ap (λ (z : Sizes). inputs_of z state target) sizes_resized

    commands_kept : (j : ℕ) → commands_after (with_sweeps k s) state target start j ≡ commands_after s state target start j
    unfolding commands_after resized start_of
    commands_kept j =
        ap (λ (p : Problem). (iterate p (inputs_of (sizes_of (with_sweeps k s)) state target) (start_of (sizes_of (with_sweeps k s)) start) j).z) problem_resized
        ∙ ap (λ (l : List ℤ). (iterate (with_iterations k (problem_of s)) l (start_of (sizes_of (with_sweeps k s)) start) j).z) inputs_kept
        ∙ ap (λ (z : Sizes). (iterate (with_iterations k (problem_of s)) (inputs_of (sizes_of s) state target) (start_of z start) j).z) sizes_resized
        ∙ ap (λ (x : Iterate). x.z) (iterate_prefix (problem_of s) k (inputs_of (sizes_of s) state target) (start_of (sizes_of s) start) j)

    bounds_kept : (j : ℕ) → bounds_after (with_sweeps k s) j ≡ bounds_after s j
    unfolding bounds_after
    bounds_kept j = ap (λ (p : Problem). (error_after p j).e) problem_resized ∙ ap (λ (x : Error). x.e) (error_prefix (problem_of s) k j)

    margin_kept : margin_of (with_sweeps k s) ≡ margin_of s
    unfolding margin_of least_margin
    margin_kept =
        ap (λ (z : Sizes). nat_abs (least_margin z (with_sweeps k s))) sizes_resized
        ∙ ap nat_abs (margin_sweeps k (sizes_of s) (with_sweeps k s) ∙ least_cong (margin_at (sizes_of s) (with_sweeps k s)) (margin_at (sizes_of s) s) (command_count (sizes_of s) - 1) (margin_same (sizes_of s) (with_sweeps k s) s body_kept))

    distance_kept : (j : ℕ) → distance_after (with_sweeps k s) state target start j ≡ distance_after s state target start j
    unfolding distance_after
    distance_kept j =
        let inputs = inputs_of (sizes_of s) state target in
        rw (problem_resized, margin_kept, inputs_kept, commands_kept j) (bound_prefix (problem_of s) k (margin_of s) inputs (commands_after s state target start j))

    answer_kept : solve_answer (with_sweeps k s) state target start ≡ answer_after s state target start k
    unfolding solve_answer resized
    answer_kept =
        ap (answer_after (with_sweeps k s) state target start) (ap (λ (z : Sizes). z.sweeps) sizes_resized) ∙ rw (commands_kept k, bounds_kept k, distance_kept k)

-- the law, for every number of sweeps that an image may have
pub prefix : (image state target start : List ℕ) (room k : ℕ) → image_number image ≡ 0 → 1 ≤ k → k ≤ 400 → Prefix image state target start room k
prefix image state target start room k e one few =
    let w = (accepted image e).whole in
    let long : 32 ≤ length image = omega (arith, w.size) in
    record {
      accepted = number_kept image k long few one e;
      number = solve_kept image k long few state target start room one e;
      answer = answer_kept image k long few state target start;
    }

-- From the start on, an iteration of the commands on arrays is one of the problem that they hold, and demand 3 gives what it asks; one that
-- changes nothing ends them. Assumes nothing.
use mathlib.Core.Path.{◌≡◌, sym, ap, subst, ◌∙◌}
use mathlib.Core.Bool.{Bool, true}
use mathlib.Core.List.{List, []}
use Prim.Native.Nat.{ℕ, suc, ◌+◌, ◌*◌, ◌^◌, ◌≤◌, ◌<◌}
use native.Mathlib.Nat.{le_trans}
use native.Mathlib.Omega.{arith}
use lib.Dec.{T}
use lib.ListN.{length, get_or}
use lib.IntN.{ℤ, pos, ◌-ℤ◌}
use Rattle.integer.specs.Round.{floor, clamp}
use Rattle.word.specs.Word.{word_at}
use Rattle.word.proofs.Words.{get_d_words_front}
use Rattle.gradient.specs.Index.{sum_z, product_at}
use Rattle.gradient.specs.Problem.{Command, Problem, F}
use Rattle.gradient.specs.Scheme.{Iterate, products, linear, next_z, next_y, iterate}
use Rattle.gradient.specs.Demand.{formatted, ordered, headroom, inputs_within, start_within, InWord, RunningSums, InRange, Demand3}
use Rattle.gradient.specs.Sizes.{SizedCommand, Sized}
use Rattle.gradient.proofs.Index.{sum_z_cong, running_sum, unclamped_sum, step_z_at, step_y_at, all1_at}
use Rattle.gradient.proofs.Lengths.{iterate_z_length, iterate_y_length}
use Rattle.gradient.proofs.Tests.{start_length}
use Rattle.gradient.proofs.Demand.{demand3}
use Rattle.gradient.proofs.Settled.{commands_settled, same_iterate}
use Rattle.gradient.proofs.Sizes.{F_most, matrix_sized, word_abs}
use Rattle.image.specs.Sizes.{command_count}
use Rattle.image.specs.Layout.{sizes_of, problem_of}
use Rattle.interface.specs.Calls.{inputs_of, start_of, commands_after}
use Rattle.interface.specs.Accepted.{Solvable}
use Rattle.interface.proofs.Demand.{all_claims}
use Rattle.array.specs.Arrays.{Filled, WordsTo, RowsTo}
use Rattle.array.proofs.Filling.{same_held}
use Rattle.dot.specs.Sums.{RunsTo}
use Rattle.commands.specs.declared.CommandTerms.{CommandTerms}
use Rattle.commands.specs.Steps.{unclamped_of, command_of, z_at, point_of, Fitting, SumsTo, StoredY, StoredZ}
use Rattle.loading.specs.Tables.{Loadable}
use Rattle.loading.proofs.Tables.{nothing, command, command_is, HasRows, HasCommands, count_is}
use Rattle.solve.specs.Reached.{CommandsAt, CommandsOf}

-- what the checks say of a problem, its inputs and a start
pub record Checked (p : Problem) (inputs start : List ℤ) : Type 0 where
  pub sized : Sized p
  pub format : T (formatted p)
  pub order : T (ordered p)
  pub room : T (headroom p)
  pub inputs_in : T (inputs_within p inputs)
  pub starts_in : T (start_within p start)

-- the rows of M are words
pub row_words : {p : Problem} (m : List (List ℤ)) {n : ℕ} → Sized p → n ≡ length p.commands → HasRows p m → RowsTo n m
row_words {p} m s e rows i h j l =
    let a : i < length p.commands = omega arith in
    let b : j < length p.commands = omega arith in
    let r = all1_at s.commands_sized nothing i a in
    rw (rows i a j b) (le_trans (word_abs p s _ (all1_at r.row_words (pos 0) j (omega (arith, r.row_length)))) (omega arith))

module _ {p : Problem} {inputs start : List ℤ} (m : List (List ℤ)) {t : CommandTerms} (rows : HasRows p m) (rep : HasCommands p inputs t) (chk : Checked p inputs start) where
  abbrev N : ℕ
  N = length p.commands

  of_command : (i : ℕ) → i < N → SizedCommand p (command p i)
  of_command i h = all1_at chk.sized.commands_sized nothing i h

  -- demand 3, of the iterates so far
  in_range_lem : (k : ℕ) → InRange p inputs (iterate p inputs start k)
  unfolding Demand3
  in_range_lem k = (demand3 p inputs start chk.format (matrix_sized p chk.sized) chk.order chk.room chk.inputs_in chk.starts_in k).in_range k (omega arith)

  linear_fits : (i : ℕ) → i < N → InWord p (linear p inputs (command p i))
  linear_fits i h = all1_at (in_range_lem 0).linear_word nothing i h

  pub fitting : Fitting t
  fitting =
      let s = chk.sized in
      let n = rep.n_is in
      record {
        few = omega (arith, s.commands_most);
        low = omega (arith, rep.b_is, s.b_least);
        high = omega (arith, rep.b_is, s.b_most);
        momentum_most = omega (arith, rep.momentum_is, s.momentum_most, F_most p s);
        lowers = λ i h. let l : i < N = omega arith in rw (rep.lowers i l) (le_trans (word_abs p s _ (of_command i l).lower_word) (omega arith));
        uppers = λ i h. let l : i < N = omega arith in rw (rep.uppers i l) (le_trans (word_abs p s _ (of_command i l).upper_word) (omega arith));
        linears = λ i h. let l : i < N = omega arith in rw (rep.linears i l) (le_trans (word_abs p s _ (linear_fits i l)) (omega arith));
      }

  starts : length start ≡ N
  starts = start_length p start chk.starts_in

  z_length : (k : ℕ) → length (iterate p inputs start k).z ≡ N
  z_length k = iterate_z_length p inputs start starts k

  y_length : (k : ℕ) → length (iterate p inputs start k).y ≡ N
  y_length k = iterate_y_length p inputs start starts k

  -- ---- after k iterations
  module _ (k : ℕ) (z y : List ℤ) (at : CommandsAt p inputs start k z y) where
    abbrev I : Iterate
    I = iterate p inputs start k

    range : InRange p inputs I
    range = in_range_lem k

    pub z_words : WordsTo t.n z
    z_words i h =
        let a : i < N = omega (arith, rep.n_is) in
        rw (at.at_z.each i a) (le_trans (word_abs p chk.sized _ (all1_at range.z_word (pos 0) i (omega (arith, z_length k)))) (omega arith))

    pub y_words : WordsTo t.n y
    y_words i h =
        let a : i < N = omega (arith, rep.n_is) in
        rw (at.at_y.each i a) (le_trans (word_abs p chk.sized _ (all1_at range.y_word (pos 0) i (omega (arith, y_length k)))) (omega arith))

    -- the sums that the code takes of a row of M y are running sums
    terms_are : (i : ℕ) → i < N → (a n : ℕ) → a + n ≤ N → sum_z (product_at (get_or m i []) y) a n ≡ sum_z (product_at (command p i).row I.y) a n
    unfolding product_at
    terms_are i h a n l = sum_z_cong _ _ a n (λ j o u. rw (rows i h j (omega arith), at.at_y.each j (omega arith)))

    row_runs : (i : ℕ) → i < N → RunsTo N (product_at (get_or m i []) y)
    row_runs i h a n l =
        rw (terms_are i h a n l)
        (running_sum (command p i).row I.y (all1_at range.row_sums nothing i h) a n (omega (arith, (of_command i h).row_length)) (omega (arith, y_length k)))

    pub sums : SumsTo t.n m y
    sums i h = rw rep.n_is (row_runs i (omega (arith, rep.n_is)))

    -- ---- one more
    module _ (new z' y' : List ℤ) {first before same : Bool} (made : Filled (pos 0) t.n (z_at m t y) new)
        (put-y : StoredY t.n t.b t.momentum new z y y' true first) (put-z : StoredZ t.n new z z' before same) where
      z_is : (i : ℕ) → i < N → z_at m t y i ≡ next_z p inputs I.y (command p i)
      unfolding command_of unclamped_of next_z F
      z_is i h =
          rw (rep.b_is, rep.n_is, rep.lowers i h, rep.uppers i h, rep.linears i h, unclamped_sum p inputs I.y (command p i) N (of_command i h).row_length (y_length k))
          (ap (λ (x : ℤ). clamp (command p i).lower (command p i).upper (floor x (2 ^ p.b) -ℤ linear p inputs (command p i))) (terms_are i h 0 N (omega arith)))

      new_is : (i : ℕ) → i < N → get_or new i (pos 0) ≡ get_or (iterate p inputs start (suc k)).z i (pos 0)
      unfolding iterate
      new_is i h = made.each i (omega (arith, rep.n_is)) ∙ z_is i h ∙ sym (step_z_at p inputs I nothing (pos 0) i h)

      new_y : (i : ℕ) → i < N → get_or y' i (pos 0) ≡ get_or (iterate p inputs start (suc k)).y i (pos 0)
      unfolding iterate point_of next_y F
      new_y i h =
          put-y.new_y.each i (omega (arith, rep.n_is))
          ∙ rw (rep.b_is, rep.momentum_is, new_is i h, at.at_z.each i h) (sym (step_y_at p inputs I nothing (pos 0) i h (omega (arith, z_length k))))

      pub reached : CommandsAt p inputs start (suc k) z' y'
      reached = record {
        at_z = record { sized = put-z.new_z.sized; each = λ i h. put-z.new_z.each i (omega (arith, rep.n_is)) ∙ new_is i h };
        at_y = record { sized = put-y.new_y.sized; each = new_y };
      }

      -- the new iterates are the old ones where the arrays are, and then so is every later one
      pub settled : before ≡ first → same ≡ true → (n : ℕ) → k < n → iterate p inputs start n ≡ iterate p inputs start (suc k)
      settled link e n l = commands_settled p inputs start k unchanged n (omega arith) ∙ sym unchanged
        where
          unchanged : iterate p inputs start (suc k) ≡ I
          unchanged = same_iterate (same_held (pos 0) (z_length k) (z_length (suc k)) at.at_z reached.at_z (put-z.same e).1) (same_held (pos 0) (y_length k) (y_length (suc k)) at.at_y reached.at_y (put-y.same (sym link ∙ (put-z.same e).0)).1)

-- ---- on an image
pub checked : {image state target start : List ℕ} → Solvable image state target start → Checked (problem_of image) (inputs_of (sizes_of image) state target) (start_of (sizes_of image) start)
checked s = record { sized = s.accepted.sized; format = s.accepted.format; order = s.accepted.order; room = s.accepted.room; inputs_in = s.inputs; starts_in = s.starts }

-- the sums of h, by demand 3 of the start
pub loadable : {image state target start : List ℕ} → Solvable image state target start → Loadable (sizes_of image) image state target
unfolding Demand3 problem_of
loadable {image} {state} {target} {start} s = record {
  whole = s.accepted.whole;
  state_size = s.state_size;
  target_size = s.target_size;
  sums = λ i h. let l : i < length (problem_of image).commands = omega (arith, count_is image) in
      subst (λ (r : Command). RunningSums (products r.gains (inputs_of (sizes_of image) state target))) (command_is (sizes_of image) image i l)
      (all1_at ((all_claims image state target start s 0).in_range 0 (omega arith)).linear_sums nothing i l);
}

-- before the first iteration: "z0 = y0 = start"
pub first_commands_lem : (image state target start : List ℕ) (z : List ℤ) → Filled (pos 0) (command_count (sizes_of image)) (λ (i : ℕ). word_at start (4 * i)) z
    → CommandsAt (problem_of image) (inputs_of (sizes_of image) state target) (start_of (sizes_of image) start) 0 z z
unfolding iterate start_of
first_commands_lem image state target start z f =
    let n = count_is image in
    let r : Filled (pos 0) (length (problem_of image).commands) (λ (i : ℕ). get_or (start_of (sizes_of image) start) i (pos 0)) z =
    record { sized = f.sized; each = λ i h. f.each i (omega arith) ∙ sym (get_d_words_front start (command_count (sizes_of image)) i (omega arith)) } in
    record { at_z = r; at_y = r }

-- the commands after n iterations, where the arrays hold those after k and these are the same
pub held_after : (image state target start : List ℕ) {k : ℕ} {z y : List ℤ} (n : ℕ) → CommandsAt (problem_of image) (inputs_of (sizes_of image) state target) (start_of (sizes_of image) start) k z y
    → iterate (problem_of image) (inputs_of (sizes_of image) state target) (start_of (sizes_of image) start) n ≡ iterate (problem_of image) (inputs_of (sizes_of image) state target) (start_of (sizes_of image) start) k
    → CommandsOf image state target start n z
unfolding commands_after
held_after image state target start n at e = record {
  sized = at.at_z.sized;
  each = λ i h. at.at_z.each i (omega (arith, count_is image)) ∙ ap (λ (s : Iterate). get_or s.z i (pos 0)) (sym e);
}

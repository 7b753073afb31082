-- From the start on, an iteration of both ends on arrays is one of the carried problem that they hold, and the claim gives what it asks; one
-- that changes nothing ends them. Assumes nothing.
use mathlib.Core.Path.{◌≡◌, refl, sym, ap, subst, ◌∙◌}
use mathlib.Core.Bool.{Bool}
use mathlib.Core.List.{List, [], map}
use Prim.Native.Nat.{ℕ, suc, ◌+◌, ◌*◌, ◌^◌, ◌≤◌, ◌<◌}
use native.Mathlib.Nat.{le_trans}
use native.Mathlib.Omega.{arith}
use lib.Dec.{T}
use lib.ListN.{length, length-map, length-append, get_or-append, get_or}
use lib.Seq.{ext_get_or}
use lib.IntN.{ℤ, pos, nat_abs}
use Rattle.word.specs.Word.{word_at, words_at}
use Rattle.word.proofs.Words.{get_d_words_front, get_d_words_at, length_words_at}
use Rattle.gradient.specs.Index.{sum_z, product_at}
use Rattle.gradient.specs.Vector.{All1}
use Rattle.gradient.specs.Problem.{Command, Problem, F}
use Rattle.gradient.specs.Scheme.{next_y}
use Rattle.gradient.specs.Demand.{formatted, ordered, headroom, start_within, InWord}
use Rattle.gradient.specs.Sizes.{SizedCommand, Sized}
use Rattle.gradient.proofs.Index.{sum_z_cong, products_part, products_sum, all1_at}
use Rattle.gradient.proofs.Vector.{map_at}
use Rattle.gradient.proofs.Tests.{start_length}
use Rattle.gradient.proofs.Sizes.{F_most, word_abs}
use Rattle.image.specs.Sizes.{command_count}
use Rattle.image.specs.Layout.{sizes_of, problem_of}
use Rattle.image.specs.declared.Input.TheVariants.{Target}
use Rattle.interface.specs.Calls.{values_of, start_of}
use Rattle.interface.proofs.Demand.{values_count}
use Rattle.array.specs.Arrays.{Filled, Tabled, WordsTo}
use Rattle.commands.specs.declared.CommandTerms.{CommandTerms}
use Rattle.commands.specs.Steps.{point_of, unclamped_of, command_of, Fitting, StoredY, StoredZ}
use Rattle.loading.proofs.Tables.{nothing, command, command_is, HasRows, HasTerms, count_is}
use Rattle.ranges.specs.Interval.{Interval, interval, degenerate, input_intervals, End, low, high, opposite, end_of, taken_ends}
use Rattle.ranges.specs.Sweeps.{IntervalIterate, linear_interval, interval_iterate}
use Rattle.ranges.specs.Claim.{intervals_within, Ends, IntervalInRange, IntervalClaim}
use Rattle.ranges.proofs.Interval.{degenerate_end}
use Rattle.ranges.proofs.Index as index
use Rattle.ranges.proofs.Ends.{next_z_end, next_y_end, two_ends, taken_at, taken_length}
use Rattle.ranges.proofs.Range.{SmallEnds}
use Rattle.ranges.proofs.Tests.{Within, intervals_length, intervals_at_lem}
use Rattle.ranges.proofs.Settled.{intervals_settled, same_intervals}
use Rattle.ranges.proofs.Claim as claim
use Rattle.range_interface.specs.Calls.{ranges_of, range_inputs_of, ranges_after}
use Rattle.range_interface.specs.Accepted.{RangeSolvable}
use Rattle.range_interface.proofs.Words.{intervals_count, interval_at}
use Rattle.range_sums.specs.Ends.{end_term, Ranged, EndsSmall}
use Rattle.range_commands.specs.Steps.{z_end, EndsReady}
use Rattle.range_loading.specs.Tables.{RangeLoadable}
use Rattle.range_solve.specs.Reached.{EndFilled, CarriedAt}

-- what is read where a list has no interval
abbrev nowhere : Interval
nowhere = degenerate (pos 0)

-- the terms of an end of the commands: with the opposite end of h
abbrev pub HasEnd : Problem → List Interval → End → CommandTerms → Type 0
HasEnd p inputs e t = HasTerms p (λ (r : Command). end_of (opposite e) (linear_interval p inputs r)) t

-- what the checks say of a problem, its ranges and a start
pub record RangeChecked (p : Problem) (inputs : List Interval) (start : List ℤ) : Type 0 where
  pub sized : Sized p
  pub format : T (formatted p)
  pub order : T (ordered p)
  pub room : T (headroom p)
  pub inputs_in : T (intervals_within p inputs)
  pub starts_in : T (start_within p start)

module _ {p : Problem} {inputs : List Interval} {start : List ℤ} (chk : RangeChecked p inputs start) where
  abbrev N : ℕ
  N = length p.commands

  of_command : (i : ℕ) → i < N → SizedCommand p (command p i)
  of_command i h = all1_at chk.sized.commands_sized nothing i h

  -- the claim, of the carried iterates so far
  carried_claim : (k : ℕ) → IntervalClaim p inputs start k
  carried_claim k = claim.interval_claim p inputs start chk.format chk.order chk.room chk.inputs_in chk.starts_in k

  in_range_lem : (k : ℕ) → IntervalInRange p inputs (interval_iterate p inputs start k)
  in_range_lem k = (carried_claim k).in_range k (omega arith)

  z_length : (k : ℕ) → length (interval_iterate p inputs start k).z ≡ N
  z_length k = index.z_length p inputs start (start_length p start chk.starts_in) k

  y_length : (k : ℕ) → length (interval_iterate p inputs start k).y ≡ N
  y_length k = index.y_length p inputs start (start_length p start chk.starts_in) k

  word_small : (x : ℤ) → InWord p x → nat_abs x < 2 ^ 31
  word_small x h = omega (arith, word_abs p chk.sized x h)

  -- an end of carried values is of words
  end_small : (e : End) {xs : List Interval} {l : List ℤ} → length xs ≡ N → All1 (Ends (InWord p)) xs → EndFilled e N xs l → (i : ℕ) → i < N → nat_abs (get_or l i (pos 0)) < 2 ^ 31
  end_small e {xs} n h f i b = rw (f.each i b) (word_small _ (all1_at h nowhere i (omega arith) e))

  pub z_words : (e : End) (k : ℕ) {l : List ℤ} → EndFilled e N (interval_iterate p inputs start k).z l → WordsTo N l
  z_words e k f i h = omega (arith, end_small e (z_length k) (in_range_lem k).z_word f i h)

  pub y_words : (e : End) (k : ℕ) {l : List ℤ} → EndFilled e N (interval_iterate p inputs start k).y l → WordsTo N l
  y_words e k f i h = omega (arith, end_small e (y_length k) (in_range_lem k).y_word f i h)

  -- ---- the terms of an end
  module _ (e : End) {t : CommandTerms} (rep : HasEnd p inputs e t) where
    pub fitting : Fitting t
    fitting =
        let s = chk.sized in
        let n = rep.n_is in
        record {
          few = omega (arith, s.commands_most);
          low = omega (arith, rep.b_is, s.b_least);
          high = omega (arith, rep.b_is, s.b_most);
          momentum_most = omega (arith, rep.momentum_is, s.momentum_most, F_most p s);
          lowers = λ i h. let l : i < N = omega arith in rw (rep.lowers i l) (omega (arith, word_small _ (of_command i l).lower_word));
          uppers = λ i h. let l : i < N = omega arith in rw (rep.uppers i l) (omega (arith, word_small _ (of_command i l).upper_word));
          linears = λ i h. let l : i < N = omega arith in rw (rep.linears i l) (omega (arith, word_small _ (all1_at (in_range_lem 0).linear_word nothing i l (opposite e))));
        }

    -- what the terms count
    pub counted : (l : List ℤ) → WordsTo N l → WordsTo t.n l
    counted l h i b = h i (omega (arith, rep.n_is))

  -- ---- from the carried iterates after k iterations on
  module _ (m : List (List ℤ)) (rows : HasRows p m) (k : ℕ) (below above : List ℤ)
      (fb : EndFilled low N (interval_iterate p inputs start k).y below) (fa : EndFilled high N (interval_iterate p inputs start k).y above) where
    abbrev I : IntervalIterate
    I = interval_iterate p inputs start k

    ranged : Ranged below above N
    ranged = record {
      few = chk.sized.commands_most;
      lows_small = end_small low (y_length k) (in_range_lem k).y_word fb;
      highs_small = end_small high (y_length k) (in_range_lem k).y_word fa;
      order = λ j h. rw (fb.each j h, fa.each j h) (all1_at (carried_claim k).y_order nowhere j (omega (arith, y_length k)));
    }

    -- the sums that the code takes of a row of M y are those of the claim
    module _ (e : End) (i : ℕ) (h : i < N) where
      abbrev row : List ℤ
      row = (command p i).row

      terms_are : (a n : ℕ) → a + n ≤ N → sum_z (end_term e (get_or m i []) below above) a n ≡ sum_z (product_at row (taken_ends e row I.y)) a n
      unfolding product_at end_term
      terms_are a n l =
          sum_z_cong _ _ a n
          (λ j o u. let b : j < N = omega arith in
          rw (taken_at e row I.y nowhere j (omega (arith, (of_command i h).row_length)) (omega (arith, y_length k)), rows i h j b, fb.each j b, fa.each j b) refl)

      ends_long : length (taken_ends e row I.y) ≡ N
      ends_long = taken_length e row I.y ((of_command i h).row_length ∙ sym (y_length k)) ∙ (of_command i h).row_length

      sum_small : (a n : ℕ) → a + n ≤ N → nat_abs (sum_z (end_term e (get_or m i []) below above) a n) < 2 ^ 51
      sum_small a n l =
          rw (terms_are a n l, ← (products_part row (taken_ends e row I.y) a n (omega (arith, (of_command i h).row_length)) (omega (arith, ends_long))))
          (all1_at (claim.small_rows p inputs start chk.format chk.order chk.room chk.inputs_in chk.starts_in k) nothing i h e a n)

    row_words : (i : ℕ) → i < N → WordsTo N (get_or m i [])
    row_words i h j l = rw (rows i h j l) (omega (arith, word_small _ (all1_at (of_command i h).row_words (pos 0) j (omega (arith, (of_command i h).row_length)))))

    module _ {t u : CommandTerms} (lr : HasEnd p inputs low t) (hr : HasEnd p inputs high u) where
      pub ready : (magnitudes : List (List ℕ)) → Tabled 0 t.n (λ (i j : ℕ). nat_abs (get_or (get_or m i []) j (pos 0))) magnitudes → EndsReady m magnitudes t u below above
      ready magnitudes f = record {
        low_terms = fitting low lr;
        high_terms = fitting high hr;
        count = hr.n_is ∙ sym lr.n_is;
        values = rw lr.n_is ranged;
        rows = λ i h. rw lr.n_is (small i (omega (arith, lr.n_is)));
        magnitude_rows = f;
      }
        where
          small : (i : ℕ) → i < N → EndsSmall (get_or m i []) below above N
          small i h = record { factors = row_words i h; sums = λ e a n l. sum_small e i h a n l }

    -- the new commands of an end
    module _ (e : End) {t : CommandTerms} (rep : HasEnd p inputs e t) where
      z_is : (i : ℕ) → i < N → z_end e m t below above i ≡ end_of e (get_or (interval_iterate p inputs start (suc k)).z i nowhere)
      unfolding command_of unclamped_of interval_iterate F
      z_is i h =
          rw (rep.b_is, rep.n_is, rep.lowers i h, rep.uppers i h, rep.linears i h, terms_are e i h 0 N (omega arith), ← (products_sum (row e i h) (taken_ends e (row e i h) I.y) N (of_command i h).row_length (ends_long e i h)))
          (sym (ap (end_of e) (index.step_z_at p inputs I nothing nowhere i h) ∙ next_z_end e p inputs I.y (command p i)))

      pub new_z : {new : List ℤ} {n : ℕ} → n ≡ N → Filled (pos 0) n (z_end e m t below above) new → EndFilled e N (interval_iterate p inputs start (suc k)).z new
      new_z q f = record { sized = f.sized; each = λ i h. f.each i (omega (arith, q)) ∙ z_is i h }

  -- what is stored of an end: its new commands, and the new y, "new low with old high and the reverse"
  module _ (e : End) {t : CommandTerms} (rep : HasEnd p inputs e t) (k : ℕ) (new old : List ℤ)
      (fn : EndFilled e N (interval_iterate p inputs start (suc k)).z new) (fo : EndFilled (opposite e) N (interval_iterate p inputs start k).z old) where
    pub stored_z : {z z' : List ℤ} {before same : Bool} → StoredZ t.n new z z' before same → EndFilled e N (interval_iterate p inputs start (suc k)).z z'
    stored_z st = record { sized = st.new_z.sized; each = λ i h. st.new_z.each i (omega (arith, rep.n_is)) ∙ fn.each i h }

    pub stored_y : {y y' : List ℤ} {before same : Bool} → StoredY t.n t.b t.momentum new old y y' before same → EndFilled e N (interval_iterate p inputs start (suc k)).y y'
    unfolding interval_iterate point_of next_y F
    stored_y st = record {
      sized = st.new_y.sized;
      each = λ i h. st.new_y.each i (omega (arith, rep.n_is))
          ∙ rw (rep.b_is, rep.momentum_is, fn.each i h, fo.each i h)
          (sym (ap (end_of e) (index.step_y_at p inputs (interval_iterate p inputs start k) nothing nowhere i h (omega (arith, z_length k))) ∙ next_y_end e p (get_or (interval_iterate p inputs start (suc k)).z i nowhere) (get_or (interval_iterate p inputs start k).z i nowhere)));
    }

  -- ---- where nothing changed
  -- two lists of N intervals whose ends one pair of arrays holds
  same_ends : {xs ys : List Interval} {l h : List ℤ} → length xs ≡ N → length ys ≡ N → EndFilled low N xs l → EndFilled high N xs h → EndFilled low N ys l → EndFilled high N ys h → ys ≡ xs
  same_ends {xs} {ys} n n' a b a' b' =
      ext_get_or nowhere ys xs (n' ∙ sym n) (λ i c. two_ends (get_or ys i nowhere) (get_or xs i nowhere) (each i (omega arith)))
    where
      each : (i : ℕ) → i < N → (e : End) → end_of e (get_or ys i nowhere) ≡ end_of e (get_or xs i nowhere)
      each i c low = sym (a'.each i c) ∙ a.each i c
      each i c high = sym (b'.each i c) ∙ b.each i c

  -- the carried iterates that the same arrays hold are the same, and then so is every later one
  pub settled : (k : ℕ) {lz hz ly hy lz' hz' ly' hy' : List ℤ} → CarriedAt p inputs start k lz hz ly hy → CarriedAt p inputs start (suc k) lz' hz' ly' hy'
      → lz' ≡ lz → hz' ≡ hz → ly' ≡ ly → hy' ≡ hy → (n : ℕ) → k < n → interval_iterate p inputs start n ≡ interval_iterate p inputs start (suc k)
  settled k old new qlz qhz qly qhy n l = intervals_settled p inputs start k unchanged n (omega arith) ∙ sym unchanged
    where
      kept : (e : End) (xs : List Interval) {l l' : List ℤ} → l' ≡ l → EndFilled e N xs l' → EndFilled e N xs l
      kept e xs q f = subst (EndFilled e N xs) q f

      unchanged : interval_iterate p inputs start (suc k) ≡ interval_iterate p inputs start k
      unchanged =
          same_intervals
          (same_ends (z_length k) (z_length (suc k)) old.at_low_z old.at_high_z (kept low (interval_iterate p inputs start (suc k)).z qlz new.at_low_z) (kept high (interval_iterate p inputs start (suc k)).z qhz new.at_high_z))
          (same_ends (y_length k) (y_length (suc k)) old.at_low_y old.at_high_y (kept low (interval_iterate p inputs start (suc k)).y qly new.at_low_y) (kept high (interval_iterate p inputs start (suc k)).y qhy new.at_high_y))

-- ---- on an image
pub range_checked : {image ranges target start : List ℕ} → RangeSolvable image ranges target start → RangeChecked (problem_of image) (range_inputs_of (sizes_of image) ranges target) (start_of (sizes_of image) start)
range_checked s = record { sized = s.accepted.sized; format = s.accepted.format; order = s.accepted.order; room = s.accepted.room; inputs_in = s.inputs; starts_in = s.starts }

-- before the first iteration: both ends of z and y are the start
pub first_carried : (image ranges target start : List ℕ) (z : List ℤ) → Filled (pos 0) (command_count (sizes_of image)) (λ (i : ℕ). word_at start (4 * i)) z
    → CarriedAt (problem_of image) (range_inputs_of (sizes_of image) ranges target) (start_of (sizes_of image) start) 0 z z z z
unfolding interval_iterate start_of
first_carried image ranges target start z f = record { at_low_z = held low; at_high_z = held high; at_low_y = held low; at_high_y = held high }
  where
    held : (e : End) → EndFilled e (length (problem_of image).commands) (map degenerate (start_of (sizes_of image) start)) z
    held e = record {
      sized = f.sized;
      each = λ i h. let n = command_count (sizes_of image) in
          let b : i < n = omega (arith, count_is image) in
          f.each i b
          ∙ sym (get_d_words_front start n i b)
          ∙ sym (ap (end_of e) (map_at degenerate (start_of (sizes_of image) start) i (pos 0) nowhere (omega (arith, length_words_at start 0 n))) ∙ degenerate_end e (get_or (start_of (sizes_of image) start) i (pos 0)));
    }

-- the carried commands after n iterations, where the arrays hold those after k and these are the same
pub held_after : (image ranges target start : List ℕ) {k : ℕ} {lz hz ly hy : List ℤ} (n : ℕ)
    → CarriedAt (problem_of image) (range_inputs_of (sizes_of image) ranges target) (start_of (sizes_of image) start) k lz hz ly hy
    → interval_iterate (problem_of image) (range_inputs_of (sizes_of image) ranges target) (start_of (sizes_of image) start) n ≡ interval_iterate (problem_of image) (range_inputs_of (sizes_of image) ranges target) (start_of (sizes_of image) start) k
    → EndFilled low (command_count (sizes_of image)) (ranges_after image ranges target start n) lz × EndFilled high (command_count (sizes_of image)) (ranges_after image ranges target start n) hz
unfolding ranges_after
held_after image ranges target start {k} {lz} {hz} n at e = (after low at.at_low_z, after high at.at_high_z)
  where
    after : (d : End) {l : List ℤ} → EndFilled d (length (problem_of image).commands) (interval_iterate (problem_of image) (range_inputs_of (sizes_of image) ranges target) (start_of (sizes_of image) start) k).z l
        → EndFilled d (command_count (sizes_of image)) (interval_iterate (problem_of image) (range_inputs_of (sizes_of image) ranges target) (start_of (sizes_of image) start) n).z l
    after d f = record {
      sized = f.sized;
      each = λ i h. f.each i (omega (arith, count_is image)) ∙ ap (λ (s : IntervalIterate). end_of d (get_or s.z i nowhere)) (sym e);
    }

-- the ranges that passed: words, each low at most its high
module _ {image ranges target start : List ℕ} (s : RangeSolvable image ranges target start) where
  abbrev nx : ℕ
  nx = (sizes_of image).nx

  abbrev given : List Interval
  given = range_inputs_of (sizes_of image) ranges target

  given_length : length given ≡ nx + (sizes_of image).nr
  unfolding input_intervals
  given_length = omega (arith, length-append (ranges_of (sizes_of image) ranges) (map degenerate (values_of Target (sizes_of image) target)), intervals_count nx ranges, length-map (values_of Target (sizes_of image) target) degenerate, values_count Target (sizes_of image) target)

  within : (j : ℕ) → j < nx → Within (interval (get_or (words_at ranges 0 nx) j (pos 0)) (get_or (words_at ranges (4 * nx) nx) j (pos 0))) (get_or (problem_of image).input_limits j 0)
  unfolding input_intervals
  within j h =
      rw (get_d_words_front ranges nx j h, get_d_words_at ranges (4 * nx) nx j h)
      (subst (λ (x : Interval). Within x (get_or (problem_of image).input_limits j 0))
      (get_or-append (ranges_of (sizes_of image) ranges) (map degenerate (values_of Target (sizes_of image) target)) nowhere j (omega (arith, intervals_count nx ranges)) ∙ interval_at nx ranges nowhere j h)
      (intervals_at_lem (problem_of image) given s.inputs nowhere 0 j (omega (arith, given_length))))

  limit_small : (j : ℕ) → j < nx → (x : ℤ) → nat_abs x ≤ get_or (problem_of image).input_limits j 0 → nat_abs x < 2 ^ 31
  unfolding InWord
  limit_small j h x l =
      let b = all1_at s.accepted.sized.limits_words 0 j (omega (arith, given_length, intervals_length (problem_of image) given s.inputs)) in
      omega (arith, word_abs (problem_of image) s.accepted.sized x (le_trans l b))

  ranges_ranged : Ranged (words_at ranges 0 nx) (words_at ranges (4 * nx) nx) nx
  ranges_ranged = record {
    few = omega (arith, s.accepted.whole.sizes.nx_high);
    lows_small = λ j h. limit_small j h (get_or (words_at ranges 0 nx) j (pos 0)) ((within j h).ends low);
    highs_small = λ j h. limit_small j h (get_or (words_at ranges (4 * nx) nx) j (pos 0)) ((within j h).ends high);
    order = λ j h. (within j h).ordered;
  }

-- what the linear terms of the ranges ask, by the claim of the start
pub range_loadable : {image ranges target start : List ℕ} → RangeSolvable image ranges target start → RangeLoadable (sizes_of image) image ranges target
unfolding problem_of
range_loadable {image} {ranges} {target} {start} s = record {
  whole = s.accepted.whole;
  ranges_size = s.ranges_size;
  target_size = s.target_size;
  values = ranges_ranged s;
  sums = λ i h. let l : i < length (problem_of image).commands = omega (arith, count_is image) in
      let c = range_checked s in
      subst (λ (r : Command). SmallEnds r.gains (range_inputs_of (sizes_of image) ranges target)) (command_is (sizes_of image) image i l)
      (all1_at (claim.small_gains (problem_of image) (range_inputs_of (sizes_of image) ranges target) (start_of (sizes_of image) start) c.format c.order c.room c.inputs_in c.starts_in) nothing i l);
}

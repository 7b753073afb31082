-- R of the arrays is that of the problem that they hold, and all that its code asks follows from the checks. Assumes nothing.
use mathlib.Core.Path.{◌≡◌, refl, sym, ap, subst, ◌∙◌}
use mathlib.Core.List.{List, []}
use Prim.Native.Nat.{ℕ, ◌+◌, ◌^◌, ◌≤◌, ◌<◌}
use native.Mathlib.Nat.{le_trans}
use native.Mathlib.Omega.{arith}
use lib.Dec.{T}
use lib.IntN.{ℤ, pos, nat_abs}
use lib.ListN.{length, get_or, take}
use lib.Seq.{get_or-take}
use Rattle.gradient.specs.Vector.{All2}
use Rattle.gradient.specs.Index.{sum_z, product_at}
use Rattle.gradient.specs.Problem.{Command, Problem, F}
use Rattle.gradient.specs.Scheme.{products}
use Rattle.gradient.specs.Exact.{exact_linear}
use Rattle.gradient.specs.Demand.{Inside, InWord, RunningSums, headroom, inputs_within}
use Rattle.gradient.specs.Sizes.{SizedCommand, Sized}
use Rattle.gradient.proofs.Vector.{all1_at, all2_at, all2_length}
use Rattle.gradient.proofs.Index.{sum_z_cong, products_sum, running_sum}
use Rattle.gradient.proofs.Tests.{RangesFit, headroom_at}
use Rattle.gradient.proofs.Range.{F_top_most, inside_magnitude}
use Rattle.gradient.proofs.Sizes.{top_most, word_abs, magnitude_most}
use Rattle.image.specs.declared.Sizes.{Sizes}
use Rattle.image.specs.Sizes.{command_count}
use Rattle.image.specs.Layout.{sizes_of, command_at, problem_at, problem_of}
use Rattle.interface.specs.Calls.{inputs_of}
use Rattle.dot.specs.Sums.{RunsTo}
use Rattle.loading.specs.Tables.{Loadable}
use Rattle.loading.proofs.Tables.{nothing, command, command_is, HasRows, has_rows, count_is}
use Rattle.optimum.specs.Optimum.{difference, largest_n, residual}
use Rattle.optimum.proofs.Whole.{difference_index, largest_n_cong, residual_index}
use Rattle.optimum.proofs.Sizes.{residual_fits, step_size, row_running, linear_running}
use Rattle.residual.specs.declared.ResidualTerms.{ResidualTerms}
use Rattle.residual.specs.Terms.{step_at, difference_of, difference_at, Ready}
use Rattle.distance.specs.Tables.{ResidualTermsOf, Measurable}

-- the arrays are those of a problem, its inputs and its commands zs
pub record HasResidual (p : Problem) (inputs zs : List ℤ) (t : ResidualTerms) (z : List ℤ) : Type 0 where
  pub n_is : t.n ≡ length p.commands
  pub b_is : t.b ≡ p.b
  pub lowers : (i : ℕ) → i < length p.commands → get_or t.limits.lower i (pos 0) ≡ (command p i).lower
  pub uppers : (i : ℕ) → i < length p.commands → get_or t.limits.upper i (pos 0) ≡ (command p i).upper
  pub linears : (i : ℕ) → i < length p.commands → get_or t.linear i (pos 0) ≡ exact_linear inputs (command p i)
  pub commands : (i : ℕ) → i < length p.commands → get_or z i (pos 0) ≡ get_or zs i (pos 0)

module _ {p : Problem} {inputs zs : List ℤ} (m : List (List ℤ)) {t : ResidualTerms} {z : List ℤ} (rows : HasRows p m) (rep : HasResidual p inputs zs t z)
    (sized : Sized p) (room : T (headroom p)) (within : T (inputs_within p inputs)) (inside : All2 Inside p.commands zs) where
  abbrev N : ℕ
  N = length p.commands

  long : length zs ≡ N
  long = sym (all2_length inside)

  of_command : (i : ℕ) → i < N → SizedCommand p (command p i)
  of_command i h = all1_at sized.commands_sized nothing i h

  -- sums of neighbouring products of a row
  part_is : (i : ℕ) → i < N → (a k : ℕ) → a + k ≤ N → sum_z (product_at (get_or m i []) z) a k ≡ sum_z (product_at (command p i).row zs) a k
  unfolding product_at
  part_is i h a k l = sum_z_cong _ _ a k (λ j o u. rw (rows i h j (omega arith), rep.commands j (omega arith)))

  row_is : (i : ℕ) → i < N → sum_z (product_at (get_or m i []) z) 0 N ≡ sum_z (product_at (command p i).row zs) 0 N
  row_is i h = part_is i h 0 N (omega arith)

  -- R
  difference_is : (i : ℕ) → i < N → difference_at m t z i ≡ difference p inputs zs (command p i) (get_or zs i (pos 0))
  unfolding difference_at difference_of step_at F
  difference_is i h =
      rw (rep.n_is, rep.b_is, row_is i h, rep.lowers i h, rep.uppers i h, rep.linears i h, rep.commands i h)
      (sym (difference_index p inputs zs (command p i) (get_or zs i (pos 0)) N (of_command i h).row_length long))

  pub residual_is : largest_n (difference_at m t z) t.n ≡ residual p inputs zs
  residual_is =
      ap (largest_n (difference_at m t z)) rep.n_is
      ∙ largest_n_cong _ _ N difference_is
      ∙ sym (residual_index p inputs zs nothing N refl long)

  -- what it asks
  ranges : (i : ℕ) → i < N → RangesFit p (command p i)
  ranges i h = headroom_at p room nothing i h

  z_word : (i : ℕ) → i < N → nat_abs (get_or z i (pos 0)) ≤ 2 ^ 31
  z_word i h =
      rw (rep.commands i h)
      (omega (arith, inside_magnitude (all2_at inside nothing (pos 0) i h), magnitude_most p sized (command p i) (of_command i h), top_most p sized))

  row_word : (i j : ℕ) → i < N → j < N → nat_abs (get_or (get_or m i []) j (pos 0)) ≤ 2 ^ 31
  row_word i j h l =
      rw (rows i h j l) (le_trans (word_abs p sized _ (all1_at (of_command i h).row_words (pos 0) j (omega (arith, (of_command i h).row_length)))) (omega arith))

  runs : (i : ℕ) → i < N → RunsTo N (product_at (get_or m i []) z)
  runs i h a k l =
      rw (part_is i h a k l)
      (running_sum (command p i).row zs (row_running p inputs zs within inside (command p i) (ranges i h) sized) a k (omega (arith, (of_command i h).row_length)) (omega (arith, long)))

  steps : (i : ℕ) → i < N → nat_abs (sum_z (product_at (get_or m i []) z) 0 N) + nat_abs (get_or t.linear i (pos 0)) ≤ 2 ^ 51
  steps i h =
      rw (row_is i h, rep.linears i h, ← (products_sum (command p i).row zs N (of_command i h).row_length long))
      (omega (arith, step_size p inputs zs within inside (command p i) (ranges i h), F_top_most p sized.b_most sized.W_most))

  pub ready : Ready m t z
  unfolding InWord
  ready = record {
    few = rw rep.n_is sized.commands_most;
    bits = rw rep.b_is sized.b_most;
    rows = λ i h. let a : i < N = omega (arith, rep.n_is) in
        rw rep.n_is (record { few = sized.commands_most; left = λ j l. row_word i j a l; right = λ j l. omega (arith, z_word j l); runs = runs i a });
    commands = λ i h. z_word i (omega (arith, rep.n_is));
    steps = λ i h. let a : i < N = omega (arith, rep.n_is) in rw rep.n_is (steps i a);
    lowers = λ i h. let a : i < N = omega (arith, rep.n_is) in rw (rep.lowers i a) (omega (arith, (of_command i a).lower_word, top_most p sized));
    uppers = λ i h. let a : i < N = omega (arith, rep.n_is) in rw (rep.uppers i a) (omega (arith, (of_command i a).upper_word, top_most p sized));
  }

-- ---- an image
module _ {image state target : List ℕ} {m : List (List ℤ)} {z : List ℤ} (ok : Measurable image state target m z) where
  abbrev p : Problem
  p = problem_of image

  abbrev inputs : List ℤ
  inputs = inputs_of (sizes_of image) state target

  abbrev n : ℕ
  n = command_count (sizes_of image)

  abbrev pub zs : List ℤ
  zs = take n z

  -- what its code asks
  module _ {s : Sizes} (e : s ≡ sizes_of image) where
    loadable_own : Loadable (sizes_of image) image state target
    unfolding problem_of
    loadable_own = record {
      whole = ok.accepted.whole;
      state_size = ok.state_size;
      target_size = ok.target_size;
      sums = λ i h. let a : i < length p.commands = omega (arith, count_is image) in
          subst (λ (r : Command). RunningSums (products r.gains inputs)) (command_is (sizes_of image) image i a)
          (linear_running p inputs zs ok.inputs ok.inside (command p i) (headroom_at p ok.accepted.room nothing i a) ok.accepted.sized);
    }

    pub loadable : Loadable s image state target
    loadable = subst (λ (s : Sizes). Loadable s image state target) (sym e) loadable_own

    own : {t : ResidualTerms} → ResidualTermsOf (sizes_of image) image state target t → HasResidual p inputs zs t z
    unfolding problem_of problem_at command_at
    own {t} of = record {
      n_is = of.n_is ∙ sym (count_is image);
      b_is = of.b_is;
      lowers = λ i h. rw (command_is (sizes_of image) image i h) (of.lowers.each i (below h));
      uppers = λ i h. rw (command_is (sizes_of image) image i h) (of.uppers.each i (below h));
      linears = λ i h. rw (command_is (sizes_of image) image i h) (of.linears.each i (below h));
      commands = λ i h. sym (get_or-take n z i (pos 0) (below h));
    }
      where
        below : {i : ℕ} → i < length p.commands → i < n
        below h = omega (arith, count_is image)

    module _ {t : ResidualTerms} (of : ResidualTermsOf s image state target t) where
      held : HasResidual p inputs zs t z
      held = own (subst (λ (s : Sizes). ResidualTermsOf s image state target t) e of)

      pub image_ready : Ready m t z
      image_ready = ready m (has_rows (sizes_of image) image refl m ok.matrix) held ok.accepted.sized ok.accepted.room ok.inputs ok.inside

      pub image_residual : largest_n (difference_at m t z) t.n ≡ residual p inputs zs
      image_residual = residual_is m (has_rows (sizes_of image) image refl m ok.matrix) held ok.accepted.sized ok.accepted.room ok.inputs ok.inside

  pub residual_small : residual p inputs zs < 2 ^ 52
  residual_small = residual_fits p inputs zs ok.accepted.sized ok.inside

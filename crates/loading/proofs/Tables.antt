-- The arrays that are made of an image are those of its problem. Assumes nothing.
use mathlib.Core.Path.{◌≡◌, refl, sym, subst, ◌∙◌}
use mathlib.Core.List.{List, []}
use Prim.Native.Nat.{ℕ, ◌+◌, ◌*◌, ◌^◌, ◌≤◌, ◌<◌}
use native.Mathlib.Nat.{add-zero, zero-add}
use native.Mathlib.Omega.{arith}
use lib.ListN.{length, get_or}
use lib.IntN.{ℤ, pos, ◌+ℤ◌}
use Rattle.integer.specs.Round.{floor}
use Rattle.word.specs.Word.{word_at}
use Rattle.word.proofs.Words.{get_d_words_front}
use Rattle.gradient.specs.Index.{sum_z, product_at}
use Rattle.gradient.specs.Problem.{Command, Problem, F}
use Rattle.gradient.specs.Scheme.{products, linear}
use Rattle.gradient.specs.Exact.{exact_linear}
use Rattle.gradient.specs.Bounds.{width}
use Rattle.gradient.specs.Demand.{In64, RunningSums}
use Rattle.gradient.proofs.Index.{sum_z_cong, sum_z_split, products_sum, running_sum, sum_front, sum_behind, tab_at}
use Rattle.image.specs.declared.Sizes.{Sizes}
use Rattle.image.specs.declared.Input.{Input}
use Rattle.image.specs.declared.Input.TheVariants.{State, Target}
use Rattle.image.specs.Sizes.{command_count, input_count}
use Rattle.image.specs.Layout.{sizes_of, gain_row, gains_of, entry_at, command_at, problem_at, problem_of}
use Rattle.interface.specs.Calls.{values_of, inputs_of}
use Rattle.interface.proofs.Accept.{commands_length, gains_count, gains_length, gain_at_lem}
use Rattle.interface.proofs.Demand.{values_count, inputs_length}
use Rattle.array.specs.Arrays.{Filled, Tabled}
use Rattle.dot.specs.Sums.{input_term, RunsTo}
use Rattle.commands.specs.declared.CommandTerms.{CommandTerms}
use Rattle.bounds.specs.declared.BoundTerms.{BoundTerms}
use Rattle.loading.specs.Tables.{exact_at, linear_at, TermsOf, CommandTermsOf, BoundTermsOf}

-- ---- the linear term
-- a sum of neighbouring terms of an input's row
part_is : (v : Input) (z : Sizes) (image values : List ℕ) (x : List ℤ) (i : ℕ) → Filled (pos 0) (input_count v z) (λ (j : ℕ). word_at values (4 * j)) x
    → (a m : ℕ) → a + m ≤ input_count v z → sum_z (input_term (gain_row v z image i) x) a m ≡ sum_z (product_at (gains_of v z image i) (values_of v z values)) a m
unfolding product_at input_term values_of
part_is v z image values x i f a m h =
    let n = input_count v z in
    sum_z_cong _ _ a m (λ j l u. let k : j < n = omega arith in rw (gain_at_lem z image v i j k, get_d_words_front values n j k, f.each j k))

-- what the code's two sums of row i are: x and y are the arrays of the state and of the target
pub record LinearOf (z : Sizes) (image state target : List ℕ) (i : ℕ) (x y : List ℤ) : Type 0 where
  pub state_runs : RunsTo z.nx (input_term (gain_row State z image i) x)
  pub target_runs : RunsTo z.nr (input_term (gain_row Target z image i) y)
  pub within : In64 (sum_z (input_term (gain_row State z image i) x) 0 z.nx +ℤ sum_z (input_term (gain_row Target z image i) y) 0 z.nr)
  pub undivided : sum_z (input_term (gain_row State z image i) x) 0 z.nx +ℤ sum_z (input_term (gain_row Target z image i) y) 0 z.nr ≡ exact_at z image state target i

-- the state's terms stand in front, the target's behind them, in the one row of the command, whose running sums are given
module _ (z : Sizes) (image state target : List ℕ) (i : ℕ) (x y : List ℤ)
    (fx : Filled (pos 0) z.nx (λ (j : ℕ). word_at state (4 * j)) x) (fy : Filled (pos 0) z.nr (λ (j : ℕ). word_at target (4 * j)) y)
    (w : RunningSums (products (command_at z image i).gains (inputs_of z state target))) where
  abbrev products_at : ℕ → ℤ
  products_at = product_at (command_at z image i).gains (inputs_of z state target)

  state_sum : (a m : ℕ) → a + m ≤ z.nx → sum_z (input_term (gain_row State z image i) x) a m ≡ sum_z products_at a m
  unfolding command_at inputs_of
  state_sum a m h =
      part_is State z image state x i fx a m h
      ∙ sum_front (gains_of State z image i) (gains_of Target z image i) (values_of State z state) (values_of Target z target) z.nx (gains_count z image State i) (values_count State z state) a m h

  target_sum : (a m : ℕ) → a + m ≤ z.nr → sum_z (input_term (gain_row Target z image i) y) a m ≡ sum_z products_at (z.nx + a) m
  unfolding command_at inputs_of
  target_sum a m h =
      part_is Target z image target y i fy a m h
      ∙ sum_behind (gains_of State z image i) (gains_of Target z image i) (values_of State z state) (values_of Target z target) z.nx (gains_count z image State i) (values_count State z state) a m

  whole_sum : sum_z (input_term (gain_row State z image i) x) 0 z.nx +ℤ sum_z (input_term (gain_row Target z image i) y) 0 z.nr ≡ sum_z products_at 0 (z.nx + z.nr)
  whole_sum =
      rw (state_sum 0 z.nx (omega arith), target_sum 0 z.nr (omega arith), add-zero z.nx)
      (sym (rw (zero-add z.nx) at (sum_z_split products_at 0 z.nx z.nr)))

  in64 : (a m : ℕ) → a + m ≤ z.nx + z.nr → In64 (sum_z products_at a m)
  in64 a m h = running_sum (command_at z image i).gains (inputs_of z state target) w a m (omega (arith, gains_length z image i)) (omega (arith, inputs_length z state target))

  pub linear_of : LinearOf z image state target i x y
  unfolding exact_linear
  linear_of = record {
    state_runs = λ a m h. rw (state_sum a m h) (in64 a m (omega arith));
    target_runs = λ a m h. rw (target_sum a m h) (in64 (z.nx + a) m (omega arith));
    within = rw whole_sum (in64 0 (z.nx + z.nr) (omega arith));
    undivided = whole_sum ∙ sym (products_sum (command_at z image i).gains (inputs_of z state target) (z.nx + z.nr) (gains_length z image i) (inputs_length z state target));
  }

-- h is G divided
pub linear_divided : (z : Sizes) (image state target : List ℕ) (i : ℕ) → floor (exact_at z image state target i) (2 ^ z.b) ≡ linear_at z image state target i
unfolding linear exact_linear problem_at F
linear_divided z image state target i = refl

-- terms with an array of linear terms have what that holds
pub with_linear : {z : Sizes} {image : List ℕ} {f : ℕ → ℤ} {l : List ℤ} {t : CommandTerms} → Filled (pos 0) (command_count z) f l → TermsOf z image (λ (i : ℕ). get_or l i (pos 0)) t → TermsOf z image f t
with_linear h of = record {
  lowers = of.lowers;
  uppers = of.uppers;
  linears = record { sized = of.linears.sized; each = λ i l. of.linears.each i l ∙ h.each i l };
  momentum_is = of.momentum_is;
  n_is = of.n_is;
  b_is = of.b_is;
}

-- ---- the arrays of a problem
pub nothing : Command
nothing = record { lower = pos 0; upper = pos 0; row = []; gains = [] }

abbrev pub command : Problem → ℕ → Command
command p i = get_or p.commands i nothing

-- an array has the rows of M
abbrev pub HasRows : Problem → List (List ℤ) → Type 0
HasRows p m = (i : ℕ) → i < length p.commands → (j : ℕ) → j < length p.commands → get_or (get_or m i []) j (pos 0) ≡ get_or (command p i).row j (pos 0)

-- the terms are those of a problem, where f are the linear terms
pub record HasTerms (p : Problem) (f : Command → ℤ) (t : CommandTerms) : Type 0 where
  pub n_is : t.n ≡ length p.commands
  pub b_is : t.b ≡ p.b
  pub momentum_is : t.momentum ≡ p.momentum
  pub lowers : (i : ℕ) → i < length p.commands → get_or t.limits.lower i (pos 0) ≡ (command p i).lower
  pub uppers : (i : ℕ) → i < length p.commands → get_or t.limits.upper i (pos 0) ≡ (command p i).upper
  pub linears : (i : ℕ) → i < length p.commands → get_or t.linear i (pos 0) ≡ f (command p i)

abbrev pub HasCommands : Problem → List ℤ → CommandTerms → Type 0
HasCommands p inputs t = HasTerms p (linear p inputs) t

pub record HasBounds (p : Problem) (t : BoundTerms) : Type 0 where
  pub n_is : t.n ≡ length p.commands
  pub b_is : t.b ≡ p.b
  pub momentum_is : t.momentum ≡ p.momentum
  pub widths : (i : ℕ) → i < length p.commands → get_or t.width i 0 ≡ width (command p i)

-- ---- the problem of an image
module _ (z : Sizes) (image : List ℕ) where
  pub command_is : (i : ℕ) → i < length (problem_at z image).commands → command (problem_at z image) i ≡ command_at z image i
  unfolding problem_at
  command_is i h = tab_at (command_at z image) (command_count z) i nothing (rw (commands_length z image) at h)

  below : {i : ℕ} → i < length (problem_at z image).commands → i < command_count z
  below h = rw (commands_length z image) at h

  rows_at : (m : List (List ℤ)) → Tabled (pos 0) (command_count z) (entry_at z image) m → HasRows (problem_at z image) m
  unfolding command_at
  rows_at m table i h j l = rw (command_is i h) ((table i (below h)).each j (below l) ∙ sym (tab_at (entry_at z image i) (command_count z) j (pos 0) (below l)))

  terms_at : (f : Command → ℤ) {t : CommandTerms} → TermsOf z image (λ (i : ℕ). f (command_at z image i)) t → HasTerms (problem_at z image) f t
  unfolding problem_at command_at
  terms_at f of = record {
    n_is = of.n_is ∙ sym (commands_length z image);
    b_is = of.b_is;
    momentum_is = of.momentum_is;
    lowers = λ i h. rw (command_is i h) (of.lowers.each i (below h));
    uppers = λ i h. rw (command_is i h) (of.uppers.each i (below h));
    linears = λ i h. rw (command_is i h) (of.linears.each i (below h));
  }

  bounds_at : {t : BoundTerms} → BoundTermsOf z image t → HasBounds (problem_at z image) t
  unfolding problem_at
  bounds_at of = record {
    n_is = of.n_is ∙ sym (commands_length z image);
    b_is = of.b_is;
    momentum_is = of.momentum_is;
    widths = λ i h. rw (command_is i h) (of.widths.each i (below h));
  }

  -- with the sizes that the image gives
  module _ (e : z ≡ sizes_of image) where
    pub has_rows : (m : List (List ℤ)) → Tabled (pos 0) (command_count z) (entry_at z image) m → HasRows (problem_of image) m
    unfolding problem_of
    has_rows m table = subst (λ (z : Sizes). HasRows (problem_at z image) m) e (rows_at m table)

    pub has_terms : (f : Sizes → Command → ℤ) {t : CommandTerms} → TermsOf z image (λ (i : ℕ). f z (command_at z image i)) t → HasTerms (problem_of image) (f (sizes_of image)) t
    unfolding problem_of
    has_terms f {t} of = subst (λ (z : Sizes). HasTerms (problem_at z image) (f z) t) e (terms_at (f z) of)

    pub has_commands : (state target : List ℕ) {t : CommandTerms} → CommandTermsOf z image state target t → HasCommands (problem_of image) (inputs_of (sizes_of image) state target) t
    unfolding problem_of
    has_commands state target of = has_terms (λ (z : Sizes). linear (problem_at z image) (inputs_of z state target)) of

    pub has_bounds : {t : BoundTerms} → BoundTermsOf z image t → HasBounds (problem_of image) t
    unfolding problem_of
    has_bounds {t} of = subst (λ (z : Sizes). HasBounds (problem_at z image) t) e (bounds_at of)

pub count_is : (image : List ℕ) → length (problem_of image).commands ≡ command_count (sizes_of image)
unfolding problem_of
count_is image = commands_length (sizes_of image) image

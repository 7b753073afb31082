-- An image with number 0 gives what the theorem of demand 3 and the code of a solve ask. Assumes nothing.
use mathlib.Core.Path.{◌≡◌, refl, sym, ap, subst, ◌∙◌}
use mathlib.Core.Bool.{Bool, true, false, cond, ◌&&◌}
use mathlib.Core.List.{List}
use Prim.Native.Nat.{ℕ, ◌+◌, ◌-◌, ◌*◌, ◌^◌, ◌≤◌, ◌<◌}
use native.Mathlib.Omega.{arith}
use lib.Dec.{eqb, leb, lit<}
use lib.IntN.{ℤ, pos, negsuc, nat_abs, ◌-ℤ◌}
use lib.ListN.{length, get_or, length-map, length-append}
use lib.Pow.{pow_mono, pow-add, pow_pos}
use lib.Signed.{le_z, le_z_yes, ◌≤ℤ◌}
use borrow.Author.Tests.{leb-true, eqb-true}
use Rattle.integer.specs.Parts.{int, nat, ◌⊖◌}
use Rattle.integer.proofs.Parts.{abs!, abs?, le?, whole}
use Rattle.word.specs.Word.{nat_at, words_at}
use Rattle.word.specs.Format.{top}
use Rattle.word.proofs.Words.{get_d_words_at, get_d_words_front, length_words_at}
use Rattle.gradient.specs.Vector.{All1}
use Rattle.gradient.specs.Index.{all_to}
use Rattle.gradient.specs.Problem.{Command, F, cold_start}
use Rattle.gradient.specs.Bounds.{range_p, range_y}
use Rattle.gradient.specs.Sizes.{Sized, SizedCommand}
use Rattle.gradient.specs.Demand.{InWord, formatted, ordered, headroom, start_within}
use Rattle.gradient.proofs.Index.{tab_length, tab_at, tab_all1, at_all1, map_at, cold_start_at}
use Rattle.gradient.proofs.Lengths.{cold_start_length}
use Rattle.gradient.proofs.Append.{all1_append}
use Rattle.gradient.proofs.Tests.{of_true, at_ordered, at_headroom, RangesFit, all_at, every2_to}
use Rattle.image.specs.declared.Sizes.{Sizes}
use Rattle.image.specs.declared.Input.{Input}
use Rattle.image.specs.declared.Input.TheVariants.{State, Target}
use Rattle.image.specs.Sizes.{command_count, input_count, body_count, sound, Sound, Whole}
use Rattle.image.specs.Layout.{sizes_of, lower_at, upper_at, problem_at, problem_of, command_at, entry_at, entry_of, cost_at, gain_at, gain_row, gains_of, momentum_at, limit_at, limits_from, limits_of}
use Rattle.image.specs.Checks.{head_number, body_number, word_test, limit_test}
use Rattle.image.proofs.Ordering.{passed, both, none}
use Rattle.image.proofs.Sized.{sound_facts, sound_format}
use Rattle.image.proofs.Reading.{cost_word, gain_word, lower_word, upper_word, limit_word}
use Rattle.interface.specs.Tables.{order_test, stop_test, symmetry_test, margin_test, total_test, momentum_range, momentum_ratio, range_test, row_test, others_at, margin_at, tables_number, image_number}
use Rattle.interface.specs.Accepted.{Accepted}
use Rattle.interface.specs.Stop.{StopsExactly}

-- ---- the tests that have passed
pub head_whole : (s : List ℕ) → head_number s ≡ 0 → Whole (sizes_of s) s
unfolding head_number
head_whole s e =
    let p₁ = passed (leb 32 (length s)) 6 _ (lit< tt) e in
    let p₂ = passed (sound (sizes_of s)) 3 _ (lit< tt) p₁.1 in
    let p₃ = passed (eqb (nat_at s 28) 0) 3 _ (lit< tt) p₂.1 in
    let p₄ = passed (eqb (length s) (4 * (8 + body_count (sizes_of s)))) 6 _ (lit< tt) p₃.1 in
    record { sizes = sound_facts (sizes_of s) p₂.0; size = eqb-true _ _ p₄.0 }

pub record Passed (z : Sizes) (s : List ℕ) : Type 0 where
  pub words : all_to (word_test z s) (body_count z) ≡ true
  pub limits : all_to (limit_test State z s) z.nx ≡ true
  pub target_limits : all_to (limit_test Target z s) z.nr ≡ true
  pub orders : all_to (order_test z s) (command_count z) ≡ true
  pub stops : all_to (stop_test z s) (command_count z) ≡ true
  pub symmetries : all_to (symmetry_test z s) (command_count z) ≡ true
  pub margins : all_to (margin_test z s) (command_count z) ≡ true
  pub totals : all_to (total_test z s) (command_count z) ≡ true
  pub range : momentum_range z s ≡ true
  pub ratio : momentum_ratio z s ≡ true
  pub range_tests : all_to (range_test z s) (command_count z) ≡ true
  pub rows : all_to (row_test z s) (command_count z) ≡ true

pub tests_passed : (z : Sizes) (s : List ℕ) → body_number z s ≡ 0 → tables_number z s ≡ 0 → Passed z s
unfolding body_number tables_number
tests_passed z s e f =
    let n = command_count z in
    let a₁ = passed (all_to (word_test z s) (body_count z)) 5 _ (lit< tt) e in
    let a₂ = passed (all_to (limit_test State z s) z.nx) 5 _ (lit< tt) a₁.1 in
    let a₃ = passed (all_to (limit_test Target z s) z.nr) 5 _ (lit< tt) a₂.1 in
    let p₁ = passed (all_to (order_test z s) n) 7 _ (lit< tt) f in
    let p₂ = passed (all_to (stop_test z s) n) 17 _ (lit< tt) p₁.1 in
    let p₃ = passed (all_to (symmetry_test z s) n) 8 _ (lit< tt) p₂.1 in
    let p₄ = passed (all_to (margin_test z s) n) 9 _ (lit< tt) p₃.1 in
    let p₅ = passed (all_to (total_test z s) n) 10 _ (lit< tt) p₄.1 in
    let p₆ = passed (momentum_range z s) 11 _ (lit< tt) p₅.1 in
    let p₇ = passed (momentum_ratio z s) 11 _ (lit< tt) p₆.1 in
    let p₈ = passed (all_to (range_test z s) n) 12 _ (lit< tt) p₇.1 in
    let p₉ = passed (all_to (row_test z s) n) 12 _ (lit< tt) p₈.1 in
    record {
      words = a₁.0;
      limits = a₂.0;
      target_limits = a₃.0;
      orders = p₁.0;
      stops = p₂.0;
      symmetries = p₃.0;
      margins = p₄.0;
      totals = p₅.0;
      range = p₆.0;
      ratio = p₇.0;
      range_tests = p₈.0;
      rows = p₉.0;
    }

-- ---- the problem's lists by index
module _ (z : Sizes) (s : List ℕ) where
  pub commands_length : length (problem_at z s).commands ≡ command_count z
  unfolding problem_at
  commands_length = tab_length (command_at z s) (command_count z)

  pub command_at_lem : (r : Command) (i : ℕ) → i < command_count z → get_or (problem_at z s).commands i r ≡ command_at z s i
  unfolding problem_at
  command_at_lem r i h = tab_at (command_at z s) (command_count z) i r h

  pub row_length : (i : ℕ) → length (command_at z s i).row ≡ command_count z
  unfolding command_at
  row_length i = tab_length (entry_at z s i) (command_count z)

  -- of an input, and of both
  pub limits_count : (v : Input) → length (limits_of v z s) ≡ input_count v z
  limits_count v = length-map (words_at s (limits_from v z) (input_count v z)) nat_abs ∙ length_words_at s (limits_from v z) (input_count v z)

  pub input_limit_at : (v : Input) (j : ℕ) → j < input_count v z → get_or (limits_of v z s) j 0 ≡ nat_abs (limit_at v z s j)
  unfolding limit_at
  input_limit_at v j h =
      map_at nat_abs (words_at s (limits_from v z) (input_count v z)) j (pos 0) 0 (rw (length_words_at s (limits_from v z) (input_count v z)) h)
      ∙ ap nat_abs (get_d_words_at s (limits_from v z) (input_count v z) j h)

  pub gains_count : (v : Input) (i : ℕ) → length (gains_of v z s i) ≡ input_count v z
  gains_count v i = length_words_at (gain_row v z s i) 0 (input_count v z)

  pub gain_at_lem : (v : Input) (i j : ℕ) → j < input_count v z → get_or (gains_of v z s i) j (pos 0) ≡ gain_at v z s i j
  gain_at_lem v i j h = get_d_words_front (gain_row v z s i) (input_count v z) j h

  pub limits_length : length (problem_at z s).input_limits ≡ z.nx + z.nr
  unfolding problem_at
  limits_length = omega (arith, length-append (limits_of State z s) (limits_of Target z s), limits_count State, limits_count Target)

  pub gains_length : (i : ℕ) → length (command_at z s i).gains ≡ z.nx + z.nr
  unfolding command_at
  gains_length i = omega (arith, length-append (gains_of State z s i) (gains_of Target z s i), gains_count State i, gains_count Target i)

  -- 14 of the commands f 0, f 1, ..
  pub within_to : (xs : List ℤ) (f : ℕ → ℤ) → length xs ≡ command_count z → ((k : ℕ) → k < command_count z → get_or xs k (pos 0) ≡ f k)
      → start_within (problem_at z s) xs ≡ all_to (λ (k : ℕ). le_z (lower_at z s k) (f k) && le_z (f k) (upper_at z s k)) (command_count z)
  unfolding start_within command_at
  within_to xs f n e =
      every2_to (λ (r : Command) (x : ℤ). le_z r.lower x && le_z x r.upper) (problem_at z s).commands xs (command_at z s 0) (pos 0) (command_count z)
      commands_length n (λ (k : ℕ). le_z (lower_at z s k) (f k) && le_z (f k) (upper_at z s k))
      (λ k l. rw (command_at_lem (command_at z s 0) k l, e k l))

  -- 17 passes exactly where all zeros are within the limits
  pub stops_exactly : StopsExactly z s
  stops_exactly =
      let p = problem_at z s in
      sym (within_to (cold_start p) (λ (k : ℕ). pos 0) (cold_start_length p ∙ commands_length) (λ k l. cold_start_at p k))

-- ---- an entry of M is a word: H's diagonal is at least one count
diagonal : (f t : ℕ) (h : ℤ) → f ≤ t → pos 1 ≤ℤ h → nat_abs h ≤ t → nat_abs (pos f -ℤ h) ≤ t
diagonal f t h k l m = let a = abs? (int h) m in abs! (nat f ⊖ int h) (omega (arith, whole)) (omega (arith, whole))

off_diagonal : (t : ℕ) (h : ℤ) → nat_abs h ≤ t → nat_abs (pos 0 -ℤ h) ≤ t
off_diagonal t h m = let a = abs? (int h) m in abs! (nat 0 ⊖ int h) (omega arith) (omega arith)

positive : (d : ℤ) (k : ℕ) → pos 1 ≤ℤ (d -ℤ pos k) → pos 1 ≤ℤ d
positive d k h = let a = le? (nat 1) (int d ⊖ nat k) h in omega (arith, whole)

F_top : (b w : ℕ) → b + 2 ≤ w → 2 ^ b ≤ top w
F_top b w h =
    let p : 2 ^ (b + 1) ≤ 2 ^ (w - 1) = pow_mono (omega arith) in
    let q : 2 ^ (b + 1) ≡ 2 ^ b * 2 = pow-add 2 b 1 in
    omega (arith, pow_pos b)

ranges : (z : Sizes) (s : List ℕ) (i : ℕ) → range_test z s i ≡ true → row_test z s i ≡ true → RangesFit (problem_at z s) (command_at z s i)
unfolding range_test row_test problem_at
ranges z s i e f =
    let a = both (leb (range_p (problem_at z s) (command_at z s i)) (top z.w)) (leb (range_y (problem_at z s) (command_at z s i)) (top z.w)) e in
    record { fits_p = leb-true _ _ a.0; fits_y = leb-true _ _ a.1; fits_ab = leb-true _ _ f }

module _ (z : Sizes) (s : List ℕ) (o : Sound z) (p : Passed z s) where
  entry_word : (i j : ℕ) → i < command_count z → j < command_count z → nat_abs (entry_at z s i j) ≤ top z.w
  unfolding entry_of
  entry_word i j h l = by (eqb i j) refl
    where
      margin : pos 1 ≤ℤ margin_at z s i
      margin = le_z_yes (of_true (all_at (margin_test z s) (command_count z) i h p.margins))

      least : pos 1 ≤ℤ cost_at z s i i
      least = positive (cost_at z s i i) (others_at z s i) (unfold margin_at in margin)

      by : (t : Bool) → eqb i j ≡ t → nat_abs (cond t (pos (2 ^ z.b)) (pos 0) -ℤ cost_at z s i j) ≤ top z.w
      by true e =
          diagonal (2 ^ z.b) (top z.w) (cost_at z s i j) (F_top z.b z.w o.b_word)
          (subst (λ (k : ℕ). pos 1 ≤ℤ cost_at z s i k) (eqb-true i j e) least) (cost_word z s o p.words i j h l)
      by false e = off_diagonal (top z.w) (cost_at z s i j) (cost_word z s o p.words i j h l)

  momentum_most : nat_abs (momentum_at z s) < 2 ^ z.b
  momentum_most = below (momentum_at z s) (both (le_z (pos 0) (momentum_at z s)) (le_z (momentum_at z s) (pos (2 ^ z.b - 1))) (unfold momentum_range in p.range))
    where
      below : (m : ℤ) → (le_z (pos 0) m ≡ true) × (le_z m (pos (2 ^ z.b - 1)) ≡ true) → nat_abs m < 2 ^ z.b
      below (pos k) (e, f) = omega (arith, leb-true k (2 ^ z.b - 1) f, pow_pos z.b)
      below (negsuc k) (e, f) = absurd (of_true e)

  command_sized : (i : ℕ) → i < command_count z → SizedCommand (problem_at z s) (command_at z s i)
  unfolding InWord problem_at command_at
  command_sized i h = record {
    lower_word = lower_word z s o p.words i h;
    upper_word = upper_word z s o p.words i h;
    row_words = tab_all1 (entry_at z s i) (command_count z) (λ j l. entry_word i j h l);
    gains_words = all1_append (gains State) (gains Target);
    row_length = row_length z s i ∙ sym (commands_length z s);
    gains_length = gains_length z s i ∙ sym (limits_length z s);
  }
    where
      gains : (v : Input) → All1 (λ (x : ℤ). nat_abs x ≤ top z.w) (gains_of v z s i)
      gains v =
          at_all1 (gains_of v z s i) (pos 0)
          (λ j l. let k : j < input_count v z = rw (gains_count z s v i) at l in rw (gain_at_lem z s v i j k) (gain_word z s o p.words v i j h k))

  problem_sized : Sized (problem_at z s)
  unfolding F problem_at
  problem_sized = record {
    commands_most = rw (commands_length z s) o.n_high;
    inputs_most = omega (arith, limits_length z s, o.nx_high, o.nr_high);
    b_least = o.b_low;
    b_most = o.b_high;
    W_least = o.b_word;
    W_most = o.w_high;
    momentum_most = momentum_most;
    limits_words = all1_append (limits State) (limits Target);
    commands_sized = tab_all1 (command_at z s) (command_count z) (λ i h. command_sized i h);
  }
    where
      limits : (v : Input) → All1 (λ (b : ℕ). b ≤ top z.w) (limits_of v z s)
      limits v =
          at_all1 (limits_of v z s) 0
          (λ j l. let k : j < input_count v z = rw (limits_count z s v) at l in rw (input_limit_at z s v j k) (limit_word z s o p.words v j k))

  problem_formatted : formatted (problem_at z s) ≡ true
  unfolding formatted problem_at
  problem_formatted = sound_format z o

  problem_ordered : ordered (problem_at z s) ≡ true
  unfolding command_at
  problem_ordered = at_ordered (problem_at z s) (command_at z s 0) (λ i h. order i (rw (commands_length z s) at h))
    where
      order : (i : ℕ) → i < command_count z → (get_or (problem_at z s).commands i (command_at z s 0)).lower ≤ℤ (get_or (problem_at z s).commands i (command_at z s 0)).upper
      order i h = rw (command_at_lem z s (command_at z s 0) i h) (le_z_yes (of_true (all_at (order_test z s) (command_count z) i h p.orders)))

  problem_headroom : headroom (problem_at z s) ≡ true
  problem_headroom = at_headroom (problem_at z s) (command_at z s 0) (λ i h. fits i (rw (commands_length z s) at h))
    where
      fits : (i : ℕ) → i < command_count z → RangesFit (problem_at z s) (get_or (problem_at z s).commands i (command_at z s 0))
      fits i h = rw (command_at_lem z s (command_at z s 0) i h) (ranges z s i (all_at (range_test z s) (command_count z) i h p.range_tests) (all_at (row_test z s) (command_count z) i h p.rows))

pub accepted : (s : List ℕ) → image_number s ≡ 0 → Accepted s
unfolding image_number problem_of
accepted s e =
    let a = none (head_number s) _ e in
    let b = none (body_number (sizes_of s) s) (tables_number (sizes_of s) s) a.1 in
    let w = head_whole s a.0 in
    let p = tests_passed (sizes_of s) s b.0 b.1 in
    record {
      whole = w;
      sized = problem_sized (sizes_of s) s w.sizes p;
      format = of_true (problem_formatted (sizes_of s) s w.sizes p);
      order = of_true (problem_ordered (sizes_of s) s w.sizes p);
      stop = of_true (sym (stops_exactly (sizes_of s) s) ∙ p.stops);
      room = of_true (problem_headroom (sizes_of s) s w.sizes p);
    }

-- the sizes read from an image that passed
pub whole_of : {z : Sizes} {s : List ℕ} → z ≡ sizes_of s → Whole (sizes_of s) s → Whole z s
whole_of {z} {s} e h = subst (λ (y : Sizes). Whole y s) (sym e) h

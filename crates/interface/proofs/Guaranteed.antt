-- The bytes of a solve's answer say the commands, the bounds and D of the definitions, so demand 3 and request 8 hold of what is answered,
-- and its commands are an accepted start. Assumes nothing.
use mathlib.Core.Path.{◌≡◌, refl, sym, ap, subst, ◌∙◌}
use mathlib.Core.List.{List, [], ◌∷◌, ◌++◌, map, append_assoc}
use Prim.Native.Nat.{ℕ, zero, suc, ◌+◌, ◌*◌, ◌^◌, ◌<◌}
use native.Mathlib.Omega.{arith}
use lib.IntN.{ℤ, pos}
use lib.ListN.{length, get_or, take, drop, length-map, length-append}
use lib.Seq.{take_all, take_at, drop_at, ext_get_or}
use mir.Syntax.{w32}
use mir.Val.{of_z}
use Rattle.word.specs.Word.{nat_at, pattern_at, word_at, words_at, pattern_bytes, words_out, Words}
use Rattle.word.proofs.Buffer.{part_between}
use Rattle.word.proofs.Words.{nat_part, nat_back, nat_of_words, length_bytes, length_words, length_words_at, get_d_words_at, word_part, word_of_words}
use Rattle.gradient.specs.Index.{tab}
use Rattle.gradient.specs.Vector.{All2}
use Rattle.gradient.specs.Demand.{Inside, Bounded, Claim, Demand3}
use Rattle.gradient.proofs.Index.{all1_at, tab_list}
use Rattle.gradient.proofs.Lengths.{iterate_z_length, error_e_length}
use Rattle.gradient.proofs.Sizes.{word_fits, e_fits}
use Rattle.gradient.proofs.Vector.{all2_length}
use Rattle.gradient.proofs.Tests.{all_start}
use Rattle.optimum.proofs.Distance.{near_optimum}
use Rattle.optimum.proofs.Zero.{zero_at_optimum}
use Rattle.optimum.proofs.Sizes.{bound_fits, steps_in_64}
use Rattle.image.specs.Sizes.{command_count}
use Rattle.image.specs.Layout.{sizes_of, problem_of, command_at}
use Rattle.interface.specs.Tables.{margin_of}
use Rattle.interface.specs.Calls.{inputs_of, start_of, answer_length, commands_after, bounds_after, distance_after, commands_and_bounds, answer_after, solve_number, solve_answer}
use Rattle.interface.specs.Accepted.{Solvable, Dominant}
use Rattle.interface.specs.Demand.{answered_commands, answered_bounds, answered_distance, Guarantee}
use Rattle.interface.specs.Stop.{StartsAgain}
use Rattle.interface.specs.Optimum.{DistanceClaim}
use Rattle.interface.proofs.Accept.{commands_length}
use Rattle.interface.proofs.Demand.{start_length, solvable, solvable_image, accepted_solve, all_claims}
use Rattle.interface.proofs.Dominance.{margin_count, accepted_dominant}
use Rattle.interface.proofs.Stop.{written_start}

-- ---- reading what was written
-- unsigned words in a row
naturals : (es : List ℕ) (i : ℕ) → get_or (map pos es) i (pos 0) ≡ pos (get_or es i 0)
naturals [] i = refl
naturals (e ∷ es) zero = refl
naturals (e ∷ es) (suc i) = naturals es i

naturals_back : (es : List ℕ) (i : ℕ) → i < length es → ((j : ℕ) → j < length es → get_or es j 0 < 2 ^ 32) → nat_at (words_out (map pos es)) (4 * i) ≡ get_or es i 0
naturals_back es i h f =
    nat_of_words (map pos es) i (λ j l. rw (naturals es j) (f j (rw (length-map es pos) at l))) (rw (length-map es pos) h)
    ∙ ap (of_z w32) (naturals es i)

-- the words in front
front_words : (zs : List ℤ) (rest : List ℕ) → Words zs → words_at (words_out zs ++ rest) 0 (length zs) ≡ zs
front_words zs rest f =
    let n = length zs in
    let t = words_out zs ++ rest in
    let len = length_words_at t 0 n in
    let front : take (4 * n) t ≡ words_out zs = take_at (words_out zs) rest (4 * n) (length_words zs) in
    ext_get_or (pos 0) (words_at t 0 n) zs len
    (λ i h. let l : i < n = rw len at h in
    get_d_words_at t 0 n i l
    ∙ sym (word_part t 0 (4 * n) (4 * i) (omega arith))
    ∙ ap (λ (s : List ℕ). word_at s (4 * i)) front
    ∙ word_of_words zs i f l)

-- the unsigned words behind them
behind_naturals : (zs : List ℤ) (es rest : List ℕ) → ((j : ℕ) → j < length es → get_or es j 0 < 2 ^ 32)
    → tab (λ (i : ℕ). nat_at ((words_out zs ++ words_out (map pos es)) ++ rest) (4 * length zs + 4 * i)) (length es) ≡ es
behind_naturals zs es rest f = sym (tab_list es 0 _ (λ i h. sym (place i h)))
  where
    t : List ℕ
    t = (words_out zs ++ words_out (map pos es)) ++ rest

    words : List ℕ
    words = words_out (map pos es)

    behind : take (4 * length es) (drop (4 * length zs) t) ≡ words
    behind = part_between t (words_out zs) words rest (4 * length zs) (4 * length es) refl (length_words zs) (length_words (map pos es) ∙ ap (λ (k : ℕ). 4 * k) (length-map es pos))

    place : (i : ℕ) → i < length es → nat_at t (4 * length zs + 4 * i) ≡ get_or es i 0
    place i h =
        sym (nat_part 4 t (4 * length zs) (4 * length es) (4 * i) (omega arith))
        ∙ ap (λ (l : List ℕ). nat_at l (4 * i)) behind
        ∙ naturals_back es i h f

-- a pattern behind a front
pattern_behind : (front : List ℕ) (at D : ℕ) → length front ≡ at → D < 2 ^ 64 → pattern_at (front ++ pattern_bytes D) at ≡ D
pattern_behind front at D e h =
    nat_back 8 D h (front ++ pattern_bytes D) at
    (rw (drop_at front (pattern_bytes D) at e) (take_all 8 (pattern_bytes D) (omega (arith, length_bytes 8 D))))

-- ---- the answer of k sweeps: how long it is, and its parts
module _ (image state target start : List ℕ) (k : ℕ) where
  abbrev n : ℕ
  n = command_count (sizes_of image)

  size : length (problem_of image).commands ≡ n
  unfolding problem_of
  size = commands_length (sizes_of image) image

  pub z_length : length (commands_after image state target start k) ≡ n
  unfolding commands_after
  z_length =
      iterate_z_length (problem_of image) (inputs_of (sizes_of image) state target) (start_of (sizes_of image) start) (start_length (sizes_of image) start ∙ sym size) k ∙ size

  e_length : length (bounds_after image k) ≡ n
  unfolding bounds_after
  e_length = error_e_length (problem_of image) k ∙ size

  front_length : length (commands_and_bounds image state target start k) ≡ 8 * n
  front_length =
      let zs = commands_after image state target start k in
      let es = map pos (bounds_after image k) in
      omega (arith, length-append (words_out zs) (words_out es), length_words zs, length_words es, length-map (bounds_after image k) pos, z_length, e_length)

  -- the answer has the length that 15 asks
  answer_length_lem : length (answer_after image state target start k) ≡ answer_length (sizes_of image)
  answer_length_lem =
      let front = commands_and_bounds image state target start k in
      let D = distance_after image state target start k in
      omega (arith, length-append front (pattern_bytes D), front_length, length_bytes 8 D)

  -- its first 4n bytes are the commands
  pub front_bytes : take (4 * n) (answer_after image state target start k) ≡ words_out (commands_after image state target start k)
  front_bytes =
      let zs = commands_after image state target start k in
      let es = words_out (map pos (bounds_after image k)) in
      let D = pattern_bytes (distance_after image state target start k) in
      ap (take (4 * n)) (append_assoc (words_out zs) es D) ∙ take_at (words_out zs) (es ++ D) (4 * n) (length_words zs ∙ ap (λ (m : ℕ). 4 * m) z_length)

-- ---- what the answer of k sweeps says
module _ (image state target start : List ℕ) (s : Solvable image state target start) (k : ℕ) where
  abbrev inputs : List ℤ
  inputs = inputs_of (sizes_of image) state target

  claim : Claim (problem_of image) inputs (start_of (sizes_of image) start) k
  unfolding Demand3
  claim = all_claims image state target start s k

  pub z_words : Words (commands_after image state target start k)
  unfolding commands_after
  z_words i h = word_fits (problem_of image) s.accepted.sized _ (all1_at (claim.in_range k (omega arith)).z_word (pos 0) i h)

  pub commands_said : answered_commands (n image state target start k) (answer_after image state target start k) ≡ commands_after image state target start k
  unfolding answered_commands
  commands_said =
      let zs = commands_after image state target start k in
      let es = words_out (map pos (bounds_after image k)) in
      let D = pattern_bytes (distance_after image state target start k) in
      rw (append_assoc (words_out zs) es D, ← (z_length image state target start k)) (front_words zs (es ++ D) z_words)

  bounds_said : answered_bounds (n image state target start k) (answer_after image state target start k) ≡ bounds_after image k
  unfolding answered_bounds
  bounds_said =
      let zs = commands_after image state target start k in
      let es = bounds_after image k in
      let D = pattern_bytes (distance_after image state target start k) in
      subst (λ (m : ℕ). tab (λ (i : ℕ). nat_at ((words_out zs ++ words_out (map pos es)) ++ D) (4 * m + 4 * i)) (n image state target start k) ≡ es) (z_length image state target start k)
      (subst (λ (m : ℕ). tab (λ (i : ℕ). nat_at ((words_out zs ++ words_out (map pos es)) ++ D) (4 * length zs + 4 * i)) m ≡ es) (e_length image state target start k)
      (behind_naturals zs es D small))
    where
      small : (j : ℕ) → j < length (bounds_after image k) → get_or (bounds_after image k) j 0 < 2 ^ 32
      small j h = unfold bounds_after in e_fits (problem_of image) s.accepted.sized (command_at (sizes_of image) image 0) k j (omega (arith, e_length image state target start k, size image state target start k))

  inside : All2 Inside (problem_of image).commands (commands_after image state target start k)
  unfolding commands_after Bounded
  inside = claim.bounded

  -- the commands' bytes as a start
  pub starts_after : StartsAgain image (answer_after image state target start k)
  starts_after =
      rw (front_bytes image state target start k)
      (written_start image (commands_after image state target start k) (z_length image state target start k) z_words (all_start (problem_of image) (commands_after image state target start k) inside))

  -- D, where 9 and 10 pass
  module _ (d : Dominant image) where
    pub distance_claim : DistanceClaim image state target start k
    unfolding distance_after
    distance_claim = record {
      from_optimum = near_optimum (problem_of image) (margin_of image) inputs (commands_after image state target start k) s.accepted.order d.contracts (margin_count image d) (sym (all2_length inside));
      zero = zero_at_optimum (problem_of image) (margin_of image) inputs (commands_after image state target start k) (margin_count image d) (sym (all2_length inside));
      steps = steps_in_64 (problem_of image) inputs (commands_after image state target start k) s.accepted.sized s.accepted.room s.inputs inside;
      size = bound_fits (problem_of image) inputs (commands_after image state target start k) (margin_of image) (margin_count image d) s.accepted.sized inside;
    }

    distance_said : answered_distance (n image state target start k) (answer_after image state target start k) ≡ distance_after image state target start k
    unfolding answered_distance
    distance_said =
        pattern_behind (commands_and_bounds image state target start k) (8 * n image state target start k) (distance_after image state target start k) (front_length image state target start k)
        (omega (arith, distance_claim.size))

-- ---- the answer of a solve, after the image's own sweeps
pub solve_length : (image state target start : List ℕ) → length (solve_answer image state target start) ≡ answer_length (sizes_of image)
unfolding solve_answer
solve_length image state target start = answer_length_lem image state target start (sizes_of image).sweeps

pub guaranteed : (image state target start : List ℕ) → Solvable image state target start → Dominant image → Guarantee image state target start (solve_answer image state target start)
unfolding solve_answer
guaranteed image state target start s d =
    let k = (sizes_of image).sweeps in
    let zs = commands_said image state target start s k in
    record {
      limits = rw zs (inside image state target start s k);
      from_exact = rw (zs, bounds_said image state target start s k) (unfold commands_after bounds_after in (claim image state target start s k).within);
      from_optimum = rw (zs, distance_said image state target start s k d) (distance_claim image state target start s k d).from_optimum;
    }

pub starts_again : (image state target start : List ℕ) (room : ℕ) → solve_number image state target start room ≡ 0 → StartsAgain image (solve_answer image state target start)
unfolding solve_answer
starts_again image state target start room e =
    starts_after image state target start (solvable image state target start (accepted_solve image state target start room e).0) (sizes_of image).sweeps

-- request 8, of whatever a solve accepts, after any number of sweeps
pub distances : (image state target start : List ℕ) (room : ℕ) → solve_number image state target start room ≡ 0 → (k : ℕ) → DistanceClaim image state target start k
distances image state target start room e k =
    let a = (accepted_solve image state target start room e).0 in
    distance_claim image state target start (solvable image state target start a) k (accepted_dominant image (solvable_image image state target start a))

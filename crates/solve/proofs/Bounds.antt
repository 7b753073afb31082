-- From the start on, an iteration of the error bounds on arrays is one of the problem that they hold, and the headroom gives what it asks; one
-- that changes nothing ends them. Assumes nothing.
use mathlib.Core.Path.{◌≡◌, sym, ap, ◌∙◌}
use mathlib.Core.Bool.{Bool, true}
use mathlib.Core.List.{List, [], map}
use Prim.Native.Nat.{ℕ, suc, ◌^◌, ◌≤◌, ◌<◌}
use native.Mathlib.Omega.{arith}
use lib.Dec.{T}
use lib.ListN.{length, get_or}
use lib.IntN.{ℤ, pos, nat_abs}
use Rattle.word.specs.Format.{top}
use Rattle.gradient.specs.Problem.{Command, Problem, F}
use Rattle.gradient.specs.Bounds.{Error, weight, next_e, next_q, error_after, range_a}
use Rattle.gradient.specs.Demand.{headroom}
use Rattle.gradient.specs.Sizes.{SizedCommand, Sized}
use Rattle.gradient.proofs.Index.{sum_n_cong, weight_sum, error_step_e_at, error_step_q_at, all1_at, map_at}
use Rattle.gradient.proofs.Lengths.{error_e_length, error_q_length}
use Rattle.gradient.proofs.Tests.{headroom_at}
use Rattle.gradient.proofs.Settled.{bounds_settled, same_error}
use Rattle.gradient.proofs.Sizes.{F_most, width_fits, weight_most, e_fits, q_fits}
use Rattle.image.specs.Layout.{problem_of}
use Rattle.interface.specs.Calls.{bounds_after}
use Rattle.array.specs.Arrays.{Filled, Tabled, NatsTo}
use Rattle.array.proofs.Filling.{same_held}
use Rattle.weight.specs.Sums.{term_at, weight_to}
use Rattle.bounds.specs.declared.BoundTerms.{BoundTerms}
use Rattle.bounds.specs.Steps.{e_at, q_at, Fitting, WeightsTo, Stored}
use Rattle.loading.proofs.Tables.{nothing, command, HasRows, HasBounds, count_is}
use Rattle.solve.specs.Reached.{BoundsAt, BoundsOf}
use Rattle.solve.proofs.Commands.{row_words}

module _ {p : Problem} (m : List (List ℤ)) (magnitudes : List (List ℕ)) {t : BoundTerms} (rows : HasRows p m) (rep : HasBounds p t) (sized : Sized p) (room : T (headroom p))
    (table : Tabled 0 t.n (λ (i j : ℕ). nat_abs (get_or (get_or m i []) j (pos 0))) magnitudes) where
  abbrev N : ℕ
  N = length p.commands

  of_command : (i : ℕ) → i < N → SizedCommand p (command p i)
  of_command i h = all1_at sized.commands_sized nothing i h

  pub fitting : Fitting t
  fitting = record {
    few = omega (arith, rep.n_is, sized.commands_most);
    high = omega (arith, rep.b_is, sized.b_most);
    momentum_most = omega (arith, rep.momentum_is, sized.momentum_most, F_most p sized);
    widths = λ i h. let l : i < N = omega (arith, rep.n_is) in rw (rep.widths i l) (width_fits p sized (command p i) (of_command i l));
  }

  magnitude_is : (i : ℕ) → i < N → (j : ℕ) → j < N → get_or (get_or magnitudes i []) j 0 ≡ nat_abs (get_or (command p i).row j (pos 0))
  magnitude_is i h j l =
      let n = rep.n_is in
      (table i (omega arith)).each j (omega arith) ∙ ap nat_abs (rows i h j l)

  -- ---- after k iterations
  module _ (k : ℕ) (e q : List ℕ) (at : BoundsAt p k e q) where
    abbrev E : Error
    E = error_after p k

    pub e_nats : NatsTo t.n e
    e_nats i h = let a : i < N = omega (arith, rep.n_is) in rw (at.at_e.each i a) (e_fits p sized nothing k i a)

    q_nats : (i : ℕ) → i < N → get_or q i 0 < 2 ^ 32
    q_nats i h = rw (at.at_q.each i h) (q_fits p sized nothing k i h (headroom_at p room nothing i h).fits_y)

    weight_is : (i : ℕ) → i < N → weight_to (get_or magnitudes i []) q t.n ≡ weight (command p i).row E.q
    unfolding weight_to term_at
    weight_is i h =
        rw rep.n_is
        (sum_n_cong _ _ N (λ j l. rw (magnitude_is i h j l, at.at_q.each j l))
        ∙ sym (weight_sum (command p i).row E.q N (of_command i h).row_length (error_q_length p k)))

    headroom_A : (i : ℕ) → i < N → range_a p (command p i) ≤ top p.W
    headroom_A i h = omega (arith, (headroom_at p room nothing i h).fits_ab)

    pub weights : WeightsTo t.n magnitudes q
    weights i h =
        let a : i < N = omega (arith, rep.n_is) in
        record {
          few = fitting.few;
          left = λ j l. rw ((table i h).each j l) (omega (arith, row_words m sized rep.n_is rows i h j l));
          right = λ j l. q_nats j (omega (arith, rep.n_is));
          small = rw (weight_is i a) (weight_most p sized (command p i) (of_command i a) (headroom_A i a) k);
        }

    -- ---- one more
    module _ (new e' q' : List ℕ) (same : Bool) (made : Filled 0 t.n (e_at magnitudes t q) new) (kept : Stored t new e q e' q' same) where
      new_is : (i : ℕ) → i < N → get_or new i 0 ≡ get_or (error_after p (suc k)).e i 0
      unfolding error_after e_at next_e F
      new_is i h =
          made.each i (omega (arith, rep.n_is))
          ∙ rw (weight_is i h, rep.b_is, rep.widths i h) (sym (error_step_e_at p E nothing 0 i h))

      new_q : (i : ℕ) → i < N → get_or q' i 0 ≡ get_or (error_after p (suc k)).q i 0
      unfolding error_after q_at next_q F
      new_q i h =
          kept.new_q.each i (omega (arith, rep.n_is))
          ∙ rw (rep.b_is, rep.momentum_is, new_is i h, at.at_e.each i h) (sym (error_step_q_at p E nothing 0 i h (omega (arith, error_e_length p k))))

      pub reached : BoundsAt p (suc k) e' q'
      reached = record {
        at_e = record { sized = kept.new_e.sized; each = λ i h. kept.new_e.each i (omega (arith, rep.n_is)) ∙ new_is i h };
        at_q = record { sized = kept.new_q.sized; each = new_q };
      }

      -- the new bounds are the old ones where the arrays are, and then so is every later one
      pub settled : same ≡ true → (n : ℕ) → k < n → error_after p n ≡ error_after p (suc k)
      settled u n l = bounds_settled p k unchanged n (omega arith) ∙ sym unchanged
        where
          unchanged : error_after p (suc k) ≡ E
          unchanged = same_error (same_held 0 (error_e_length p k) (error_e_length p (suc k)) at.at_e reached.at_e (kept.same u).0) (same_held 0 (error_q_length p k) (error_q_length p (suc k)) at.at_q reached.at_q (kept.same u).1)

-- before the first iteration: "e is 0 before the first sweep", "q is 0 for the first sweep"
pub first_bounds : (p : Problem) (e q : List ℕ) → length p.commands ≤ 16 → Filled 0 16 (λ (i : ℕ). 0) e → Filled 0 16 (λ (i : ℕ). 0) q → BoundsAt p 0 e q
unfolding error_after
first_bounds p e q few f g =
    let none : (i : ℕ) → i < length p.commands → ◌≡◌ {A = ℕ} 0 (get_or (map (λ (r : Command). 0) p.commands) i 0) =
    λ i h. sym (map_at (λ (r : Command). 0) p.commands i nothing 0 h) in
    record {
      at_e = record { sized = f.sized; each = λ i h. f.each i (omega arith) ∙ none i h };
      at_q = record { sized = g.sized; each = λ i h. g.each i (omega arith) ∙ none i h };
    }

-- the bounds after n iterations, where the arrays hold those after k and these are the same
pub held_after : (image : List ℕ) {k : ℕ} {e q : List ℕ} (n : ℕ) → BoundsAt (problem_of image) k e q → error_after (problem_of image) n ≡ error_after (problem_of image) k → BoundsOf image n e
unfolding bounds_after
held_after image n at u = record {
  sized = at.at_e.sized;
  each = λ i h. at.at_e.each i (omega (arith, count_is image)) ∙ ap (λ (s : Error). get_or s.e i 0) (sym u);
}

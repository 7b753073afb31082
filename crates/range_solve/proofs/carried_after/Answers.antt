use native.Mathlib.Omega.{arith}
use native.Mathlib.Numerals.{add-one}
use mathlib.Core.Path.{◌≡◌, refl, sym, ap, subst, ◌∙◌}
use mathlib.Core.List.{List}
use Prim.Native.Nat.{ℕ, suc, ◌*◌, ◌<◌}
use lib.ListN.{length}
use lib.IntN.{ℤ, pos}
use Rattle.word.specs.Word.{word_at}
use Rattle.gradient.specs.Problem.{Command}
use Rattle.image.specs.declared.Sizes.{Sizes}
use Rattle.image.specs.Sizes.{command_count}
use Rattle.image.specs.Layout.{sizes_of, problem_at, problem_of}
use Rattle.interface.specs.Calls.{start_of}
use Rattle.array.specs.Arrays.{Filled}
use Rattle.loading.proofs.Tables.{HasRows, has_rows, has_terms, with_linear}
use Rattle.solve.proofs.Commands.{row_words}
use Rattle.ranges.specs.Interval as end
use Rattle.ranges.specs.Interval.{Interval, end_of}
use Rattle.ranges.specs.Sweeps.{linear_interval, interval_iterate}
use Rattle.range_interface.specs.Calls.{range_inputs_of}
use Rattle.range_loading.specs.Tables.{RangeLoadable}
use Rattle.range_solve.specs.Reached.{EndFilled}
use Rattle.range_solve.proofs.Iterations as law
use Rattle.range_solve.proofs.carried_after.Invariants.{At}
use Rattle.range_solve.proofs.carried_after.Goals.{After-linear_ends-h, After-next_ends, After-of-whole, After-store_y-a, After-store_y-b, After-store_z, After-store_z-c, After-terms_with-u, At-loop, Start}
use Rattle.range_solve.proofs.carried_after.Goals as goal

-- the sizes are the image's
module _ (c : After-of-whole) where
  abbrev start : Start
  start = (goal.at.After-of-whole c).Start

  abbrev image : List ℕ
  image = start.args.image.now

  abbrev inputs : List Interval
  inputs = range_inputs_of (sizes_of image) start.args.ranges.now start.args.target.now

  abbrev from : List ℤ
  from = start_of (sizes_of image) start.args.start.now

  abbrev m : List (List ℤ)
  m = start.args.m.now

  rows : HasRows (problem_of image) m
  rows = has_rows (sizes_of image) image refl m start.requires.1

  chk : law.RangeChecked (problem_of image) inputs from
  chk = law.range_checked start.requires.0

-- the terms of both ends
module _ (c : After-terms_with-u) where
  abbrev d : After-of-whole
  d = (goal.at.After-terms_with-u c).After-of-whole

  abbrev linears : After-linear_ends-h
  linears = (goal.at.After-terms_with-u c).After-linear_ends-h

  -- an end of h, for the sizes that are read
  abbrev term : end.End → Sizes → Command → ℤ
  term e z r = end_of e (linear_interval (problem_at z (image d)) (range_inputs_of z (start d).args.ranges.now (start d).args.target.now) r)

  low-terms : law.HasEnd (problem_of (image d)) (inputs d) end.low c.terms_with-t.result
  unfolding problem_of
  low-terms = has_terms d.of-whole.result.sizes (image d) d.of-whole.ensures.1 (term end.high) (with_linear (rw d.of-whole.ensures.0 at linears.linear_ends-h.ensures.highest) (rw d.of-whole.ensures.0 at c.terms_with-t.ensures))

  high-terms : law.HasEnd (problem_of (image d)) (inputs d) end.high c.terms_with-u.result
  unfolding problem_of
  high-terms = has_terms d.of-whole.result.sizes (image d) d.of-whole.ensures.1 (term end.low) (with_linear (rw d.of-whole.ensures.0 at linears.linear_ends-h.ensures.lowest) (rw d.of-whole.ensures.0 at c.terms_with-u.ensures))

  n-is : c.terms_with-t.result.n ≡ command_count (sizes_of (image d))
  n-is = c.terms_with-t.ensures.n_is ∙ ap (λ (z : Sizes). command_count z) d.of-whole.ensures.1

pub linear_ends-h-requires : goal.linear_ends-h-requires
linear_ends-h-requires c =
    rw c.of-whole.ensures.0 (subst (λ (z : Sizes). RangeLoadable z c.args.image.now c.args.ranges.now c.args.target.now) (sym c.of-whole.ensures.1) (law.range_loadable c.requires.0))

pub magnitudes_of-magnitudes-requires : goal.magnitudes_of-magnitudes-requires
magnitudes_of-magnitudes-requires c =
    let t = c in
    ((law.fitting (chk (d (goal.at.magnitudes_of-magnitudes-requires c).After-terms_with-u)) end.low (low-terms (goal.at.magnitudes_of-magnitudes-requires c).After-terms_with-u)).few, row_words (m (d (goal.at.magnitudes_of-magnitudes-requires c).After-terms_with-u)) (chk (d (goal.at.magnitudes_of-magnitudes-requires c).After-terms_with-u)).sized (low-terms (goal.at.magnitudes_of-magnitudes-requires c).After-terms_with-u).n_is (rows (d (goal.at.magnitudes_of-magnitudes-requires c).After-terms_with-u)))

pub loop-init : goal.loop-init
loop-init c =
    let t = c in
    let a = (start (d (goal.at.loop-init c).After-terms_with-u)).args in
    let z = c.words_of-first in
    (law.first_carried a.image.now a.ranges.now a.target.now a.start.now z.result (subst (λ (n : ℕ). Filled (pos 0) n (λ (i : ℕ). word_at a.start.now (4 * i)) z.result) (n-is (goal.at.loop-init c).After-terms_with-u) z.ensures.0), (refl, refl))

-- what a turn goes by
module _ (l : At-loop) where
  abbrev t : After-terms_with-u
  t = (goal.at.At-loop l).After-terms_with-u

  abbrev k : ℕ
  k = l.loop.counter

  now : law.RangeChecked (problem_of (image (d t))) (inputs (d t)) (from (d t))
  now = chk (d t)

  at : At (image (d t)) (start (d t)).args.ranges.now (start (d t)).args.target.now (start (d t)).args.start.now k l.loop.z.low l.loop.z.high l.loop.y.low l.loop.y.high
  at = l.loop.invariant.0

  abbrev N : ℕ
  N = length (problem_of (image (d t))).commands

  -- both ends of z after one more
  abbrev Z : List Interval
  Z = (interval_iterate (problem_of (image (d t))) (inputs (d t)) (from (d t)) (suc k)).z

-- the new commands of a turn
module _ (c : After-next_ends) where
  abbrev l : At-loop
  l = (goal.at.After-next_ends c).At-loop

  abbrev new-low : List ℤ
  new-low = c.next_ends.new.new.low

  abbrev new-high : List ℤ
  new-high = c.next_ends.new.new.high

  low-made : EndFilled end.low (N l) (Z l) new-low
  low-made = law.new_z (now l) (m (d (t l))) (rows (d (t l))) (k l) l.loop.y.low l.loop.y.high (at l).at_low_y (at l).at_high_y end.low (low-terms (t l)) (low-terms (t l)).n_is c.next_ends.ensures.lowest

  high-made : EndFilled end.high (N l) (Z l) new-high
  high-made = law.new_z (now l) (m (d (t l))) (rows (d (t l))) (k l) l.loop.y.low l.loop.y.high (at l).at_low_y (at l).at_high_y end.high (high-terms (t l)) (low-terms (t l)).n_is c.next_ends.ensures.highest

-- both ends after it
module _ (c : After-store_z) where
  abbrev put_low : After-store_z-c
  put_low = (goal.at.After-store_z c).After-store_z-c

  abbrev put-above : After-store_y-b
  put-above = (goal.at.After-store_z c).After-store_y-b

  abbrev put-below : After-store_y-a
  put-below = (goal.at.After-store_z c).After-store_y-a

  abbrev g : After-next_ends
  g = (goal.at.After-store_z c).After-next_ends

  abbrev l2 : At-loop
  l2 = l g

  taken : k l2 < (start (d (t l2))).args.count
  taken = c.loop-test.true

  next : At (image (d (t l2))) (start (d (t l2))).args.ranges.now (start (d (t l2))).args.target.now (start (d (t l2))).args.start.now (suc (k l2)) put_low.store_z-c.new.z c.store_z.new.z put-below.store_y-a.new.y put-above.store_y-b.new.y
  next = record {
    at_low_z = law.stored_z (now l2) end.low (low-terms (t l2)) (k l2) (new-low g) l2.loop.z.high (low-made g) (at l2).at_high_z put_low.store_z-c.ensures;
    at_high_z = law.stored_z (now l2) end.high (high-terms (t l2)) (k l2) (new-high g) l2.loop.z.low (high-made g) (at l2).at_low_z c.store_z.ensures;
    at_low_y = law.stored_y (now l2) end.low (low-terms (t l2)) (k l2) (new-low g) l2.loop.z.high (low-made g) (at l2).at_high_z put-below.store_y-a.ensures;
    at_high_y = law.stored_y (now l2) end.high (high-terms (t l2)) (k l2) (new-high g) l2.loop.z.low (high-made g) (at l2).at_low_z put-above.store_y-b.ensures;
  }

pub next_ends-requires : goal.next_ends-requires
next_ends-requires c =
    let l = c in
    let s = d (t (goal.at.next_ends-requires c).At-loop) in
    (law.ready (now (goal.at.next_ends-requires c).At-loop) (m s) (rows s) (k (goal.at.next_ends-requires c).At-loop) l.loop.y.low l.loop.y.high (at (goal.at.next_ends-requires c).At-loop).at_low_y (at (goal.at.next_ends-requires c).At-loop).at_high_y (low-terms (t (goal.at.next_ends-requires c).At-loop)) (high-terms (t (goal.at.next_ends-requires c).At-loop)) _ l.magnitudes_of-magnitudes.ensures, l.loop.invariant.1)

pub store_y-a-requires : goal.store_y-a-requires
store_y-a-requires c =
    let g = c in
    let l = l (goal.at.store_y-a-requires c).After-next_ends in
    let own = law.counted (now l) end.low (low-terms (t l)) in
    let f = law.fitting (now l) end.low (low-terms (t l)) in
    (((f.few, f.high), (f.momentum_most, own (new-low (goal.at.store_y-a-requires c).After-next_ends) (law.z_words (now l) end.low (suc (k l)) (low-made (goal.at.store_y-a-requires c).After-next_ends)))), (own l.loop.z.high (law.z_words (now l) end.high (k l) (at l).at_high_z), (own l.loop.y.low (law.y_words (now l) end.low (k l) (at l).at_low_y), (at l).at_low_y.sized)))

pub store_y-b-requires : goal.store_y-b-requires
store_y-b-requires c =
    let g = c in
    let l = l (goal.at.store_y-b-requires c).After-next_ends in
    let own = law.counted (now l) end.high (high-terms (t l)) in
    let f = law.fitting (now l) end.high (high-terms (t l)) in
    (((f.few, f.high), (f.momentum_most, own (new-high (goal.at.store_y-b-requires c).After-next_ends) (law.z_words (now l) end.high (suc (k l)) (high-made (goal.at.store_y-b-requires c).After-next_ends)))), (own l.loop.z.low (law.z_words (now l) end.low (k l) (at l).at_low_z), (own l.loop.y.high (law.y_words (now l) end.high (k l) (at l).at_high_y), (at l).at_high_y.sized)))

pub store_z-c-requires : goal.store_z-c-requires
store_z-c-requires c =
    let g = c in
    let l = l (goal.at.store_z-c-requires c).After-next_ends in
    let own = law.counted (now l) end.low (low-terms (t l)) in
    ((law.fitting (now l) end.low (low-terms (t l))).few, (own (new-low (goal.at.store_z-c-requires c).After-next_ends) (law.z_words (now l) end.low (suc (k l)) (low-made (goal.at.store_z-c-requires c).After-next_ends)), (own l.loop.z.low (law.z_words (now l) end.low (k l) (at l).at_low_z), (at l).at_low_z.sized)))

pub store_z-requires : goal.store_z-requires
store_z-requires c =
    let g = c in
    let l = l (goal.at.store_z-requires c).After-next_ends in
    let own = law.counted (now l) end.high (high-terms (t l)) in
    ((law.fitting (now l) end.high (high-terms (t l))).few, (own (new-high (goal.at.store_z-requires c).After-next_ends) (law.z_words (now l) end.high (suc (k l)) (high-made (goal.at.store_z-requires c).After-next_ends)), (own l.loop.z.high (law.z_words (now l) end.high (k l) (at l).at_high_z), (at l).at_high_z.sized)))

pub returns-then-store_z : goal.returns-then-store_z
returns-then-store_z c =
    let s = c in
    let l = l2 (goal.at.returns-then-store_z c).After-store_z in
    let a = (start (d (t l))).args in
    let high = s.store_z.ensures.same c.if-store_z.true in
    let low = (put_low (goal.at.returns-then-store_z c).After-store_z).store_z-c.ensures.same high.0 in
    let above = (put-above (goal.at.returns-then-store_z c).After-store_z).store_y-b.ensures.same low.0 in
    let below = (put-below (goal.at.returns-then-store_z c).After-store_z).store_y-a.ensures.same above.0 in
    let r = law.held_after a.image.now a.ranges.now a.target.now a.start.now a.count (next (goal.at.returns-then-store_z c).After-store_z) (law.settled (now l) (k l) (at l) (next (goal.at.returns-then-store_z c).After-store_z) low.1 high.1 below.1 above.1 a.count (taken (goal.at.returns-then-store_z c).After-store_z)) in
    record { lowest = r.0; highest = r.1 }

pub loop-preserved : goal.loop-preserved
loop-preserved c =
    let s = c in
    (rw (add-one (k (l2 (goal.at.loop-preserved c).After-store_z))) (next (goal.at.loop-preserved c).After-store_z), ((low-made (g (goal.at.loop-preserved c).After-store_z)).sized, (high-made (g (goal.at.loop-preserved c).After-store_z)).sized))

pub returns : goal.returns
returns c =
    let l = c in
    let a = (start (d (t (goal.at.returns c).At-loop))).args in
    let e : l.loop.counter ≡ a.count = omega arith in
    let r = law.held_after a.image.now a.ranges.now a.target.now a.start.now a.count (at (goal.at.returns c).At-loop) (ap (interval_iterate (problem_of a.image.now) (range_inputs_of (sizes_of a.image.now) a.ranges.now a.target.now) (start_of (sizes_of a.image.now) a.start.now)) (sym e)) in
    record { lowest = r.0; highest = r.1 }

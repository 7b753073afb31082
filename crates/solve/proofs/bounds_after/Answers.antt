use native.Mathlib.Omega.{arith}
use native.Mathlib.Numerals.{add-one}
use mathlib.Core.Path.{◌≡◌, refl, sym, ap}
use mathlib.Core.List.{List}
use Prim.Native.Nat.{ℕ, suc}
use lib.ListN.{replicate, get_or-replicate}
use lib.IntN.{ℤ}
use Rattle.gradient.specs.Bounds.{error_after}
use Rattle.image.specs.Layout.{sizes_of, problem_of}
use Rattle.array.specs.Arrays.{Filled}
use Rattle.loading.proofs.Tables.{HasRows, has_rows, HasBounds, has_bounds}
use Rattle.bounds.specs.Steps.{e_at}
use Rattle.bounds.proofs.Small as small
use Rattle.solve.specs.Reached.{BoundsAt}
use Rattle.solve.proofs.Commands.{row_words}
use Rattle.solve.proofs.Bounds.{fitting, e_nats, weights, reached, settled, first_bounds, held_after}
use Rattle.solve.proofs.bounds_after.Goals.{After-bound_terms-t, After-magnitudes_of-magnitudes, After-of-whole, After-store, At-loop, Start}
use Rattle.solve.proofs.bounds_after.Goals as goal

-- the sizes are the image's
module _ (c : After-of-whole) where
  abbrev start : Start
  start = (goal.at.After-of-whole c).Start

  abbrev image : List ℕ
  image = start.args.image.now

-- M and the terms are those of the image's problem
module _ (c : After-bound_terms-t) where
  abbrev d : After-of-whole
  d = (goal.at.After-bound_terms-t c).After-of-whole

  abbrev m : List (List ℤ)
  m = (start d).args.m

  rows : HasRows (problem_of (image d)) m
  rows = has_rows (sizes_of (image d)) (image d) refl m (start d).requires.1

  rep : HasBounds (problem_of (image d)) c.bound_terms-t.result
  rep = has_bounds d.of-whole.result.sizes (image d) d.of-whole.ensures.1 (rw d.of-whole.ensures.0 at c.bound_terms-t.ensures)

-- what an iteration made
module _ (c : After-store) where
  abbrev l : At-loop
  l = (goal.at.After-store c).At-loop

  abbrev z : After-magnitudes_of-magnitudes
  z = (goal.at.After-store c).After-magnitudes_of-magnitudes

  abbrev t : After-bound_terms-t
  t = (goal.at.After-store c).After-bound_terms-t

  abbrev new : List ℕ
  new = c.next_e.new.new

  made : Filled 0 t.bound_terms-t.result.n (e_at z.magnitudes_of-magnitudes.result t.bound_terms-t.result l.loop.q) new
  made = c.next_e.ensures

  next : BoundsAt (problem_of (image (d t))) (suc l.loop.counter) c.store.new.e c.store.new.q
  next =
      let ok = (start (d t)).requires.0 in
      reached (m t) z.magnitudes_of-magnitudes.result (rows t) (rep t) ok.sized ok.room z.magnitudes_of-magnitudes.ensures l.loop.counter l.loop.e l.loop.q l.loop.invariant.0 new _ _ c.store.result made c.store.ensures

pub magnitudes_of-magnitudes-requires : goal.magnitudes_of-magnitudes-requires
magnitudes_of-magnitudes-requires c =
    let t = c in
    let s = (start (d (goal.at.magnitudes_of-magnitudes-requires c).After-bound_terms-t)).requires.0.sized in
    (omega (arith, (rep (goal.at.magnitudes_of-magnitudes-requires c).After-bound_terms-t).n_is, s.commands_most), row_words (m (goal.at.magnitudes_of-magnitudes-requires c).After-bound_terms-t) s (rep (goal.at.magnitudes_of-magnitudes-requires c).After-bound_terms-t).n_is (rows (goal.at.magnitudes_of-magnitudes-requires c).After-bound_terms-t))

pub loop-init : goal.loop-init
loop-init c =
    let zeros : Filled 0 16 (λ (i : ℕ). 0) (replicate 16 0) = record { sized = refl; each = λ i h. get_or-replicate 16 i 0 0 h } in
    (first_bounds (problem_of c.args.image.now) _ _ c.requires.0.sized.commands_most zeros zeros, refl)

pub next_e-requires : goal.next_e-requires
next_e-requires c =
    let l = c in
    let z = c in
    let t = c in
    let ok = (start (d (goal.at.next_e-requires c).After-bound_terms-t)).requires.0 in
    ((fitting (m (goal.at.next_e-requires c).After-bound_terms-t) z.magnitudes_of-magnitudes.result (rows (goal.at.next_e-requires c).After-bound_terms-t) (rep (goal.at.next_e-requires c).After-bound_terms-t) ok.sized ok.room z.magnitudes_of-magnitudes.ensures, weights (m (goal.at.next_e-requires c).After-bound_terms-t) z.magnitudes_of-magnitudes.result (rows (goal.at.next_e-requires c).After-bound_terms-t) (rep (goal.at.next_e-requires c).After-bound_terms-t) ok.sized ok.room z.magnitudes_of-magnitudes.ensures l.loop.counter l.loop.e l.loop.q l.loop.invariant.0), l.loop.invariant.1)

pub store-requires : goal.store-requires
store-requires c =
    let l = c in
    let z = c in
    let t = c in
    let ok = (start (d (goal.at.store-requires c).After-bound_terms-t)).requires.0 in
    let at = l.loop.invariant.0 in
    let f = fitting (m (goal.at.store-requires c).After-bound_terms-t) z.magnitudes_of-magnitudes.result (rows (goal.at.store-requires c).After-bound_terms-t) (rep (goal.at.store-requires c).After-bound_terms-t) ok.sized ok.room z.magnitudes_of-magnitudes.ensures in
    ((f, small.e_nats z.magnitudes_of-magnitudes.result l.loop.q f c.next_e.ensures), ((e_nats (m (goal.at.store-requires c).After-bound_terms-t) z.magnitudes_of-magnitudes.result (rows (goal.at.store-requires c).After-bound_terms-t) (rep (goal.at.store-requires c).After-bound_terms-t) ok.sized ok.room z.magnitudes_of-magnitudes.ensures l.loop.counter l.loop.e l.loop.q at, at.at_e.sized), at.at_q.sized))

pub returns-then-store : goal.returns-then-store
returns-then-store c =
    let s = c in
    let l = l (goal.at.returns-then-store c).After-store in
    let z = z (goal.at.returns-then-store c).After-store in
    let t = t (goal.at.returns-then-store c).After-store in
    let ok = (start (d t)).requires.0 in
    held_after (image (d t)) (start (d t)).args.count (next (goal.at.returns-then-store c).After-store)
    (settled (m t) z.magnitudes_of-magnitudes.result (rows t) (rep t) ok.sized ok.room z.magnitudes_of-magnitudes.ensures l.loop.counter l.loop.e l.loop.q l.loop.invariant.0 (new (goal.at.returns-then-store c).After-store) _ _ s.store.result (made (goal.at.returns-then-store c).After-store) s.store.ensures c.if-store.true (start (d t)).args.count (omega (arith, s.loop-test.true)))

pub loop-preserved : goal.loop-preserved
loop-preserved c =
    let s = c in
    (rw (add-one (l (goal.at.loop-preserved c).After-store).loop.counter) (next (goal.at.loop-preserved c).After-store), (made (goal.at.loop-preserved c).After-store).sized)

pub returns : goal.returns
returns c =
    let l = c in
    let d = d (goal.at.returns c).After-bound_terms-t in
    let e : l.loop.counter ≡ (start d).args.count = omega arith in
    held_after (image d) (start d).args.count l.loop.invariant.0 (ap (error_after (problem_of (image d))) (sym e))

use native.Mathlib.Omega.{arith}
use native.Mathlib.Numerals.{add-one}
use mathlib.Core.Path.{◌≡◌, refl, sym, ap, subst, ◌∙◌}
use mathlib.Core.List.{List}
use Prim.Native.Nat.{ℕ, suc, ◌*◌, ◌<◌}
use lib.IntN.{ℤ, pos}
use Rattle.word.specs.Word.{word_at}
use Rattle.gradient.specs.Scheme.{iterate}
use Rattle.image.specs.declared.Sizes.{Sizes}
use Rattle.image.specs.Sizes.{command_count}
use Rattle.image.specs.Layout.{sizes_of, problem_of}
use Rattle.interface.specs.Calls.{inputs_of, start_of}
use Rattle.array.specs.Arrays.{Filled}
use Rattle.loading.specs.Tables.{Loadable}
use Rattle.loading.proofs.Tables.{HasRows, has_rows, HasCommands, has_commands}
use Rattle.commands.specs.Steps.{z_at}
use Rattle.commands.proofs.Small as small
use Rattle.solve.proofs.Commands.{Checked, row_words, fitting, z_words, y_words, sums, reached, settled, checked, loadable, first_commands_lem, held_after}
use Rattle.solve.proofs.commands_after.Invariants.{At}
use Rattle.solve.proofs.commands_after.Goals.{After-command_terms-t, After-next_z, After-of-whole, After-store_y-same, After-store_z, At-loop, Start}
use Rattle.solve.proofs.commands_after.Goals as goal

-- the sizes are the image's
module _ (c : After-of-whole) where
  abbrev start : Start
  start = (goal.at.After-of-whole c).Start

  abbrev image : List ℕ
  image = start.args.image.now

-- M and the terms are those of the image's problem
module _ (c : After-command_terms-t) where
  abbrev d : After-of-whole
  d = (goal.at.After-command_terms-t c).After-of-whole

  abbrev m : List (List ℤ)
  m = (start d).args.m

  rows : HasRows (problem_of (image d)) m
  rows = has_rows (sizes_of (image d)) (image d) refl m (start d).requires.1

  rep : HasCommands (problem_of (image d)) (inputs_of (sizes_of (image d)) (start d).args.state.now (start d).args.target.now) c.command_terms-t.result
  rep = has_commands d.of-whole.result.sizes (image d) d.of-whole.ensures.1 (start d).args.state.now (start d).args.target.now (rw d.of-whole.ensures.0 at c.command_terms-t.ensures)

  chk : Checked (problem_of (image d)) (inputs_of (sizes_of (image d)) (start d).args.state.now (start d).args.target.now) (start_of (sizes_of (image d)) (start d).args.start.now)
  chk = checked (start d).requires.0

  n-is : c.command_terms-t.result.n ≡ command_count (sizes_of (image d))
  n-is = c.command_terms-t.ensures.n_is ∙ ap (λ (z : Sizes). command_count z) d.of-whole.ensures.1

-- what an iteration made
module _ (c : After-store_z) where
  abbrev l : At-loop
  l = (goal.at.After-store_z c).At-loop

  abbrev t : After-command_terms-t
  t = (goal.at.After-store_z c).After-command_terms-t

  abbrev g : After-next_z
  g = (goal.at.After-store_z c).After-next_z

  abbrev first : After-store_y-same
  first = (goal.at.After-store_z c).After-store_y-same

  abbrev new : List ℤ
  new = g.next_z.new.new

  made : Filled (pos 0) t.command_terms-t.result.n (z_at (m t) t.command_terms-t.result l.loop.y) new
  made = g.next_z.ensures

  taken : l.loop.counter < (start (d t)).args.count
  taken = c.loop-test.true

  next : At (image (d t)) (start (d t)).args.state.now (start (d t)).args.target.now (start (d t)).args.start.now (suc l.loop.counter) c.store_z.new.z first.store_y-same.new.y
  next = reached (m t) (rows t) (rep t) (chk t) l.loop.counter l.loop.z l.loop.y l.loop.invariant.0 new _ _ made first.store_y-same.ensures c.store_z.ensures

pub command_terms-t-requires : goal.command_terms-t-requires
command_terms-t-requires c =
    rw c.of-whole.ensures.0 (subst (λ (z : Sizes). Loadable z c.args.image.now c.args.state.now c.args.target.now) (sym c.of-whole.ensures.1) (loadable c.requires.0))

pub loop-init : goal.loop-init
loop-init c =
    let t = c in
    let a = (start (d (goal.at.loop-init c).After-command_terms-t)).args in
    let z = c.words_of-z in
    (first_commands_lem a.image.now a.state.now a.target.now a.start.now z.result (subst (λ (n : ℕ). Filled (pos 0) n (λ (i : ℕ). word_at a.start.now (4 * i)) z.result) (n-is (goal.at.loop-init c).After-command_terms-t) z.ensures.0), refl)

pub next_z-requires : goal.next_z-requires
next_z-requires c =
    let l = c in
    let t = c in
    let i = l.loop.invariant in
    ((fitting (m (goal.at.next_z-requires c).After-command_terms-t) (rows (goal.at.next_z-requires c).After-command_terms-t) (rep (goal.at.next_z-requires c).After-command_terms-t) (chk (goal.at.next_z-requires c).After-command_terms-t), row_words (m (goal.at.next_z-requires c).After-command_terms-t) (chk (goal.at.next_z-requires c).After-command_terms-t).sized (rep (goal.at.next_z-requires c).After-command_terms-t).n_is (rows (goal.at.next_z-requires c).After-command_terms-t)), ((y_words (m (goal.at.next_z-requires c).After-command_terms-t) (rows (goal.at.next_z-requires c).After-command_terms-t) (rep (goal.at.next_z-requires c).After-command_terms-t) (chk (goal.at.next_z-requires c).After-command_terms-t) l.loop.counter l.loop.z l.loop.y i.0, sums (m (goal.at.next_z-requires c).After-command_terms-t) (rows (goal.at.next_z-requires c).After-command_terms-t) (rep (goal.at.next_z-requires c).After-command_terms-t) (chk (goal.at.next_z-requires c).After-command_terms-t) l.loop.counter l.loop.z l.loop.y i.0), i.1))

pub store_y-same-requires : goal.store_y-same-requires
store_y-same-requires c =
    let g = c in
    let l = c in
    let t = c in
    let at = l.loop.invariant.0 in
    let f = fitting (m (goal.at.store_y-same-requires c).After-command_terms-t) (rows (goal.at.store_y-same-requires c).After-command_terms-t) (rep (goal.at.store_y-same-requires c).After-command_terms-t) (chk (goal.at.store_y-same-requires c).After-command_terms-t) in
    (((f.few, f.high), (f.momentum_most, small.z_words (m (goal.at.store_y-same-requires c).After-command_terms-t) l.loop.y f g.next_z.ensures)), (z_words (m (goal.at.store_y-same-requires c).After-command_terms-t) (rows (goal.at.store_y-same-requires c).After-command_terms-t) (rep (goal.at.store_y-same-requires c).After-command_terms-t) (chk (goal.at.store_y-same-requires c).After-command_terms-t) l.loop.counter l.loop.z l.loop.y at, (y_words (m (goal.at.store_y-same-requires c).After-command_terms-t) (rows (goal.at.store_y-same-requires c).After-command_terms-t) (rep (goal.at.store_y-same-requires c).After-command_terms-t) (chk (goal.at.store_y-same-requires c).After-command_terms-t) l.loop.counter l.loop.z l.loop.y at, at.at_y.sized)))

pub store_z-requires : goal.store_z-requires
store_z-requires c =
    let g = c in
    let l = c in
    let t = c in
    let at = l.loop.invariant.0 in
    let f = fitting (m (goal.at.store_z-requires c).After-command_terms-t) (rows (goal.at.store_z-requires c).After-command_terms-t) (rep (goal.at.store_z-requires c).After-command_terms-t) (chk (goal.at.store_z-requires c).After-command_terms-t) in
    (f.few, (small.z_words (m (goal.at.store_z-requires c).After-command_terms-t) l.loop.y f g.next_z.ensures, (z_words (m (goal.at.store_z-requires c).After-command_terms-t) (rows (goal.at.store_z-requires c).After-command_terms-t) (rep (goal.at.store_z-requires c).After-command_terms-t) (chk (goal.at.store_z-requires c).After-command_terms-t) l.loop.counter l.loop.z l.loop.y at, at.at_z.sized)))

pub returns-then-store_z : goal.returns-then-store_z
returns-then-store_z c =
    let s = c in
    let l = l (goal.at.returns-then-store_z c).After-store_z in
    let t = t (goal.at.returns-then-store_z c).After-store_z in
    let a = (start (d t)).args in
    held_after a.image.now a.state.now a.target.now a.start.now a.count (next (goal.at.returns-then-store_z c).After-store_z)
    (settled (m t) (rows t) (rep t) (chk t) l.loop.counter l.loop.z l.loop.y l.loop.invariant.0 (new (goal.at.returns-then-store_z c).After-store_z) _ _ (made (goal.at.returns-then-store_z c).After-store_z) (first (goal.at.returns-then-store_z c).After-store_z).store_y-same.ensures s.store_z.ensures refl c.if-store_z.true a.count (taken (goal.at.returns-then-store_z c).After-store_z))

pub loop-preserved : goal.loop-preserved
loop-preserved c =
    let s = c in
    (rw (add-one (l (goal.at.loop-preserved c).After-store_z).loop.counter) (next (goal.at.loop-preserved c).After-store_z), (made (goal.at.loop-preserved c).After-store_z).sized)

pub returns : goal.returns
returns c =
    let l = c in
    let a = (start (d (goal.at.returns c).After-command_terms-t)).args in
    let e : l.loop.counter ≡ a.count = omega arith in
    held_after a.image.now a.state.now a.target.now a.start.now a.count l.loop.invariant.0 (ap (iterate (problem_of a.image.now) (inputs_of (sizes_of a.image.now) a.state.now a.target.now) (start_of (sizes_of a.image.now) a.start.now)) (sym e))

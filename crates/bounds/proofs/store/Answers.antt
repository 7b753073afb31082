use Rattle.std.proofs.Common.{arith, refl, ℕ, ◌≡◌, ◌+◌, ◌*◌, ◌^◌, ◌<◌, ◌≤◌, get_or}
use Rattle.std.proofs.lemmas.Bool.{and_parts, eqb-true}
use native.Mathlib.Nat.{le_trans, mul-le-mul}
use lib.Pow.{pow_pos}
use Rattle.integer.specs.Round.{ceil}
use Rattle.integer.proofs.Floor.{ceil_most}
use Rattle.array.proofs.Filling.{storing_by_index}
use Rattle.bounds.specs.Steps.{q_at}
use Rattle.bounds.proofs.store.Goals.{In-loop-i, Start}
use Rattle.bounds.proofs.store.Goals as goal

-- the two errors of a turn, and the momentum's share
module _ (c : In-loop-i) where
  abbrev a : Start
  a = (goal.at.In-loop-i c).Start

  abbrev i : ℕ
  i = c.loop-i.i

  abbrev p : ℕ
  p = a.args.t.momentum * (get_or a.args.new.now i 0 + get_or c.loop-i.e i 0)

  new : get_or a.args.new.now i 0 < 2 ^ 32
  new = a.requires.0.1 i (omega arith)

  e-old : get_or c.loop-i.e i 0 ≡ get_or a.args.e.now i 0
  e-old = c.loop-i.invariant.first.rest i (omega arith)

  old : get_or c.loop-i.e i 0 < 2 ^ 32
  old = rw e-old (a.requires.1.0.0 i (omega arith))

  errors : p ≤ 2 ^ 53
  errors = mul-le-mul {n₂ = 2 ^ 20} {m₂ = 2 ^ 33} (omega (arith, a.requires.0.0.momentum_most)) (omega (arith, new, old))

  added : ceil p (2 ^ a.args.t.b) ≤ 2 ^ 53
  added = le_trans (ceil_most p (pow_pos a.args.t.b)) errors

pub overflow_add-v : goal.overflow_add-v
overflow_add-v c = record { fits = omega (arith, new (goal.at.overflow_add-v c).In-loop-i, added (goal.at.overflow_add-v c).In-loop-i, c.ceil_div.ensures) }

pub overflow_add-v-in-loop-i : goal.overflow_add-v-in-loop-i
overflow_add-v-in-loop-i c = record { fits = omega (arith, new (goal.at.overflow_add-v-in-loop-i c).In-loop-i, added (goal.at.overflow_add-v-in-loop-i c).In-loop-i, c.ceil_div.ensures) }

pub loop-i-preserved : goal.loop-i-preserved
unfolding q_at
loop-i-preserved c =
    storing_by_index 0 (λ k. get_or c.args.new.now k 0) (q_at c.args.t c.args.new.now c.args.e.now) _ _ (omega arith) c.loop-i.invariant refl (rw (c.ceil_div.ensures, e-old (goal.at.loop-i-preserved c).In-loop-i) refl)
    (λ e. let both = and_parts _ _ e in
    let first = and_parts _ _ both.0 in
    (first.0, (eqb-true _ _ first.1, eqb-true _ _ both.1)))

-- What its comparison tells is in `Steps.antt`. Assumes nothing.
use Rattle.std.proofs.Common.{◌≡◌, ◌^◌, ℤ, pos, ◌+ℤ◌, arith, to_z-of_z, w64, SFits, to_z, of_z}
use denote.Floats.{passes}
use Rattle.integer.proofs.Machine.{sfits_add, back}
use Rattle.double.proofs.Value.{small}
use Rattle.double.proofs.Back.{in_float_lem}
use Rattle.double.proofs.Steps.{ByFloor, by_floor}
use Rattle.double.proofs.round_integer.Goals.{After-floor_integer-q}
use Rattle.double.proofs.round_integer.Goals as goal

module _ (c : After-floor_integer-q) where
  abbrev q : ℤ
  q = c.floor_integer-q.result

  known : ByFloor c.args.y q
  known = by_floor c.args.y q (passes _ c.well_formed.0.1) (small c.args.y c.requires.0 c.requires.1) c.floor_integer-q.ensures

  read : to_z w64 (of_z w64 q) ≡ q
  read = back q c.floor_integer-q.type_inv

  more-fits : SFits w64 (q +ℤ pos 1)
  more-fits = sfits_add q (pos 1) (2 ^ 32) 1 known.small (omega arith) (omega arith)

pub int_to_float-q : goal.int_to_float-q
int_to_float-q c = let a = (goal.at.int_to_float-q c).After-floor_integer-q in rw (read a) (in_float_lem (q a) (let k = (known a).small in omega arith))

pub overflow_add-result : goal.overflow_add-result
overflow_add-result c = let a = (goal.at.overflow_add-result c).After-floor_integer-q in rw (read a) (more-fits a)

pub returns-in-Down : goal.returns-in-Down
returns-in-Down c = let a = (goal.at.returns-in-Down c).After-floor_integer-q in rw (c.in-Down.is, read a) a.floor_integer-q.ensures

pub returns-then-q-y : goal.returns-then-q-y
returns-then-q-y c =
    let a = (goal.at.returns-then-q-y c).After-floor_integer-q in
    rw (c.in-Up.is, read a, to_z-of_z (more-fits a)) ((known a).ceiling_more (rw (read a) at c.if-q-y.true))

pub returns-else-q-y : goal.returns-else-q-y
returns-else-q-y c = let a = (goal.at.returns-else-q-y c).After-floor_integer-q in rw (c.in-Up.is, read a) ((known a).ceiling_same (rw (read a) at c.if-q-y.false))

pub returns-in-Nearest : goal.returns-in-Nearest
returns-in-Nearest c = rw (c.in-Nearest.is, back c.nearest_integer.result c.nearest_integer.type_inv) c.nearest_integer.ensures

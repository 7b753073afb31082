use native.Mathlib.Omega.{arith}
use mathlib.Core.Path.{◌≡◌}
use Prim.Native.Nat.{◌*◌, ◌%◌, ◌^◌}
use lib.Pow.{pow-lt}
use Rattle.integer.specs.Round.{ceil}
use Rattle.integer.proofs.Machine.{one_shl, shl_pos}
use Rattle.integer.proofs.ceil_div.Goals as goal

module _ (c : goal.Start) where
  shift : (1 * 2 ^ c.args.b) % 2 ^ 64 ≡ 2 ^ c.args.b
  shift = one_shl c.args.b (omega arith)

pub overflow_sub-result : goal.overflow_sub-result
overflow_sub-result c = shl_pos c.args.b (omega arith)

pub overflow_add-result : goal.overflow_add-result
overflow_add-result c = rw (shift c) (record { fits = omega (arith, pow-lt {j = 32} c.requires.1) })

pub nonzero_div-result : goal.nonzero_div-result
nonzero_div-result c = shl_pos c.args.b (omega arith)

pub returns : goal.returns
unfolding ceil
returns c = rw (shift c)

use native.Mathlib.Omega.{arith}
use mathlib.Core.Path.{refl}
use Rattle.image.specs.Sizes.{command_count}
use Rattle.image.proofs.Sized.{row_end}
use Rattle.image.proofs.Sizes.cost_offset.Goals as goal

pub overflow_mul-result : goal.overflow_mul-result
overflow_mul-result c = rw c.command_count.ensures (record { fits = omega (arith, row_end c.args.i (command_count c.args.self) (command_count c.args.self) c.requires.1) })

pub overflow_mul-result-2 : goal.overflow_mul-result-2
overflow_mul-result-2 c = rw c.command_count.ensures (record { fits = omega (arith, row_end c.args.i (command_count c.args.self) (command_count c.args.self) c.requires.1) })

pub overflow_add-result : goal.overflow_add-result
overflow_add-result c = rw c.command_count.ensures (record { fits = omega (arith, row_end c.args.i (command_count c.args.self) (command_count c.args.self) c.requires.1) })

pub returns : goal.returns
returns c = rw c.command_count.ensures (refl, omega (arith, row_end c.args.i (command_count c.args.self) (command_count c.args.self) c.requires.1))

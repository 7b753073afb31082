-- The test of the capped sums is that of the true ones. Assumes nothing.
use native.Mathlib.Omega.{arith}
use lib.Pow.{pow_pos}
use Prim.Native.Nat.{◌+◌, ◌*◌, ◌^◌}
use Rattle.integer.proofs.Floor.{ceil_most}
use Rattle.word.specs.Format.{top}
use Rattle.gradient.specs.Index.{sum_n}
use Rattle.gradient.proofs.Capped.{capped_add, capped_row}
use Rattle.image.specs.declared.Input.{Input}
use Rattle.image.specs.declared.Input.TheVariants.{State, Target}
use Rattle.image.specs.Sizes.{command_count, input_count}
use Rattle.interface.specs.Tables.{row_test}
use Rattle.row_sums.specs.Terms.{range_term, gain_term}
use Rattle.row_sums.proofs.Rows.{range_terms, gain_terms}
use Rattle.headroom.proofs.row_passes.Goals as goal

pub overflow_add-result : goal.overflow_add-result
overflow_add-result c =
    let f = pow_pos c.args.image.now.sizes.b in
    record { fits = omega (arith, c.ceil_div.ensures, c.ceil_div-2.ensures, ceil_most c.range_sum-a.result f, ceil_most c.min-b.result f) }

pub returns : goal.returns
unfolding row_test
returns c =
    let z = c.args.image.now.sizes in
    let s = c.args.image.now.bytes.now in
    let i = c.args.i in
    let range = sum_n (range_term z s i) (command_count z) in
    let gains = λ (v : Input). sum_n (gain_term v z s i) (input_count v z) in
    let same = capped_row (2 ^ z.b) (top z.w) range (gains State + gains Target) (pow_pos z.b) in
    let joined = capped_add (gains State) (gains Target) (2 ^ z.b * top z.w + 1) in
    rw (range_terms z s i, gain_terms z s i, ← same, ← joined) cc

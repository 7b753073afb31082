-- `hexadecimal::hex_at` meets its contract. The invariant: n is the number of the first i digits. Assumes nothing.
use mathlib.Core.Path.{refl, sym}
use Prim.Native.Nat.{◌≤◌, ◌<◌, ◌^◌, ◌*◌, ◌+◌}
use native.Mathlib.Omega.{arith}
use native.Mathlib.Nat.{lt_of_lt_of_le, pow-le-pow_right}
use mir.Facts.{Fits-of_lt}
use Rattle.word.specs.Digits.{number_be}
use Rattle.word.proofs.Digits.{number_grows}
use Rattle.hexadecimal.specs.Hex.{hex_at}
use Rattle.hexadecimal.proofs.Hex.{hex_more}
use Rattle.hexadecimal.proofs.hex_at.Goals.{After-digit}
use Rattle.hexadecimal.proofs.hex_at.Goals as goal

grown : (c : After-digit) → c.loop-i.n * 16 + c.digit.result < 16 ^ (c.loop-i.i + 1)
grown c = number_grows 16 c.loop-i.n c.digit.result c.loop-i.i c.loop-i.invariant.0 c.digit.ensures.1

pub loop-i-init : goal.loop-i-init
unfolding hex_at number_be
loop-i-init c = (omega arith, refl)

pub overflow_mul-n : goal.overflow_mul-n
overflow_mul-n c =
    let l = c.loop-i in
    let p : 16 ^ (l.i + 1) ≤ 16 ^ 16 = pow-le-pow_right {n = 16} (omega arith) {j = 16} (omega arith) in
    Fits-of_lt (omega (arith, p, number_grows 16 l.n 0 l.i l.invariant.0 (omega arith)))

pub overflow_add-n : goal.overflow_add-n
overflow_add-n c = Fits-of_lt (lt_of_lt_of_le (grown c) (pow-le-pow_right {n = 16} (omega arith) {j = 16} (omega arith)))

pub loop-i-preserved : goal.loop-i-preserved
loop-i-preserved c =
    let l = c.loop-i in
    (grown c, rw (c.digit.ensures.0, l.invariant.1) (sym (hex_more l.i c.args.s.now c.args.at)))

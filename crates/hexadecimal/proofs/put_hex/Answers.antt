-- `hexadecimal::put_hex` meets its contract. The invariant: the digits left to write make the whole number. Assumes nothing.
use mathlib.Core.Path.{◌≡◌, sym, ap, ◌∙◌}
use Prim.Native.Nat.{ℕ, suc, ◌-◌}
use native.Mathlib.Omega.{arith}
use lib.ListN.{length-set}
use Rattle.word.specs.Buffer.{put_at}
use Rattle.word.specs.Digits.{digits_be}
use Rattle.word.proofs.Buffer.{put_nothing}
use Rattle.hexadecimal.specs.Hex.{hex_digits}
use Rattle.hexadecimal.proofs.Hex.{put_more}
use Rattle.hexadecimal.proofs.put_hex.Goals as goal

pub loop-i-preserved : goal.loop-i-preserved
loop-i-preserved c =
    let l = c.loop-i in
    let a = c.args in
    let j = l.i - 1 in
    let e : suc j ≡ l.i = omega arith in (
      simp length-set l.invariant.0,
      rw c.digit_byte.ensures (put_more l.out a.at j l.m (omega arith)) ∙ ap (λ (i : ℕ). put_at l.out a.at (hex_digits i l.m)) e ∙ l.invariant.1,
    )

pub returns : goal.returns
unfolding hex_digits digits_be
returns c =
    let l = c.loop-i in
    let a = c.args in
    let e : l.i ≡ 0 = omega arith in
    sym (put_nothing l.out a.at) ∙ ap (λ (i : ℕ). put_at l.out a.at (hex_digits i l.m)) (sym e) ∙ l.invariant.1

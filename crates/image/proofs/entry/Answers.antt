use native.Mathlib.Omega.{arith}
use mathlib.Core.Path.{ap}
use Prim.Native.Nat.{ℕ, ◌^◌, ◌+◌, ◌≤◌}
use lib.IntN.{ℤ, pos, nat_abs, ◌-ℤ◌}
use lib.Pow.{pow_mono}
use lib.Signed.{nat_abs-le}
use mir.Syntax.{w64}
use mir.Val.{SFits}
use mir.Facts.{to_z-of_z}
use borrow.Author.Tests.{eq-eqb, ne_eqb}
use Rattle.integer.proofs.Laws.{abs_sub}
use Rattle.integer.proofs.Machine.{sfits_abs, shl_to_z, back}
use Rattle.image.specs.Layout.{entry_of}
use Rattle.image.proofs.entry.Goals as goal

-- a word taken from a power of two, or from 0
module _ (f : ℕ) (h : ℤ) (power : f ≤ 2 ^ 20) (word : nat_abs h ≤ 2 ^ 31) where
  small : nat_abs (pos f -ℤ h) ≤ 2 ^ 31 + 2 ^ 20
  small = omega (arith, abs_sub (pos f) h)

  fits : SFits w64 (pos f -ℤ h)
  fits = sfits_abs (pos f -ℤ h) small (omega arith)

pub overflow_sub-result : goal.overflow_sub-result
overflow_sub-result c =
    let a = c.before.before.before in
    let w = c.word_at-h in
    rw (shl_to_z a.args.b (omega arith), back w.result w.type_inv) (fits (2 ^ a.args.b) w.result (pow_mono {j = 20} a.requires.0) (nat_abs-le w.result w.ensures.1.sfits))

pub returns-then-i-j : goal.returns-then-i-j
unfolding entry_of
returns-then-i-j c =
    let a = c.before.before.before in
    let w = c.word_at-h in
    let p : 2 ^ a.args.b ≤ 2 ^ 20 = pow_mono {j = 20} a.requires.0 in
    let n : nat_abs w.result ≤ 2 ^ 31 = nat_abs-le w.result w.ensures.1.sfits in
    rw (shl_to_z a.args.b (omega arith), back w.result w.type_inv, to_z-of_z (fits (2 ^ a.args.b) w.result p n), eq-eqb a.args.i a.args.j c.if-i-j.true)
    (ap (λ (x : ℤ). pos (2 ^ a.args.b) -ℤ x) w.ensures.0, small (2 ^ a.args.b) w.result p n)

pub overflow_sub-result-2 : goal.overflow_sub-result-2
overflow_sub-result-2 c =
    let w = c.word_at-h in
    rw (back w.result w.type_inv) (fits 0 w.result (omega arith) (nat_abs-le w.result w.ensures.1.sfits))

pub returns : goal.returns
unfolding entry_of
returns c =
    let a = c.before.before.before in
    let w = c.word_at-h in
    let n : nat_abs w.result ≤ 2 ^ 31 = nat_abs-le w.result w.ensures.1.sfits in
    rw (back w.result w.type_inv, to_z-of_z (fits 0 w.result (omega arith) n), ne_eqb a.args.i a.args.j c.if-i-j.false)
    (ap (λ (x : ℤ). pos 0 -ℤ x) w.ensures.0, small 0 w.result (omega arith) n)

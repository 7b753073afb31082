-- `text::lines_of` meets its contract. The invariant: the lines of the commands passed stand in front. Assumes nothing.
use native.Mathlib.Omega.{arith}
use native.Mathlib.Nat.{mul-le-mul}
use native.Mathlib.Numerals.{add-one}
use mathlib.Core.Path.{◌≡◌, refl, ap, subst, ◌∙◌}
use mathlib.Core.List.{List, ◌++◌}
use Prim.Native.Nat.{ℕ, ◌+◌, ◌*◌, ◌≤◌}
use lib.ListN.{take}
use Rattle.std.proofs.lemmas.List.{length-take}
use Rattle.word.specs.Buffer.{joined}
use Rattle.word.specs.Word.{nat_at, pattern_at}
use Rattle.word.proofs.Buffer.{front_put}
use Rattle.text.specs.Text.{distance_digits, line_of, lines}
use Rattle.text.proofs.Written.{length_line}
use Rattle.text.proofs.lines_of.Goals as goal

-- lines of 35 bytes at most
within : (digits k : ℕ) → digits ≤ 16 → k ≤ 16 → (19 + digits) * k ≤ 560
within digits k h l = let a : 19 + digits ≤ 35 = omega arith in omega (arith, mul-le-mul a l)

one_more : (digits k : ℕ) → (19 + digits) * k + (19 + digits) ≡ (19 + digits) * (k + 1)
one_more digits k = omega arith

pub loop-k-init : goal.loop-k-init
unfolding joined lines
loop-k-init c = let e : (19 + c.distance_digits-digits.result) * 0 ≡ 0 = omega arith in (refl, rw e refl)

pub overflow_mul-size : goal.overflow_mul-size
overflow_mul-size c = omega (arith, within c.distance_digits-digits.result c.loop-k.k c.distance_digits-digits.ensures.1 (omega arith))

pub put_line-requires : goal.put_line-requires
put_line-requires c = omega (arith, within c.distance_digits-digits.result (c.loop-k.k + 1) c.distance_digits-digits.ensures.1 (omega arith), one_more c.distance_digits-digits.result c.loop-k.k)

pub loop-k-preserved : goal.loop-k-preserved
unfolding joined lines
loop-k-preserved c =
    let a = c.args in
    let l = c.loop-k in
    let g = c.distance_digits-digits in
    let x = nat_at a.answer.now (4 * l.k) in
    let y = nat_at a.answer.now (4 * (a.n + l.k)) in
    let D = pattern_at a.answer.now (8 * a.n) in
    let e : line_of c.nat_at-command.result c.nat_at-bound.result g.result c.pattern_at-d.result ≡ line_of x y (distance_digits D) D =
    cc (c.nat_at-command.ensures.0, c.nat_at-bound.ensures.0, g.ensures.0, c.pattern_at-d.ensures) in
    let size = length_line c.nat_at-command.result c.nat_at-bound.result g.result c.pattern_at-d.result in (
      c.put_line.auto.out ∙ l.invariant.0,
      ap (take ((19 + g.result) * (l.k + 1))) c.put_line.ensures
          ∙ front_put l.bytes (lines a.n a.answer.now l.k) _ ((19 + g.result) * l.k) ((19 + g.result) * (l.k + 1)) l.invariant.1 (omega (arith, size, one_more g.result l.k)) (omega (arith, within g.result (l.k + 1) g.ensures.1 (omega arith)))
          ∙ ap (λ (t : List ℕ). lines a.n a.answer.now l.k ++ t) e
          ∙ rw (add-one l.k),
    )

pub overflow_mul-result : goal.overflow_mul-result
overflow_mul-result c =
    let g = c.distance_digits-digits in
    let n = c.args.n in
    omega (arith, within g.result n g.ensures.1 (omega arith))

pub invariant_of-result : goal.invariant_of-result
invariant_of-result c = within c.distance_digits-digits.result c.args.n c.distance_digits-digits.ensures.1 c.requires.0

pub returns-clause-text : goal.returns-clause-text
returns-clause-text c =
    let a = c.args in
    let l = c.loop-k in
    let e : l.k ≡ a.n = omega arith in
    subst (λ (k : ℕ). take ((19 + c.distance_digits-digits.result) * k) l.bytes ≡ lines a.n a.answer.now k) e l.invariant.1

pub returns-clause-room : goal.returns-clause-room
returns-clause-room c =
    let size = (19 + c.distance_digits-digits.result) * c.args.n in
    omega (arith, length-take size c.loop-k.bytes, within c.distance_digits-digits.result c.args.n c.distance_digits-digits.ensures.1 c.requires.0)

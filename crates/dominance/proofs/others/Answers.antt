use Rattle.std.proofs.Common.{arith, ◌≡◌, ℕ, ℤ, ◌+◌, nat_abs, sym, ap, add-one, ◌∙◌}
use borrow.Author.Tests.{eq-eqb, ne_eqb}
use Rattle.integer.proofs.Machine.{back}
use Rattle.dominance.specs.Others.{others_in}
use Rattle.dominance.proofs.others.Goals.{then-j-i, else-j-i}
use Rattle.dominance.proofs.others.Goals as goal

-- one entry more, and the diagonal's
more : (row : ℕ → ℤ) (i j s m : ℕ) (x : ℤ) → s ≡ others_in row i j → (j ≡ i → ⊥) → m ≡ nat_abs x → x ≡ row j → s + m ≡ others_in row i (j + 1)
more row i j s m x e d a h = rw (add-one j, ne_eqb i j (λ q. d (sym q))) (cc)

over : (row : ℕ → ℤ) (i j s : ℕ) → s ≡ others_in row i j → j ≡ i → s ≡ others_in row i (j + 1)
over row i j s e d = rw (add-one j, eq-eqb i j (sym d)) (omega (arith, e))

pub loop-j-preserved : goal.loop-j-preserved
loop-j-preserved g c =
    let l = c.loop-j in
    elim c.if-j-i.branch [
      | then-j-i w ↦
          let x = w.entry.result in
          let size : w.unsigned_abs-sum.result ≡ nat_abs x = w.unsigned_abs-sum.ensures.value ∙ ap nat_abs (back x w.entry.type_inv) in (
            omega (arith, size, c.requires.small l.j x (omega arith) w.entry.ensures),
            λ row h. w.sum-is ∙ more row c.args.i l.j l.sum _ x (l.invariant.1 row (λ k y b q. h k y (omega arith) q)) (λ q. omega arith) size (h l.j x (omega arith) w.entry.ensures),
          )
      | else-j-i w ↦
          (omega arith, λ row h. w.sum-is ∙ over row c.args.i l.j l.sum (l.invariant.1 row (λ k y b q. h k y (omega arith) q)) w.if-j-i.false)
    ]

pub returns-clause-sum : goal.returns-clause-sum
returns-clause-sum g c row h =
    let l = c.loop-j in
    let e : l.j ≡ c.args.n = omega arith in
    l.invariant.1 row (λ k x b q. h k x (omega arith) q) ∙ ap (others_in row c.args.i) e

use Rattle.std.proofs.Common.{rules, arith, List, ℕ, ◌*◌, ◌^◌, ◌≤◌, ℤ, nat_abs, Bool, true, false, eqb}
use Rattle.std.specs.Prelude.{cond}
use Prim.Native.Nat.{zero-le}
use lib.Signed.{nat_abs-le}
use Rattle.word.specs.Word.{Bytes, word_at}
use Rattle.word.proofs.Words.{word_fits}
use Rattle.gradient.proofs.Index.{sum_n_most}
use Rattle.interface.specs.Tables.{others_of}
use Rattle.dominance.proofs.row_others.Goals as goal

-- each of the others is a word
one_most : (b : Bool) (x : ℤ) → nat_abs x ≤ 2 ^ 31 → cond b 0 (nat_abs x) ≤ 2 ^ 31
one_most true x h = zero-le
one_most false x h = h

others_most : (row : List ℕ) (i n : ℕ) → Bytes row → others_of row i n ≤ n * 2 ^ 31
others_most row i n bytes =
    let word = λ (j : ℕ). word_at row (4 * j) in
    sum_n_most (λ j. cond (eqb i j) 0 (nat_abs (word j))) (2 ^ 31) n (λ j h. one_most (eqb i j) (word j) (nat_abs-le (word j) (word_fits row (4 * j) bytes).sfits))

pub returns : goal.returns
returns c =
    let a = c.args in
    let sum = c.others.ensures.sum (λ j. word_at a.row.now (4 * j)) (λ j x b q. search rules) in
    (sum, omega (arith, sum, others_most a.row.now a.i a.n (λ k. (c.type_inv.row k).fits)))

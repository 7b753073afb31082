use native.Mathlib.Omega.{arith}
use mathlib.Core.Path.{◌≡◌, refl, sym, ap, ◌∙◌}
use mathlib.Core.List.{List, map}
use Prim.Native.Nat.{ℕ, ◌+◌, ◌*◌}
use lib.ListN.{drop, length-map, drop_of_length-le, get_or, get_or-map}
use lib.IntN.{ℤ, pos}
use Rattle.word.specs.Buffer.{put_at}
use Rattle.word.specs.Word.{word_bytes, words_out}
use Rattle.word.proofs.Buffer.{put_nothing, put_whole}
use Rattle.word.proofs.Words.{length_words, words_more}
use Rattle.array.proofs.put_bounds.Goals as goal

pub loop-i-init : goal.loop-i-init
loop-i-init c =
    let zs = map pos c.args.bounds.now in
    (refl, put_whole c.args.out.now (words_out zs) (omega (arith, length_words zs, length-map c.args.bounds.now pos)))

pub loop-i-preserved : goal.loop-i-preserved
loop-i-preserved c =
    let l = c.loop-i in
    let zs = map pos c.args.bounds.now in
    let n = length-map c.args.bounds.now pos in
    let w : c.put_nat.new.out ≡ put_at l.out (4 * l.i) (word_bytes (get_or zs l.i (pos 0))) =
    c.put_nat.ensures ∙ ap (λ (x : ℤ). put_at l.out (4 * l.i) (word_bytes x)) (sym (get_or-map pos c.args.bounds.now l.i 0)) in (
      c.put_nat.auto.out ∙ l.invariant.0,
      ap (λ (o : List ℕ). put_at o (4 * (l.i + 1)) (words_out (drop (l.i + 1) zs))) w ∙ words_more l.out zs l.i (omega (arith, n)) (omega arith) ∙ l.invariant.1,
    )

pub returns : goal.returns
unfolding words_out
returns c =
    let l = c.loop-i in
    let zs = map pos c.args.bounds.now in
    sym (put_nothing _ (4 * l.i))
    ∙ ap (λ (r : List ℤ). put_at l.out (4 * l.i) (words_out r)) (sym (drop_of_length-le zs {i = l.i} (omega (arith, length-map c.args.bounds.now pos))))
    ∙ l.invariant.1

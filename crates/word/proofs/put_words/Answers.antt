-- `word::put_words` meets its contract. The invariant: what is left to write makes the whole list. Assumes nothing.
use native.Mathlib.Omega.{arith}
use mathlib.Core.Path.{◌≡◌, refl, sym, ap, ◌∙◌}
use mathlib.Core.List.{List}
use Prim.Native.Nat.{ℕ, ◌+◌, ◌*◌}
use lib.ListN.{get_or, drop, drop_of_length-le}
use lib.IntN.{ℤ, pos}
use mir.Facts.{to_z-of_z}
use Rattle.integer.proofs.Machine.{wide32}
use Rattle.word.specs.Buffer.{put_at}
use Rattle.word.specs.Word.{words_out, word_bytes}
use Rattle.word.proofs.Buffer.{put_nothing, put_whole}
use Rattle.word.proofs.Words.{length_words, words_more}
use Rattle.word.proofs.put_words.Goals as goal

pub loop-i-init : goal.loop-i-init
loop-i-init c = (refl, put_whole c.args.out.now (words_out c.args.zs.now) (omega (arith, length_words c.args.zs.now)))

pub loop-i-preserved : goal.loop-i-preserved
loop-i-preserved c =
    let l = c.loop-i in
    let zs = c.args.zs.now in
    let f = c.requires.1 l.i (omega arith) in
    let w : c.put_word.new.out ≡ put_at l.out (4 * l.i) (word_bytes (get_or zs l.i (pos 0))) =
    rw (to_z-of_z (wide32 f)) at c.put_word.ensures in (
      c.put_word.auto.out ∙ l.invariant.0,
      ap (λ (o : List ℕ). put_at o (4 * (l.i + 1)) (words_out (drop (l.i + 1) zs))) w ∙ words_more l.out zs l.i (omega arith) (omega arith) ∙ l.invariant.1,
    )

pub returns : goal.returns
unfolding words_out
returns c =
    let l = c.loop-i in
    sym (put_nothing _ (4 * l.i))
    ∙ ap (λ (zs : List ℤ). put_at l.out (4 * l.i) (words_out zs)) (sym (drop_of_length-le c.args.zs.now {i = l.i} (omega arith)))
    ∙ l.invariant.1

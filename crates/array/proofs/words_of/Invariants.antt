use Rattle.std.specs.Prelude.{◌*◌, pos}
use Rattle.word.specs.Word.{word_at}
use Rattle.array.specs.Arrays.{Filled, WordsTo}
use Rattle.array.proofs.words_of.Given as goal

abbrev pub invariant-loop-i : goal.invariant-loop-i
invariant-loop-i l = Filled (pos 0) l.i (λ k. word_at l.s (4 * k)) l.r × WordsTo l.i l.r

use mathlib.Core.Path.{◌≡◌}
use Prim.Native.Nat.{◌*◌}
use lib.ListN.{length, drop}
use Rattle.word.specs.Buffer.{put_at}
use Rattle.word.specs.Word.{words_out}
use Rattle.word.proofs.put_words.Given as goal

abbrev pub invariant-loop-i : goal.invariant-loop-i
invariant-loop-i l = (length l.out ≡ length l.initial.out) × (put_at l.out (4 * l.i) (words_out (drop l.i l.zs)) ≡ words_out l.zs)

use mathlib.Core.Path.{◌≡◌}
use mathlib.Core.List.{map}
use Prim.Native.Nat.{◌*◌}
use lib.ListN.{length, drop}
use lib.IntN.{pos}
use Rattle.word.specs.Buffer.{put_at}
use Rattle.word.specs.Word.{words_out}
use Rattle.array.proofs.put_bounds.Given as goal

abbrev pub invariant-loop-i : goal.invariant-loop-i
invariant-loop-i l = (length l.out ≡ length l.initial.out) × (put_at l.out (4 * l.i) (words_out (drop l.i (map pos l.bounds))) ≡ words_out (map pos l.bounds))

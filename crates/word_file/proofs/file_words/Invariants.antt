use mathlib.Core.Path.{◌≡◌}
use Prim.Native.Nat.{◌*◌}
use lib.ListN.{length, take}
use Rattle.word_file.specs.WordFile.{file_words}
use Rattle.word_file.proofs.file_words.Given as goal

abbrev pub invariant-loop-i : goal.invariant-loop-i
invariant-loop-i l = (length l.words ≡ 64) × (take (4 * l.i) l.words ≡ file_words l.i l.file)

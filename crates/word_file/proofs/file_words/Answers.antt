-- `word_file::file_words` meets its contract. The invariant: the words passed stand in front. Assumes nothing.
use native.Mathlib.Omega.{arith}
use native.Mathlib.Numerals.{add-one}
use mathlib.Core.Path.{◌≡◌, refl, ap, ◌∙◌}
use Prim.Native.Nat.{◌+◌, ◌*◌}
use lib.ListN.{take}
use Rattle.word.specs.Buffer.{joined, put_at}
use Rattle.word.specs.Word.{bytes_of}
use Rattle.word.proofs.Words.{length_bytes}
use Rattle.word.proofs.Buffer.{front_put}
use Rattle.hexadecimal.specs.Hex.{hex_at}
use Rattle.word_file.specs.WordFile.{file_words}
use Rattle.word_file.proofs.file_words.Goals as goal

pub loop-i-init : goal.loop-i-init
unfolding joined file_words
loop-i-init c = (refl, refl)

pub loop-i-preserved : goal.loop-i-preserved
unfolding joined file_words
loop-i-preserved c =
    let file = c.args.file.now in
    let l = c.loop-i in
    let n = hex_at 8 file (8 * l.i) in
    let w : c.put_nat.new.out ≡ put_at l.words (4 * l.i) (bytes_of n) = rw c.hex_at.ensures.0 at c.put_nat.ensures in (
      c.put_nat.auto.out ∙ l.invariant.0,
      ap (take (4 * (l.i + 1))) w
          ∙ front_put l.words (file_words l.i file) (bytes_of n) (4 * l.i) (4 * (l.i + 1)) l.invariant.1 (omega (arith, length_bytes 4 n)) (omega arith)
          ∙ rw (add-one l.i),
    )

-- The sizes are small, so that their words are they. Assumes nothing.
use Rattle.std.proofs.Common.{◌≡◌, ℕ, ◌<◌, pos, w64, to_z, of_z, to_z-of_z, arith}
use lib.Seq.{sets-eq}
use mir.Facts.{to_z_pos}
use Rattle.integer.proofs.Machine.{fit_abs}
use Rattle.lines.specs.Lines.{size_words}
use Rattle.sheet.proofs.put_sizes.Goals as goal

pub returns : goal.returns
returns c =
    let z = c.args.z in
    let o = c.requires.0 in
    let e : (n : ℕ) → n < 1000 → to_z w64 n ≡ pos n = λ n h. to_z_pos w64 (omega arith) in
    let f : (n : ℕ) → n < 1000 → to_z w64 (of_z w64 (pos n)) ≡ pos n = λ n h. to_z-of_z (fit_abs (pos n) (omega arith)) in
    rw (c.from.ensures, c.from-2.ensures, e z.nu (omega arith), e z.steps (omega arith), e z.nx (omega arith), f z.b (omega arith), f z.w (omega arith), e z.sweeps (omega arith), e z.nr (omega arith))
    (sets-eq (size_words z) c.args.words.now 0 (omega (arith, c.requires.1)))

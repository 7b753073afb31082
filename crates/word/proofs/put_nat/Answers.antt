use native.Mathlib.Omega.{arith}
use mathlib.Core.Path.{◌≡◌, ◌∙◌}
use Prim.Native.Nat.{◌+◌, ◌-◌}
use Rattle.word.specs.Word.{bytes_of}
use Rattle.word.proofs.Buffer.{part_written}
use Rattle.word.proofs.Words.{bytes_written, length_bytes}
use Rattle.word.proofs.put_nat.Goals as goal

pub returns : goal.returns
returns c =
    let a = c.args in
    let e : a.at + 4 - a.at ≡ 4 = omega arith in
    let b : c.copy_from_slice.new.self ≡ bytes_of a.u = c.copy_from_slice.ensures.after ∙ c.to_be_bytes.ensures ∙ bytes_written a.u in
    rw (b, e) (part_written a.out.now a.at (bytes_of a.u) 4 (length_bytes 4 a.u))

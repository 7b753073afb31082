use Rattle.std.proofs.Common.{arith, pos, length-set, ◌∙◌, ◌<◌, length}
use Rattle.integer.proofs.Fill.{store_more}
use Rattle.integer.proofs.Machine.{back}
use Rattle.drive.specs.Parts.{MovedWord}
use Rattle.next_start.proofs.next_start.Goals as goal

pub loop-k-preserved : goal.loop-k-preserved
loop-k-preserved c =
    let a = c.args in
    let l = c.loop-k in
    let m = c.moved_at in
    let b : l.k < length l.next = omega arith in
    rw (back m.result m.type_inv) (record {
      sized = length-set l.next l.k m.result ∙ l.invariant.sized;
      each = store_more (MovedWord a.image.now.sizes a.image.now.bytes.now a.answer.now) l.next l.k m.result (pos 0) b l.invariant.each m.ensures;
    })

pub returns : goal.returns
returns c = record { sized = c.loop-k.invariant.sized; each = λ k h. c.loop-k.invariant.each k (omega arith) }

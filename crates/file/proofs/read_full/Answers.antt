use Rattle.std.proofs.Common.{rules, ◌≡◌, ℕ, ◌+◌, ◌-◌, ◌≤◌, List, ◌++◌, length, take, subst, sym, ap, ◌∙◌, length-take-le}
use Rattle.std.specs.Io.KnownBytes.{Consumes}
use Rattle.std.proofs.KnownBytes.{Consumes-trans}
use Rattle.std.proofs.Math.Seq.{take-append-add, take-append-le}
use borrow.Rule.Slice.PartMut.{put_mid, post_of}
use Rattle.file.proofs.read_full.Goals as goal

-- what a read at `from` gave follows what stood in front of it
take_more : (from room n : ℕ) (xs ys : List ℕ) → from ≤ length xs → n ≤ length ys → take (from + n) (put_mid from room xs ys) ≡ take from xs ++ take n ys
take_more from room n xs ys within fits =
    let after = post_of from room xs in
    ap (λ k. take (k + n) (take from xs ++ (ys ++ after))) (sym (length-take-le from xs within)) ∙ take-append-add (take from xs) (ys ++ after) n
    ∙ ap (λ l. take from xs ++ l) (take-append-le n ys after fits)

pub loop-done-preserved : goal.loop-done-preserved
loop-done-preserved g c =
    let joined = take_more c.loop-done.done (length c.loop-done.buffer - c.loop-done.done) c.in-Ok.n c.loop-done.buffer c.read.new.buf c.loop-done.invariant.1 c.in-Ok.ensures.bound.0 in
    (search rules, search rules, subst (Consumes _ _) (sym joined) (Consumes-trans _ _ _ _ _ c.loop-done.invariant.2 c.in-Ok.ensures.bytes.0))

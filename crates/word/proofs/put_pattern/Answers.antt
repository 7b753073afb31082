use mathlib.Core.Path.{ap, ◌∙◌}
use mathlib.Core.List.{List}
use Prim.Native.Nat.{ℕ, ◌+◌}
use Rattle.word.specs.Buffer.{put_at}
use Rattle.word.specs.Word.{bytes_of}
use Rattle.word.proofs.Words.{put_halves}
use Rattle.word.proofs.put_pattern.Goals as goal

pub returns : goal.returns
returns c =
    let a = c.before.before.before.before.before.before.before.before.before in
    c.before.before.put_nat-2.ensures
    ∙ ap (λ (o : List ℕ). put_at o (a.args.at + 4) (bytes_of a.args.n)) c.before.before.before.before.before.before.put_nat.ensures
    ∙ put_halves a.args.out.now a.args.at a.args.n a.requires

use mathlib.Core.Path.{ap, ◌∙◌}
use mathlib.Core.List.{List}
use Prim.Native.Nat.{ℕ, ◌+◌}
use lib.ListN.{set}
use Rattle.word.specs.Buffer.{put_at}
use Rattle.hexadecimal.specs.Hex.{hex_digits}
use Rattle.text.proofs.Written as written
use Rattle.text.proofs.put_line.Goals as goal

pub returns : goal.returns
returns c =
    let a = c in
    let at = a.args.at in
    let first = c.put_hex.ensures in
    let second = c.put_hex-2.ensures in
    let third = c.put_hex-3.ensures in
    let d = hex_digits a.args.digits a.args.d in
    ap (λ (o : List ℕ). set o (at + (18 + a.args.digits)) 10)
    (third
    ∙ ap (λ (o : List ℕ). put_at (set o (at + 17) 32) (at + 18) d) (second ∙ ap (λ (o : List ℕ). put_at (set o (at + 8) 32) (at + 9) (hex_digits 8 a.args.bound)) first))
    ∙ written.put_line_lem a.args.command a.args.bound a.args.digits a.args.d a.args.out.now at a.requires

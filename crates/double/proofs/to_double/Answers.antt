-- The quotient is exact. Assumes nothing.
use Rattle.std.proofs.Common.{◌≡◌, true, sym, ap, ◌∙◌, arith, to_z-of_z}
use Rattle.word.specs.Format.{in_word}
use Rattle.word.proofs.Format.{format, word_small}
use Rattle.double.proofs.Back.{quotient_exact}
use Rattle.double.proofs.to_double.Goals as goal

pub returns-clause-exact : goal.returns-clause-exact
returns-clause-exact c =
    let k = format c.args.b c.args.w (sym c.is_format.ensures ∙ c.if-not-is_format.false) in
    let z = to_z-of_z c.ranges.z in
    let i : in_word c.args.w c.args.z ≡ true = ap (in_word c.args.w) (sym z) ∙ sym c.is_word.ensures ∙ c.if-not-is_word.false in
    rw (c.quotient.ensures, z) (quotient_exact c.args.z c.args.b (omega (arith, word_small c.args.w c.args.z k.width_most i)) (omega (arith, k.fraction_most)))

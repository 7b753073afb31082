-- `rounded_word`'s answer for x * 2^b, which the machine has exactly. Assumes nothing.
use Rattle.std.proofs.Common.{◌≡◌, sym, ap, ◌∙◌, Option, ℤ}
use lib.Ieee.{Float}
use denote.Floats.{passes}
use Rattle.double.specs.Double.{rule_of, rounded_word, convert, converted_number, conversion_number}
use Rattle.double.proofs.Rules.{is_rule}
use Rattle.double.proofs.Convert.{convert_scaled, convert_unformatted, convert_number}
use Rattle.double.proofs.to_word.Goals.{Start}
use Rattle.double.proofs.to_word.Goals as goal

meets : (c : Start) (r : Option ℤ) → r ≡ convert (rule_of c.args.how) c.args.b c.args.w c.args.x
    → (r ≡ convert (rule_of c.args.how) c.args.b c.args.w c.args.x) × (converted_number r ≡ conversion_number (rule_of c.args.how) c.args.b c.args.w c.args.x)
meets c r e = (e, ap converted_number e ∙ convert_number (rule_of c.args.how) c.args.b c.args.w c.args.x)

pub returns-then-is_format : goal.returns-then-is_format
returns-then-is_format c =
    let start = (goal.at.returns-then-is_format c).Start in
    let rule = rule_of c.args.how in
    meets start c.rounded_word.result
    (c.rounded_word.ensures
    ∙ ap (λ (y : Float). rounded_word rule c.args.w y) c.scaled.ensures
    ∙ convert_scaled rule (is_rule c.args.how) c.args.b c.args.w c.args.x (sym c.is_format.ensures ∙ c.if-is_format.true) (passes _ start.well_formed.0.1))

pub returns-else-is_format : goal.returns-else-is_format
returns-else-is_format c =
    meets (goal.at.returns-else-is_format c).Start _
    (convert_unformatted (rule_of c.args.how) c.args.b c.args.w c.args.x (sym c.is_format.ensures ∙ c.if-is_format.false))

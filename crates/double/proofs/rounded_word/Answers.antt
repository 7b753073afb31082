-- Within ±2^32 the integer decides, and beyond there is no word. Assumes nothing.
use Rattle.std.proofs.Common.{◌≡◌, Bool, true, false, cond, ℤ, sym, ap, ◌∙◌, arith, w64, to_z, of_z, Some, None}
use lib.Ieee.{Float, binary64, of_bits, neg, lt}
use Rattle.integer.proofs.Machine.{back}
use Rattle.double.specs.Double.{rule_of, rounded_word}
use Rattle.word.specs.Format.{in_word}
use Rattle.double.proofs.Rules.{is_rule}
use Rattle.double.proofs.Value.{two32, small}
use Rattle.double.proofs.Convert.{rounded_answer, below_refused, above_refused}
use Rattle.double.proofs.rounded_word.Goals.{After-is_word, else-y-via-then-y+else-y-2, else-y-via-else-y}
use Rattle.double.proofs.rounded_word.Goals as goal

-- the two edges are the code's literals
above : (y : Float) {t : Bool} → lt (neg (of_bits binary64 0x41f0_0000_0000_0000)) y ≡ t → lt (two32 true) y ≡ t
unfolding of_bits neg
above y e = e

below : (y : Float) {t : Bool} → lt y (of_bits binary64 0x41f0_0000_0000_0000) ≡ t → lt y (two32 false) ≡ t
unfolding of_bits
below y e = e

module _ (c : After-is_word) where
  abbrev n : ℤ
  n = c.round_integer-n.result

  read : to_z w64 (of_z w64 n) ≡ n
  read = back n c.round_integer-n.type_inv

  answer : (r : Bool) → c.is_word.result ≡ r → cond r (Some n) None ≡ rounded_word (rule_of c.args.how) c.args.w c.args.y
  answer r e =
      rounded_answer (rule_of c.args.how) c.args.w c.args.y n r (small c.args.y (above _ c.if-y.true) (below _ c.if-y-2.true)).is_finite
      c.round_integer-n.ensures (ap (in_word c.args.w) (sym read) ∙ sym c.is_word.ensures ∙ e)

pub round_integer-n-requires : goal.round_integer-n-requires
round_integer-n-requires c = (above _ c.if-y.true, below _ c.if-y-2.true)

pub returns-then-is_word : goal.returns-then-is_word
returns-then-is_word c = ap Some (read c.before) ∙ answer c.before true c.if-is_word.true

pub returns-else-is_word : goal.returns-else-is_word
returns-else-is_word c = answer c.before false c.if-is_word.false

pub returns-else-y : goal.returns-else-y
returns-else-y c =
    elim c.else-y.branch [
      | else-y-via-then-y+else-y-2 w ↦ above_refused (rule_of c.args.how) (is_rule c.args.how) c.args.w (omega arith) c.args.y (below _ w.if-y-2.false)
      | else-y-via-else-y w ↦ below_refused (rule_of c.args.how) (is_rule c.args.how) c.args.w (omega arith) c.args.y (above _ w.if-y.false)
    ]

-- The code's literal is plus zero. Assumes nothing.
use Rattle.std.proofs.Common.{◌≡◌, refl, ◌∙◌, Result, Ok, Err}
use Rattle.std.specs.Result.{result_unwrap_or}
use lib.Ieee.{Float, binary64, of_bits}
use Rattle.refusal.specs.declared.Refusal.{Refusal}
use Rattle.double.specs.Double.{answered_value}
use Rattle.double.proofs.answered.Goals as goal

with_zero : (r : Result Float Refusal) → result_unwrap_or r (of_bits binary64 0) ≡ answered_value r
unfolding of_bits
with_zero (Ok x) = refl
with_zero (Err why) = refl

pub returns : goal.returns
returns c = c.unwrap_or.ensures ∙ with_zero c.args.answer

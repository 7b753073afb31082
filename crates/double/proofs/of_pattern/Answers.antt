use Rattle.double.proofs.Pattern.{nan_pattern, no_nan_pattern}
use Rattle.double.proofs.of_pattern.Goals as goal

pub float_from_bits-result : goal.float_from_bits-result
float_from_bits-result c = no_nan_pattern c.args.n c.if-n-gt9218868437227405312.false

pub returns-then-n-gt9218868437227405312 : goal.returns-then-n-gt9218868437227405312
returns-then-n-gt9218868437227405312 c = nan_pattern c.args.n c.if-n-gt9218868437227405312.true

use Rattle.std.proofs.Common.{to_z-of_z}
use Rattle.double.proofs.Back.{in_float_lem, quotient_is}
use Rattle.double.proofs.quotient.Goals as goal

pub int_to_float-result : goal.int_to_float-result
int_to_float-result c = rw (to_z-of_z c.ranges.z) (in_float_lem c.args.z c.requires.1)

pub returns : goal.returns
returns c =
    let start = c.before.before in
    rw (to_z-of_z start.ranges.z, c.power_of_two.ensures) (quotient_is start.args.z start.args.b start.requires.1)

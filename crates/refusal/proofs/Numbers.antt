-- The numbers of refusals. Assumes nothing.
use Rattle.std.specs.Prelude.{◌≤◌}
use Rattle.std.proofs.Common.{arith}
use Rattle.refusal.specs.declared.Refusal.{Refusal}
use Rattle.refusal.specs.declared.Refusal.TheVariants.{Malformed, Misplaced, Size, Count, Word, Length, Limits, Symmetry, Margin, Total, Momentum, Headroom, State, Start, Buffer, Target, Stop, Idle, Waiting, Sweeps, Factors}
use Rattle.refusal.specs.Number.{number}

-- no refusal has the number of an answer
pub above_zero : (why : Refusal) → 1 ≤ number why
above_zero Malformed = omega arith
above_zero Misplaced = omega arith
above_zero Size = omega arith
above_zero Count = omega arith
above_zero Word = omega arith
above_zero Length = omega arith
above_zero Limits = omega arith
above_zero Symmetry = omega arith
above_zero Margin = omega arith
above_zero Total = omega arith
above_zero Momentum = omega arith
above_zero Headroom = omega arith
above_zero State = omega arith
above_zero Start = omega arith
above_zero Buffer = omega arith
above_zero Target = omega arith
above_zero Stop = omega arith
above_zero Idle = omega arith
above_zero Waiting = omega arith
above_zero Sweeps = omega arith
above_zero Factors = omega arith

use Rattle.std.specs.Prelude.{◌≡◌}
use Rattle.drive.specs.Calls.{put_owns}
use Rattle.drive_period.proofs.put_owns.Given as goal

abbrev pub invariant-loop-k : goal.invariant-loop-k
invariant-loop-k l = l.drive ≡ put_owns l.initial.drive l.own l.k

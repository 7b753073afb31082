use Rattle.std.proofs.Common.{◌≡◌}
use Rattle.sheet.specs.Reading.{LinesRead}
use Rattle.sheet.proofs.read_sheet.Given as goal

abbrev pub invariant-loop-i : goal.invariant-loop-i
invariant-loop-i l = (l.reader.sheet.now ≡ l.s) × LinesRead l.s l.z l.i l.reader.at l.words l.lows

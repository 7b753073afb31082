-- How far a make and a new image write zeros first. It stands in a file of its own so that a must-fail edit can say another place, and what
-- then falls is a law of AllHeads. Assumes nothing.
use Prim.Native.Nat.{ℕ}
use Rattle.drive.specs.Layout.{count_place}

abbrev pub front : ℕ
front = count_place

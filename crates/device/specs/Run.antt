-- "Any run of calls", and its log: what the caller sees of them. In both the last call comes first. Assumes nothing.
use Rattle.std.specs.Prelude.{ℕ, List, [], ◌∷◌}
use Rattle.device.specs.Solver.{Solver}
use Rattle.device.specs.Device.{Device}
use Rattle.device.specs.Call.{Call, Outcome, step}

-- a call, its number, and the bytes that it wrote
pub record Event : Type 0 where
  pub call : Call
  pub number : ℕ
  pub answer : List ℕ

abbrev pub event_of : Call → Outcome → Event
event_of c o = record { call = c; number = o.number; answer = o.answer }

module _ (s : Solver) where
  -- the drive after a run
  abbrev pub after : Device → List Call → Device
  after d [] = d
  after d (c ∷ cs) = (step s (after d cs) c).next

  abbrev pub log : Device → List Call → List Event
  log d [] = []
  log d (c ∷ cs) = event_of c (step s (after d cs) c) ∷ log d cs

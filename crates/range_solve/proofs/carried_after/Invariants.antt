use Rattle.std.specs.Prelude.{◌≡◌, ℕ, List, ℤ, length}
use Rattle.image.specs.Layout.{sizes_of, problem_of}
use Rattle.interface.specs.Calls.{start_of}
use Rattle.range_interface.specs.Calls.{range_inputs_of}
use Rattle.range_solve.specs.Reached.{CarriedAt}
use Rattle.range_solve.proofs.carried_after.Given as goal

-- both ends of z and y after k iterations of the problem that a call is given
abbrev pub At : List ℕ → List ℕ → List ℕ → List ℕ → ℕ → List ℤ → List ℤ → List ℤ → List ℤ → Type 0
At image ranges target start k low-z high-z low-y high-y = CarriedAt (problem_of image) (range_inputs_of (sizes_of image) ranges target) (start_of (sizes_of image) start) k low-z high-z low-y high-y

abbrev pub invariant-loop : goal.invariant-loop
invariant-loop l = At l.image l.ranges l.target l.start l.counter l.z.low l.z.high l.y.low l.y.high × ((length l.new.low ≡ 16) × (length l.new.high ≡ 16))

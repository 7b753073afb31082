use Rattle.std.specs.Prelude.{◌≡◌, ℕ, List, ℤ, length}
use Rattle.image.specs.Layout.{sizes_of, problem_of}
use Rattle.interface.specs.Calls.{inputs_of, start_of}
use Rattle.solve.specs.Reached.{CommandsAt}
use Rattle.solve.proofs.commands_after.Given as goal

-- z and y after k iterations of the problem that a call is given
abbrev pub At : List ℕ → List ℕ → List ℕ → List ℕ → ℕ → List ℤ → List ℤ → Type 0
At image state target start k z y = CommandsAt (problem_of image) (inputs_of (sizes_of image) state target) (start_of (sizes_of image) start) k z y

abbrev pub invariant-loop : goal.invariant-loop
invariant-loop l = At l.image l.state l.target l.start l.counter l.z l.y × (length l.new ≡ 16)

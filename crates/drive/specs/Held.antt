-- The drive that bytes hold, every byte string one, and what it needs of the solve. Assumes nothing.
use Rattle.std.specs.Prelude.{ℕ, ◌*◌, cond, List, replicate}
use Rattle.std.proofs.Math.Option.{none, some}
use Rattle.gradient.specs.Index.{tab}
use Rattle.image.specs.Sizes.{command_count}
use Rattle.image.specs.Layout.{sizes_of}
use Rattle.interface.specs.Tables.{image_number}
use Rattle.interface.specs.Calls.{solve_number, solve_answer}
use Rattle.device.specs.Solver.{Solver}
use Rattle.device.specs.Device.{Head, Device}
use Rattle.drive.specs.Layout.{held_image, held_start, held_answer, held_heads, held_own, held_common}
use Rattle.drive.specs.Move.{next_start, first_length, first_commands}
use Rattle.drive.specs.Calls.{idle_at}

unfoldable pub head_of : List ℕ → ℕ → Head
head_of d k = record { start = held_start d k; waiting = cond (idle_at d k) none (some (held_answer d k)); own = held_own d k }

unfoldable pub device_of : List ℕ → Device
device_of d = record { image = held_image d; heads = tab (head_of d) (held_heads d); common = held_common d }

-- "a start, first zeros": 4n bytes, each 0
unfoldable pub zero_start : List ℕ → List ℕ
zero_start image = replicate (4 * command_count (sizes_of image)) 0

-- the definitions that the calls' promises cite
unfoldable pub solver : Solver
solver = record {
  image_number = image_number;
  solve_number = solve_number;
  solve_answer = solve_answer;
  zeros = zero_start;
  next_start = next_start;
  first_commands = first_commands;
  first_length = first_length;
  sweeps = λ image. (sizes_of image).sweeps;
}

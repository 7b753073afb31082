-- What a drive needs of a solve. Assumes nothing.
use Rattle.std.specs.Prelude.{ℕ, List}

pub record Solver : Type 0 where
  -- "an image tested as by a solve up to 12"
  pub image_number : List ℕ → ℕ
  -- of an image, a state, a target, a start and the length of the answer's buffer
  pub solve_number : List ℕ → List ℕ → List ℕ → List ℕ → ℕ → ℕ
  -- "the solve's answer": of an image, a state, a target and a start
  pub solve_answer : List ℕ → List ℕ → List ℕ → List ℕ → List ℕ
  -- "a start, first zeros": of an image
  pub zeros : List ℕ → List ℕ
  -- "moves the rest one step forward, repeats the last step, and holds each to the limits of its new step as the next start": of an image
  -- and an answer
  pub next_start : List ℕ → List ℕ → List ℕ
  -- an "answer's first nu commands", and their "4nu bytes"
  pub first_commands : List ℕ → List ℕ → List ℕ
  pub first_length : List ℕ → ℕ
  -- "an ask costs the image's sweeps"
  pub sweeps : List ℕ → ℕ

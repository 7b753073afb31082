-- The lines of the limits, worked for two motors and two steps. Assumes nothing.
use Rattle.std.specs.Prelude.{ℕ, ◌+◌, ◌≡◌, refl, [], ◌∷◌}
use Rattle.gradient.specs.Index.{tab}
use Rattle.image.specs.declared.Sizes.{Sizes}
use Rattle.frame.specs.Frame.{due, due_at, low_base}

abbrev sizes : Sizes
sizes = record { nu = 2; steps = 2; nx = 1; b = 4; w = 8; sweeps = 3; nr = 0 }

-- "steps outermost and motors within", row the motor and "the column as the step"; "all 04 still come first"
limit_lines : tab (λ (i : ℕ). due_at sizes (low_base sizes + i)) 8 ≡
    due 4 0 0
    ∷ due 4 1 0
    ∷ due 4 0 1
    ∷ due 4 1 1
    ∷ due 5 0 0
    ∷ due 5 1 0
    ∷ due 5 0 1
    ∷ due 5 1 1
    ∷ []
unfolding due_at low_base
limit_lines = refl

-- `gantry::gantry_cold_start` meets its contract. Assumes nothing.
use mathlib.Core.Path.{sym, ap, ◌∙◌}
use Prim.Native.Nat.{ℕ}
use lib.ListN.{length, replicate}
use Rattle.interface.proofs.Demand.{cold_room}
use Rattle.interface.proofs.Stop.{all_zeros}
use Rattle.gantry.proofs.gantry_cold_start.Goals as goal

pub returns-clause-bytes : goal.returns-clause-bytes
returns-clause-bytes c =
    let a = c.args in
    let room = cold_room a.image.now (length a.start.now) (sym c.in_ok-check_cold_start.ensures) in
    c.cold_start.ensures ∙ ap (λ (n : ℕ). replicate n 0) room ∙ sym (all_zeros a.image.now)

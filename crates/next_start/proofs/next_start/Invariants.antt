use Rattle.std.specs.Prelude.{ℕ, ◌≡◌, ◌<◌, pos, length, get_or}
use Rattle.drive.specs.Parts.{MovedWord}
use Rattle.next_start.proofs.next_start.Given as goal

abbrev pub invariant-loop-k : goal.invariant-loop-k
invariant-loop-k l = record { sized : length l.next ≡ 16; each : (j : ℕ) → j < l.k → MovedWord l.image.sizes l.image.bytes.now l.answer j (get_or l.next j (pos 0)) }

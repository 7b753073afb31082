-- The new error bounds are small. Assumes nothing.
use mathlib.Core.List.{List}
use native.Mathlib.Omega.{arith}
use Prim.Native.Nat.{ℕ}
use Rattle.array.specs.Arrays.{Filled, NatsTo}
use Rattle.bounds.specs.declared.BoundTerms.{BoundTerms}
use Rattle.bounds.specs.Steps.{e_at, Fitting}

pub e_nats : (magnitudes : List (List ℕ)) {t : BoundTerms} (q : List ℕ) {r : List ℕ} → Fitting t → Filled 0 t.n (e_at magnitudes t q) r → NatsTo t.n r
unfolding e_at
e_nats magnitudes q f r i h = rw (r.each i h) (omega (arith, f.widths i h))

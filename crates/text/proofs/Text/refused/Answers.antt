use native.Mathlib.Omega.{arith}
use Prim.Native.Nat.{ℕ}
use mathlib.Core.Path.{ap, ◌∙◌}
use lib.ListN.{take}
use Rattle.std.proofs.lemmas.List.{length-replicate, length-take}
use Rattle.text.proofs.Written.{front_refusal}
use Rattle.text.proofs.Text.refused.Goals as goal

pub returns-clause-text : goal.returns-clause-text
returns-clause-text g c = ap (take 11) c.put_refusal.ensures ∙ front_refusal _ c.args.number (rw (length-replicate {A = ℕ} g.row.N 0) c.requires)

pub returns-clause-room : goal.returns-clause-room
returns-clause-room g c = omega (arith, length-take 11 c.put_refusal.new.out, c.requires)

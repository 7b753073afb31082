use mathlib.Core.Path.{◌≡◌, ap, ◌∙◌}
use Prim.Native.Nat.{ℕ, ◌+◌, ◌-◌}
use Rattle.std.proofs.Common.{rules, arith}
use Rattle.std.proofs.lemmas.Iterator.{YieldsList-from_slice}
use Rattle.std.proofs.lemmas.Iterator.Search.{all_from_yields_List}
use borrow.Author.Tests.{tests}
use lib.ListN.{take, drop}
use Rattle.hexadecimal.specs.Hex.{is_hex}
use Rattle.hexadecimal.proofs.Hex.{list_all_hex}
use Rattle.hexadecimal.proofs.all_hex.Goals as goal

pub returns : goal.returns
returns c =
    let a = c.args in
    let e : a.at + a.k - a.at ≡ a.k = omega arith in
    all_from_yields_List is_hex _ _ c.all.result c.all.ensures.ran (YieldsList-from_slice (take a.k (drop a.at a.s.now)) (c.iter.ensures.rest ∙ ap (λ (n : ℕ). take n (drop a.at a.s.now)) e)) (λ x b q k. search (rules, tests)) ∙ list_all_hex a.k a.s.now a.at (omega arith)

use Rattle.std.proofs.Common.{rules, ◌≡◌, ◌<◌, ◌^◌, ◌∙◌, ℤ, of_z, w64, Bool, eqb}
use lib.Signed.{mag}
use borrow.Author.Tests.{tests}
use Rattle.gradient.proofs.Chain.{all_of_range}
use Rattle.image.specs.Layout.{cost_at}
use Rattle.interface.specs.Tables.{eq_z, symmetry_test}
use Rattle.dominance.proofs.is_symmetric.Goals as goal

-- what `==` says of two words
equal : (a c x y : ℤ) (t : Bool) → t ≡ eqb (of_z w64 a) (of_z w64 c) → a ≡ x → c ≡ y → mag a < 2 ^ 63 → mag c < 2 ^ 63 → t ≡ eq_z x y
equal a c x y t e p q f g = e ∙ same ∙ (λ i. eq_z (p i) (q i))
  where
    same : eqb (of_z w64 a) (of_z w64 c) ≡ eq_z a c
    same = search (rules, tests)

pub returns : goal.returns
unfolding symmetry_test
returns c =
    let a = c.args in
    all_of_range (λ j. eq_z (cost_at a.image.now.sizes a.image.now.bytes.now a.i j) (cost_at a.image.now.sizes a.image.now.bytes.now j a.i)) c.command_count.ensures c.all.ensures.ran (λ j t f k. (search rules, search (equal, k.met.0)))

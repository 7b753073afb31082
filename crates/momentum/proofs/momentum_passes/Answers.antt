use Rattle.std.proofs.Common.{arith, ◌≡◌, ◌^◌, pos, ◌+ℤ◌, ◌-ℤ◌, to_z, of_z, w64}
use Rattle.integer.proofs.Machine.{back}
use Rattle.image.specs.Layout.{momentum_at}
use Rattle.std.proofs.lemmas.Int.{ints}
use Rattle.interface.specs.Tables.{least_margin, largest_total, momentum_ratio}
use Rattle.momentum.proofs.Ratio.{momentum_most, least_most, largest_most}
use Rattle.momentum.proofs.momentum_passes.Goals as goal

pub squared-requires : goal.squared-requires
squared-requires c =
    let a = c.args in
    (omega (arith, ints, momentum_most a.image.now.sizes a.image.now.bytes.now a.x c.requires, c.power-f.ensures, c.momentum-m.ensures), omega (arith, ints, largest_most a.image.now.sizes a.image.now.bytes.now a.x c.requires))

pub squared-requires-2 : goal.squared-requires-2
squared-requires-2 c =
    let a = c.args in
    (omega (arith, ints, momentum_most a.image.now.sizes a.image.now.bytes.now a.x c.requires, c.power-f.ensures, c.momentum-m.ensures), omega (arith, ints, least_most a.image.now.sizes a.image.now.bytes.now a.x c.requires))

pub returns : goal.returns
unfolding momentum_ratio
returns c =
    let a = c.args in
    let p = c.squared in
    let q = c.squared-2 in
    let f = c.power-f in
    let m = c.momentum-m in
    let most = momentum_most a.image.now.sizes a.image.now.bytes.now a.x c.requires in
    let less : to_z w64 (of_z w64 (to_z w64 (of_z w64 f.result) -ℤ to_z w64 (of_z w64 m.result))) ≡ pos (2 ^ a.image.now.sizes.b) -ℤ momentum_at a.image.now.sizes a.image.now.bytes.now = omega (arith, ints, most, f.ensures, m.ensures) in
    let more : to_z w64 (of_z w64 (to_z w64 (of_z w64 f.result) +ℤ to_z w64 (of_z w64 m.result))) ≡ pos (2 ^ a.image.now.sizes.b) +ℤ momentum_at a.image.now.sizes a.image.now.bytes.now = omega (arith, ints, most, f.ensures, m.ensures) in
    let total : to_z w64 (of_z w64 a.x.total) ≡ largest_total a.image.now.sizes a.image.now.bytes.now = omega (arith, ints, largest_most a.image.now.sizes a.image.now.bytes.now a.x c.requires, c.requires.largest) in
    let margin : to_z w64 (of_z w64 a.x.margin) ≡ least_margin a.image.now.sizes a.image.now.bytes.now = omega (arith, ints, least_most a.image.now.sizes a.image.now.bytes.now a.x c.requires, c.requires.least) in
    cc (back p.result p.type_inv, back q.result q.type_inv)

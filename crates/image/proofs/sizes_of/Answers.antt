use Rattle.image.specs.Layout.{sizes_of}
use Rattle.image.proofs.sizes_of.Goals as goal

pub returns : goal.returns
unfolding sizes_of
returns c =
    rw (
      c.nat_at.ensures.0,
      c.nat_at-2.ensures.0,
      c.nat_at-3.ensures.0,
      c.nat_at-4.ensures.0,
      c.nat_at-5.ensures.0,
      c.nat_at-6.ensures.0,
      c.nat_at-7.ensures.0,
    )

-- What check 11 is tested after. Assumes nothing.
use Rattle.std.specs.Prelude.{ℕ, ◌≡◌, true, List}
use Rattle.gradient.specs.Index.{all_to}
use Rattle.image.specs.declared.Sizes.{Sizes}
use Rattle.image.specs.Sizes.{Whole, command_count}
use Rattle.interface.specs.Tables.{margin_test, total_test, least_margin, largest_total, momentum_range}
use Rattle.momentum.specs.declared.Extremes.{Extremes}

-- x are the least margin and the largest total; the products of check 11 fit once the range of β is tested and 9 and 10 have passed
pub record MomentumReady (z : Sizes) (s : List ℕ) (x : Extremes) : Type 0 where
  pub whole : Whole z s
  pub least : x.margin ≡ least_margin z s
  pub largest : x.total ≡ largest_total z s
  pub range : momentum_range z s ≡ true
  pub margins : all_to (margin_test z s) (command_count z) ≡ true
  pub totals : all_to (total_test z s) (command_count z) ≡ true

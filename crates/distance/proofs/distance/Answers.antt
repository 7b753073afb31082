use Rattle.std.proofs.Common.{arith, ℕ, ◌≡◌, ◌∙◌, ap, nat_abs}
use Rattle.integer.specs.Round.{ceil}
use Rattle.image.specs.declared.Sizes.{Sizes}
use Rattle.image.specs.Layout.{sizes_of, problem_of}
use Rattle.interface.specs.Tables.{least_margin, margin_of}
use Rattle.interface.specs.Calls.{inputs_of}
use Rattle.interface.proofs.Dominance.{margin_count}
use Rattle.optimum.specs.Optimum.{residual, optimum_bound}
use Rattle.distance.specs.Tables.{ResidualTermsOf}
use Rattle.distance.proofs.Agree.{zs, loadable, image_ready, image_residual, residual_small}
use Rattle.distance.proofs.distance.Goals.{After-margin, After-residual_terms-t, Start}
use Rattle.distance.proofs.distance.Goals as goal

-- the terms are those of the bytes
terms-are : (c : After-residual_terms-t) → ResidualTermsOf c.of-whole.result.sizes c.args.image.now c.args.state.now c.args.target.now c.residual_terms-t.result
terms-are c = rw c.of-whole.ensures.0 at c.residual_terms-t.ensures

-- R and m
module _ (c : After-margin) where
  abbrev a : Start
  a = (goal.at.After-margin c).Start

  residual-is : c.residual-r.result ≡ residual (problem_of a.args.image.now) (inputs_of (sizes_of a.args.image.now) a.args.state.now a.args.target.now) (zs a.requires.0)
  residual-is = c.residual-r.ensures ∙ image_residual a.requires.0 c.of-whole.ensures.1 (terms-are (goal.at.After-margin c).After-residual_terms-t)

  margin-is : c.margin.result ≡ margin_of a.args.image.now
  unfolding margin_of
  margin-is = (rw c.of-whole.ensures.0 at c.margin.ensures.0) ∙ ap (λ (s : Sizes). nat_abs (least_margin s a.args.image.now)) c.of-whole.ensures.1

pub residual_terms-t-requires : goal.residual_terms-t-requires
residual_terms-t-requires c = rw c.of-whole.ensures.0 (loadable c.requires.0 c.of-whole.ensures.1)

pub residual-r-requires : goal.residual-r-requires
residual-r-requires c = image_ready c.requires.0 c.of-whole.ensures.1 (terms-are (goal.at.residual-r-requires c).After-residual_terms-t)

pub ceil_by-requires : goal.ceil_by-requires
ceil_by-requires c =
    (omega (arith, residual-is c, residual_small (a c).requires.0), (omega (arith, margin-is c, margin_count (a c).args.image.now (a c).requires.1), c.margin.ensures.1))

pub returns : goal.returns
unfolding optimum_bound
returns c = let d = c in c.ceil_by.ensures ∙ ap (λ (r : ℕ). ceil r d.margin.result) (residual-is (goal.at.returns c).After-margin) ∙ ap (ceil _) (margin-is (goal.at.returns c).After-margin)

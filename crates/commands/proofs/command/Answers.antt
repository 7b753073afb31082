use native.Mathlib.Omega.{arith}
use mathlib.Core.Path.{◌≡◌, ap, ◌∙◌}
use Prim.Native.Nat.{◌^◌, ◌≤◌}
use lib.IntN.{ℤ, nat_abs, ◌-ℤ◌}
use mir.Syntax.{w64}
use mir.Val.{to_z, of_z, SFits}
use mir.Facts.{to_z-of_z}
use Rattle.integer.specs.Round.{floor, clamp}
use Rattle.integer.proofs.Laws.{abs_sub}
use Rattle.integer.proofs.Machine.{back, fit_abs}
use Rattle.commands.proofs.Small.{divided_size}
use Rattle.commands.proofs.command.Goals.{After-floor_div, Start}
use Rattle.commands.proofs.command.Goals as goal

-- the quotient, less the linear term
module _ (c : After-floor_div) where
  abbrev a : Start
  a = (goal.at.After-floor_div c).Start

  abbrev x : ℤ
  x = c.floor_div.result

  abbrev h : ℤ
  h = a.args.linear

  fh : SFits w64 h
  fh = fit_abs h (omega (arith, a.requires.0.1))

  divided : x ≡ floor a.args.sum (2 ^ a.args.b)
  divided = rw (to_z-of_z (fit_abs a.args.sum a.requires.0.0)) at c.floor_div.ensures

  x-small : nat_abs x ≤ 2 ^ 59
  x-small = rw divided (divided_size a.args.sum a.args.b a.requires.0.0 a.requires.1.0)

  whole : SFits w64 (x -ℤ h)
  whole = fit_abs (x -ℤ h) (omega (arith, abs_sub x h, a.requires.0.1, x-small))

pub overflow_sub-floor_div : goal.overflow_sub-floor_div
overflow_sub-floor_div c = rw (back (x c) c.floor_div.type_inv, to_z-of_z (fh c)) (whole c)

pub returns : goal.returns
returns c =
    let d = c in
    let held : c.clamp.result ≡ clamp (to_z w64 (of_z w64 (a (goal.at.returns c).After-floor_div).args.lower)) (to_z w64 (of_z w64 (a (goal.at.returns c).After-floor_div).args.upper)) (to_z w64 (of_z w64 (to_z w64 (of_z w64 (x (goal.at.returns c).After-floor_div)) -ℤ to_z w64 (of_z w64 (h (goal.at.returns c).After-floor_div))))) =
    c.clamp.ensures in
    back c.clamp.result c.clamp.type_inv
    ∙ (rw (to_z-of_z (a (goal.at.returns c).After-floor_div).ranges.lower, to_z-of_z (a (goal.at.returns c).After-floor_div).ranges.upper, back (x (goal.at.returns c).After-floor_div) d.floor_div.type_inv, to_z-of_z (fh (goal.at.returns c).After-floor_div), to_z-of_z (whole (goal.at.returns c).After-floor_div)) at held)
    ∙ ap (λ (q : ℤ). clamp (a (goal.at.returns c).After-floor_div).args.lower (a (goal.at.returns c).After-floor_div).args.upper (q -ℤ h (goal.at.returns c).After-floor_div)) (divided (goal.at.returns c).After-floor_div)

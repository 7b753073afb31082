use Rattle.std.proofs.Common.{◌≡◌, ◌*◌, length, take}
use Rattle.word.specs.Buffer.{joined}
use Rattle.frame.specs.Frame.{total}
use Rattle.design_page.specs.Page.{page_line}
use Rattle.design_page.proofs.put_numbers.Given as goal

-- the lines of the numbers passed stand in front
abbrev pub invariant-loop-i : goal.invariant-loop-i
invariant-loop-i l = (length l.page ≡ 44 * total l.z) × (take (44 * l.i) l.page ≡ joined (page_line l.z l.s) l.i)

-- Each test that fails leads to its case. Assumes nothing.
use Rattle.std.proofs.Common.{◌∙◌, sym, arith}
use Rattle.line.proofs.Laws.{told, no_line, no_frame, a_frame, cut_frame}
use Rattle.line.proofs.line_at.Goals as goal

pub returns-then-s-at : goal.returns-then-s-at
returns-then-s-at c = told c.args.s.now c.args.at (no_line c.args.s.now c.args.at c.if-s-at.true)

pub returns-then-s-at-lt23 : goal.returns-then-s-at-lt23
returns-then-s-at-lt23 c = told c.args.s.now c.args.at (no_frame c.args.s.now c.args.at c.if-s-at.false (cut_frame c.args.s.now c.args.at (omega arith)))

pub returns-then-not-is_frame : goal.returns-then-not-is_frame
returns-then-not-is_frame c = told c.args.s.now c.args.at (no_frame c.args.s.now c.args.at c.if-s-at.false (sym c.is_frame.ensures ∙ c.if-not-is_frame.true))

pub returns : goal.returns
returns c =
    told c.args.s.now c.args.at
    (a_frame c.args.s.now c.args.at (omega arith) (sym c.is_frame.ensures ∙ c.if-not-is_frame.false)
    c.hex_at.ensures.0 c.hex_at-2.ensures.0 c.hex_at-3.ensures.0 c.hex_at-4.ensures.0)

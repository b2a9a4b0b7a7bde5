use Rattle.std.proofs.Common.{◌≡◌, ◌∙◌, sym, true, false}
use Rattle.vd_outline.specs.Lines.{is_line, is_end}
use Rattle.vd_outline.proofs.BodyLaws.{ended, line_read}
use Rattle.vd_outline.proofs.body.body_end.Goals as goal

pub returns-then-is : goal.returns-then-is
returns-then-is c =
    let ends : is_end c.in-Some.line.now ≡ true = sym c.is.ensures ∙ c.if-is.true in
    ended c.args.bytes.now c.loop-line.rest.now c.in-Some.line.now c.in-Some.after.now c.loop-line.invariant c.in-Some.ensures.0 ends

pub loop-line-preserved : goal.loop-line-preserved
loop-line-preserved c =
    let other : is_end c.in-Some.line.now ≡ false = sym c.is.ensures ∙ c.if-is.false in
    let printable : is_line c.in-Some.line.now ≡ true = sym c.is_line.ensures ∙ c.if-not-is_line.false in
    line_read c.args.bytes.now c.loop-line.rest.now c.in-Some.line.now c.in-Some.after.now c.loop-line.invariant c.in-Some.ensures.0 printable other

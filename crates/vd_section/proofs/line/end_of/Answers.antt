use Rattle.std.proofs.Common.{◌≡◌, false, ◌&&◌, rules, sym, ◌∙◌}
use Rattle.vd_section.specs.EndLine.{begins_end}
use Rattle.vd_section.proofs.Lines.{and_first, and_second, seeks_next}
use Rattle.vd_section.proofs.line.end_of.Goals.{else-starts-via-then-starts+else-begins_end, else-starts-via-else-starts}
use Rattle.vd_section.proofs.line.end_of.Goals as goal

pub bytes-preserved : goal.bytes-preserved
bytes-preserved c =
    let test : (c.bytes.starts && begins_end c.bytes.left.now) ≡ false = elim c.else-starts.branch [
      | else-starts-via-then-starts+else-begins_end w ↦ and_second _ _ (sym w.begins_end.ensures.test ∙ w.if-begins_end.false)
      | else-starts-via-else-starts w ↦ and_first _ _ w.if-starts.false
    ] in
    (seeks_next c.args.body.now c.bytes.n 0 c.bytes.starts c.bytes.left.now c.split_at.result.1.now c.bytes.invariant.0 test c.split_at.ensures.back, search rules)

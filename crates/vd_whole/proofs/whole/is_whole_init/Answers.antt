use Rattle.std.proofs.Common.{ap, sym, ◌∙◌}
use Rattle.vd_clight.specs.Whole.{has_global, is_whole_init}
use Rattle.vd_whole.proofs.whole.is_whole_init.Goals as goal

pub returns-in-Addr : goal.returns-in-Addr
returns-in-Addr c = let p = c.args.names.now.program.now in c.has_global.ensures ∙ (ap (has_global p) c.as_bytes.ensures.value ∙ sym (ap (is_whole_init p) c.in-Addr.is))

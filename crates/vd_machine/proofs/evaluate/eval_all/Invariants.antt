use Rattle.std.proofs.Common.{◌≡◌, drop}
use Rattle.vd_machine.specs.Evaluation.{eval_all}
use Rattle.vd_machine.specs.Results.{onto}
use Rattle.vd_machine.proofs.evaluate.eval_all.Given as goal

abbrev pub invariant-loop-argument : goal.invariant-loop-argument
invariant-loop-argument l = eval_all l.globals l.temps l.arguments ≡ onto l.values.items (eval_all l.globals l.temps (drop l.argument-index l.arguments))

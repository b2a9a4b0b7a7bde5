use Rattle.std.proofs.Common.{◌≡◌}
use Rattle.vd_cgrammar.specs.Syntax as syntax
use Rattle.vd_cgrammar.proofs.made.behind.Given as goal

abbrev pub invariant-postfixes : goal.invariant-postfixes
invariant-postfixes l = syntax.behind l.place l.node l.postfix-iterator.rest.items ≡ syntax.behind l.place l.initial.node l.fn.postfixes

use Rattle.std.proofs.Common.{rules, ◌≡◌, List, [], ◌∷◌, Option, Some, sym, subst}
use Rattle.atomic_table.specs.Table.{opening}
use Rattle.vd_gate.specs.Rule.{MeetsRule}
use Rattle.vd_gate.specs.Views.{new_view}
use Rattle.vd_gate.proofs.Ends.{rule_of_new_table}
use Rattle.vd_gate.proofs.gate.Gate.new.Goals as goal

pub new-requires : goal.new-requires
new-requires g c =
    let e : c.push.new.self.items ≡ Some c.args.state ∷ [] = search rules in
    subst (λ (l : List (Option g.row.S.Denot)). MeetsRule g.S.Story.stands c.args.base (opening (0 ∷ 0 ∷ 1 ∷ []) l (new_view c.args.base 0 [] 1))) (sym e) (rule_of_new_table g.S.Story.stands c.args.base c.args.state c.requires)

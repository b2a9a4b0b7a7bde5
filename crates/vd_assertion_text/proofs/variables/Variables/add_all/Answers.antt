use Rattle.std.proofs.Common.{ℕ, List, sym, ap, subst, ◌++◌, ◌∙◌}
use Rattle.std.proofs.lemmas.List.{append-nil, take_all}
use Rattle.vd_logic.specs.declared.term.Sort.{Sort}
use Rattle.vd_assertion_text.specs.Lookup.{Stands}
use Rattle.vd_assertion_text.proofs.Declaring.{stands_more}
use Rattle.vd_assertion_text.proofs.variables.Variables.add_all.Goals as goal

pub names-init : goal.names-init
names-init c = λ before h. subst (Stands c.args.self.now) (sym (append-nil before)) h

pub names-preserved : goal.names-preserved
names-preserved c = λ before h. stands_more c.names.self c.add.new.self before c.args.names.now c.names.name-index c.name-item.result c.as_bytes.result.now c.name-item.result.1 c.names-test.true
    (c.as_bytes.ensures.value ∙ ap (λ (d : List ℕ × Sort). d.0) c.name-item.is) (ap (λ (d : List ℕ × Sort). d.1) c.name-item.is) (c.names.invariant before h)
    c.in_ok-add.ensures.names c.in_ok-add.ensures.count c.in_ok-add.ensures.hides

pub returns : goal.returns
returns c = λ before h. subst (λ x. Stands c.names.self (before ++ x)) (take_all c.names.name-index c.args.names.now c.names-test.false) (c.names.invariant before h)

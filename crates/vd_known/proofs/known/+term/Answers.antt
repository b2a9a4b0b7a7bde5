use Rattle.std.proofs.Common.{◌≡◌, ◌<◌, ◌≤◌, length, get_or, sym, ◌∙◌, ap, subst, rules}
use Rattle.std.specs.List.{list_all}
use Rattle.vd_known.specs.Known.{is_met, term_needs}
use Rattle.vd_known.proofs.Needs.{term-Num, term-Var, term-Named, term-Global, term-App, met_one, all_more, all_fails, all_end}
use Rattle.vd_known.proofs.known.+term.Goals as goal

pub knows_term-returns-in-Num : goal.knows_term-returns-in-Num
knows_term-returns-in-Num t c = sym (ap (λ x. list_all (is_met c.args.view.now) (term_needs x)) c.in-Num.is ∙ ap (list_all (is_met c.args.view.now)) (term-Num c.in-Num.field-0))

pub knows_term-returns-in-Var : goal.knows_term-returns-in-Var
knows_term-returns-in-Var t c = sym (ap (λ x. list_all (is_met c.args.view.now) (term_needs x)) c.in-Var.is ∙ ap (list_all (is_met c.args.view.now)) (term-Var c.in-Var.field-0 c.in-Var.field-1))

pub knows_term-returns-in-Named : goal.knows_term-returns-in-Named
unfolding is_met
knows_term-returns-in-Named t c = sym (ap (λ x. list_all (is_met c.args.view.now) (term_needs x)) c.in-Named.is ∙ ap (list_all (is_met c.args.view.now)) (term-Named c.in-Named.field-0))

pub knows_term-returns-in-Global : goal.knows_term-returns-in-Global
knows_term-returns-in-Global t c = c.knows.ensures ∙ (met_one (is_met c.args.view.now) _ ∙ sym (ap (λ x. list_all (is_met c.args.view.now) (term_needs x)) c.in-Global.is ∙ ap (list_all (is_met c.args.view.now)) (term-Global c.in-Global.name)))

pub knows_term-returns-in-App : goal.knows_term-returns-in-App
knows_term-returns-in-App t c = c.knows_terms.ensures ∙ sym (ap (λ x. list_all (is_met c.args.view.now) (term_needs x)) c.in-App.is ∙ ap (list_all (is_met c.args.view.now)) (term-App c.in-App.field-0 c.in-App.args))

pub knows_terms-loop-term-preserved : goal.knows_terms-loop-term-preserved
knows_terms-loop-term-preserved t c =
    let same = c.as_slice-term-items.ensures in
    all_more (is_met c.args.view.now) term_needs c.args.terms.now c.loop-term.term-index c.term-item.result (subst (λ xs. c.loop-term.term-index < length xs) same c.loop-term-test.true)
    (subst (λ xs. c.term-item.result ≡ get_or xs c.loop-term.term-index c.term-item.result) same c.term-item.is) (sym c.knows_term.ensures ∙ (search rules)) c.loop-term.invariant

pub knows_terms-returns : goal.knows_terms-returns
knows_terms-returns t c = all_end (is_met c.args.view.now) term_needs c.args.terms.now c.loop-term.term-index (subst (λ xs. length xs ≤ c.loop-term.term-index) c.as_slice-term-items.ensures c.loop-term-test.false) c.loop-term.invariant

pub knows_terms-returns-then-not-knows_term : goal.knows_terms-returns-then-not-knows_term
knows_terms-returns-then-not-knows_term t c =
    let same = c.as_slice-term-items.ensures in
    all_fails (is_met c.args.view.now) term_needs c.args.terms.now c.loop-term.term-index c.term-item.result (subst (λ xs. c.loop-term.term-index < length xs) same c.loop-term-test.true)
    (subst (λ xs. c.term-item.result ≡ get_or xs c.loop-term.term-index c.term-item.result) same c.term-item.is) (sym c.knows_term.ensures ∙ (search rules))

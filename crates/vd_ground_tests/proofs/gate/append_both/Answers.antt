use Rattle.std.proofs.Common.{rules, arith, ◌≡◌, ℕ, zero, suc, ◌<◌, List, [], ◌∷◌, sym, ◌∙◌, subst}
use Rattle.std.specs.List.{Contains}
use Rattle.std.proofs.lemmas.List.Elements.{Contains-append_right}
use Rattle.vd_gate.specs.declared.pass.GatePass.{GatePass}
use Rattle.vd_ground_tests.specs.declared.gate.Tape.{Tape}
use Rattle.vd_gate.specs.Passes.{number_of, made_of, mine_of, IsFree, TakesOver}
use Rattle.vd_gate.specs.Gates.{AreAllPasses}
use Rattle.vd_gate.proofs.AllPasses.{own_list, all_in_one}
use Rattle.vd_ground_tests.proofs.gate.append_both.Goals as goal

-- a pass of number 0 that took over number 1 has a list for both
both_lists : (p o q : GatePass Tape ℕ) → IsFree o → IsFree q → number_of q ≡ 0 → number_of o ≡ 1 → TakesOver p o q → (n : ℕ) → n < 2 → (es : List ℕ) × Contains (mine_of q) (n, es)
both_lists p o q other free zeroth first t zero lt = own_list q 0 free zeroth
both_lists p o q other free zeroth first t (suc m) lt =
    let own = own_list o (suc m) other (first ∙ omega (arith, lt)) in
    (own.0, subst (λ (l : List (ℕ × List ℕ)). Contains l (suc m, own.0)) (sym t.mine) (Contains-append_right (mine_of p) (mine_of o) (suc m, own.0) own.1))

pub close-items-requires : goal.close-items-requires
close-items-requires g c =
    let pass = c.join.new.pass in
    let one = c.join-one.ensures.first in
    let two = c.join-one.ensures.second in
    let is : c.push.new.self.items ≡ pass ∷ [] = search rules in
    let kept = c.join.ensures.pass in
    let taken = c.join.ensures.taken in
    let zeroth : number_of pass ≡ 0 = taken.number ∙ one.2 in
    let made : made_of pass ≡ 2 = taken.made ∙ one.3 in
    subst (λ (l : List (GatePass Tape ℕ)). AreAllPasses c.in_ok-gate.gate l) (sym is)
    (all_in_one c.in_ok-gate.gate pass kept.0 kept.1 zeroth (λ n lt. both_lists _ _ pass two.1 kept.1 zeroth two.2 taken n (subst (λ (m : ℕ). n < m) made lt)))

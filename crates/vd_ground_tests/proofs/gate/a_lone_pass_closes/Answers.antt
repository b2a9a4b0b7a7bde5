use Rattle.std.proofs.Common.{rules, arith, ◌≡◌, ℕ, ◌<◌, List, [], ◌∷◌, sym, subst}
use Rattle.vd_gate.specs.declared.pass.GatePass.{GatePass}
use Rattle.vd_ground_tests.specs.declared.gate.Tape.{Tape}
use Rattle.vd_gate.specs.Passes.{number_of, made_of}
use Rattle.vd_gate.specs.Gates.{AreAllPasses}
use Rattle.vd_gate.proofs.AllPasses.{own_list, all_in_one}
use Rattle.vd_ground_tests.proofs.gate.a_lone_pass_closes.Goals as goal

pub close-items-requires : goal.close-items-requires
close-items-requires g c =
    let pass = c.append-2.new.pass in
    let is : c.push.new.self.items ≡ pass ∷ [] = search rules in
    let kept = c.append-2.ensures.pass in
    let zeroth : number_of pass ≡ 0 = search rules in
    let one : made_of pass ≡ 1 = search rules in
    subst (λ (l : List (GatePass Tape ℕ)). AreAllPasses c.in_ok-gate.gate l) (sym is)
    (all_in_one c.in_ok-gate.gate pass kept.0 kept.1 zeroth (λ n lt. own_list pass n kept.1 (let below : n < 1 = subst (λ (m : ℕ). n < m) one lt in omega (arith, zeroth, below))))

use Rattle.std.proofs.Common.{◌≡◌, ◌↔◌, ◌<◌, ℕ, true, length, subst, arith}
use Rattle.vd_heads.specs.Closure.{Reaches}
use Rattle.vd_heads.specs.Views.{is_marked}
use Rattle.vd_scopes.specs.declared.scope.Scopes.{Scopes}
use Rattle.vd_scopes.proofs.Adding.{so_far_begun, so_far_more, scopes_all}
use Rattle.vd_scopes.proofs.scope.scopes_of.Goals as goal

pub loop-number-init : goal.loop-number-init
loop-number-init c =
    let first : Scopes = record { c = record { structs = c.in_ok-structs.structs; globals = c.new.result; fns = c.new-2.result }; logic = record { preds = c.new-3.result; specs = c.new-4.result } } in
    so_far_begun c.args.view.now.parts.now first c.new.ensures c.new-2.ensures c.new-3.ensures c.new-4.ensures

pub loop-number-preserved : goal.loop-number-preserved
loop-number-preserved c =
    let first : Scopes = record { c = record { structs = c.in_ok-structs.structs; globals = c.new.result; fns = c.new-2.result }; logic = record { preds = c.new-3.result; specs = c.new-4.result } } in
    let ps = c.args.view.now.parts.now in
    let marks = c.args.view.now.closure.items in
    let P : ℕ → Type 0 = λ own. (k : ℕ) → (is_marked marks k ≡ true) ↔ ((k < length ps) × Reaches ps own k) in
    so_far_more ps marks (subst P c.requires.own c.requires.view.closure) c.loop-number.number c.part-item.result first c.loop-number.scopes c.put_part.new.scopes (omega arith) c.part-item.is c.loop-number.invariant
    c.in_ok-put_part.ensures

pub returns : goal.returns
returns c =
    let first : Scopes = record { c = record { structs = c.in_ok-structs.structs; globals = c.new.result; fns = c.new-2.result }; logic = record { preds = c.new-3.result; specs = c.new-4.result } } in
    scopes_all c.args.view.now.parts.now c.loop-number.number first c.loop-number.scopes c.loop-number-test.false c.in_ok-structs.ensures c.loop-number.invariant

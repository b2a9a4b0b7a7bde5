use Rattle.std.proofs.Common.{◌≡◌, false, true, ◌&&◌, sym, ◌∙◌, ap, ap₂, subst, refl}
use Rattle.std.specs.List.{list_all}
use Rattle.std.specs.BTreeMap.{values}
use Rattle.vd_mem.specs.Memory.{is_freeable, is_data}
use Rattle.vd_mem.proofs.Blocks.{freeable_is}
use Rattle.vd_mem.proofs.block.Kept.free.Goals as goal

pub returns-then-not-are_data-clause-answer : goal.returns-then-not-are_data-clause-answer
returns-then-not-are_data-clause-answer c =
    let i = c.self.inside in
    let e : (i.live && (i.heap && list_all is_data (values i.written))) ≡ false =
    ap₂ (λ a b. a && b) c.if-not-self.false (ap₂ (λ a b. a && b) c.if-not-self-2.false (sym c.are_data.ensures.value ∙ c.if-not-are_data.true)) in
    sym e ∙ sym (freeable_is i.size i.fill i.live i.heap i.written c.self.invariant c.are_data.ensures.ordered) ∙ ap (λ x. is_freeable x) c.self.view_is

pub returns-clause-answer : goal.returns-clause-answer
returns-clause-answer c =
    let i = c.self.inside in
    let e : (i.live && (i.heap && list_all is_data (values i.written))) ≡ true =
    ap₂ (λ a b. a && b) c.if-not-self.false (ap₂ (λ a b. a && b) c.if-not-self-2.false (sym c.are_data.ensures.value ∙ c.if-not-are_data.false)) in
    sym e ∙ sym (freeable_is i.size i.fill i.live i.heap i.written c.self.invariant c.are_data.ensures.ordered) ∙ ap (λ x. is_freeable x) c.self.view_is

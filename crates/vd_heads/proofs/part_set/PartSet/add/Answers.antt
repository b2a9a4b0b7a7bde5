use Rattle.std.proofs.Common.{refl, sym, ◌∙◌, arith, false}
use Rattle.std.proofs.lemmas.List.{get_or_read}
use Rattle.vd_heads.proofs.Sets.{adds_new, marked_at}
use Rattle.vd_heads.proofs.part_set.PartSet.add.Goals as goal

pub returns : goal.returns
returns c =
    let marks = c.args.self.now.marks.items in
    let n = c.args.number in
    adds_new c.args.self.now _ n (omega arith) (marked_at marks n ∙ (sym (get_or_read marks n _ (omega arith) c.index.ensures false) ∙ c.if-index.false)) refl c.in_ok-push.ensures.items c.requires

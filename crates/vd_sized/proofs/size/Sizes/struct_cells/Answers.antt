use Rattle.std.proofs.Common.{◌≡◌, [], ◌∷◌, refl, sym, ap, ◌∙◌, true, false}
use Rattle.vd_heads.specs.Held.{held}
use Rattle.vd_sized.specs.Cells as cells
use Rattle.vd_sized.specs.Sizes.{kept}
use Rattle.vd_sized.proofs.Shapes.{held_Struct}
use Rattle.vd_sized.proofs.Settling.{of_kept}
use Rattle.vd_sized.proofs.size.Sizes.struct_cells.Goals as goal

no : false ≡ true → ⊥
no e = cc

pub returns-in_ok-copy-in-Some : goal.returns-in_ok-copy-in-Some
returns-in_ok-copy-in-Some c =
    of_kept c.args.view.now c.args.self.now c.args.t.now c.args.name.now c.as_bytes.result.now c.in-Some.kept.now c.in_ok-copy-in-Some.field-0 c.requires.counted c.requires.named c.as_bytes.ensures.value c.in-Some.ensures.value c.in_ok-copy-in-Some.ensures

pub returns-then-knows : goal.returns-then-knows
returns-then-knows c = record {
  name = c.args.name.now;
  holds = ap held c.requires.named ∙ held_Struct c.args.name.now;
  known = c.knows.ensures.0 c.if-knows.true;
  uncounted = ap (kept c.args.self.now) (sym c.as_bytes.ensures.value) ∙ sym c.in-None.ensures.value;
}

pub returns-in_ok-one-in-None : goal.returns-in_ok-one-in-None
returns-in_ok-one-in-None c = record {
  cells = c.args.t.now ∷ [];
  have = cells.unknown c.args.name.now c.requires.named (λ k. no (sym c.if-knows.false ∙ c.knows.ensures.1 k)) refl;
  counts = c.in_ok-one-in-None.ensures;
}

use Rattle.std.proofs.Common.{cond, Some, refl, ap, ◌∙◌}
use Rattle.std.specs.Str.{bytes_eq}
use Rattle.std.proofs.lemmas.Map.Text.{btree_map_updates_str}
use Rattle.vd_sized.specs.Cells.{HaveCells}
use Rattle.vd_sized.specs.Counts.{CountsSome}
use Rattle.vd_sized.specs.Sizes.{SomeWaits, kept}
use Rattle.vd_sized.proofs.Settling.{match_some, is_new}
use Rattle.vd_sized.proofs.size.Sizes.count.Goals as goal

pub returns-in_ok-insert-in-Some : goal.returns-in_ok-insert-in-Some
returns-in_ok-insert-in-Some c =
    is_new c.args.view.now c.args.self.now _ c.args.known c.in-Some.cells c.requires.counted c.requires.known refl
    (match_some (SomeWaits c.args.view.now c.args.self.now c.args.known.fields.now) (CountsSome c.args.self.now.most (HaveCells c.args.view.now.parts.now c.args.view.now.own c.args.known.fields.now)) c.in_ok-cells.field-0 c.in-Some.cells c.in-Some.is c.in_ok-cells.ensures)
    (λ other. btree_map_updates_str c.as_bytes-name.result.now c.args.self.now.known c.insert.new.self (Some c.in-Some.cells) c.in_ok-insert-in-Some.ensures.updates other
    ∙ ap (λ b. cond (bytes_eq b other) (Some c.in-Some.cells) (kept c.args.self.now other)) c.as_bytes-name.ensures.value)

use Rattle.std.proofs.Common.{◌++◌, ◌∷◌, [], Err, ap, sym, ◌∙◌}
use Rattle.vd_outline.specs.Outline.{head_line}
use Rattle.vd_units.proofs.Places.{bad_told, fault_told, first_cut, its_front, lists_names}
use Rattle.vd_units.proofs.shape.listed_in.Goals as goal

pub returns-in-Ok-2 : goal.returns-in-Ok-2
returns-in-Ok-2 c =
    let cut = first_cut c.args.text.now c.requires.0 c.in-Ok.outline c.requires.1 c.in-Ok.ensures.ok c.in-Some.section.now (sym c.in-Some.ensures.value) in
    lists_names c.args.text.now c.requires.0 c.in-Ok.outline c.requires.1 c.in-Ok.ensures.ok c.in-Some.section.now (sym c.in-Some.ensures.value) c.in-Ok-2.names
    (rw c.in-Ok-2.is at (c.in_ok-names-in-Some.ensures cut.0 cut.1 cut.2))

pub returns-in-Some : goal.returns-in-Some
returns-in-Some c =
    let cut = first_cut c.args.text.now c.requires.0 c.in-Ok.outline c.requires.1 c.in-Ok.ensures.ok c.in-Some.section.now (sym c.in-Some.ensures.value) in
    fault_told c.args.text.now c.requires.0 c.in-Ok.outline c.requires.1 c.in-Ok.ensures.ok c.in-Some.section.now (sym c.in-Some.ensures.value) c.in-Err.place c.place_behind.result
    (rw c.in-Err.is at (c.in_ok-names-in-Some.ensures cut.0 cut.1 cut.2))
    (c.place_behind.ensures (head_line c.in-Ok.outline.kind c.in-Ok.outline.name ++ 10 ∷ [])
    (its_front c.args.text.now c.requires.0 c.in-Ok.outline c.requires.1 c.in-Ok.ensures.ok c.in-Some.section.now (sym c.in-Some.ensures.value)))

pub returns-in-Err-NoHead : goal.returns-in-Err-NoHead
returns-in-Err-NoHead c = absurd (c.in-Err-NoHead.ensures.no_head (ap Err c.in-Err-NoHead.field-0-is) _ c.requires.0 c.requires.1)

pub returns-in-Err-Bad : goal.returns-in-Err-Bad
returns-in-Err-Bad c = let told = bad_told c.args.text.now c.in-Err-Bad.place (c.in-Err-Bad.ensures.bad c.in-Err-Bad.place (ap Err c.in-Err-Bad.field-0-is)) in (told.0, told.1, c.in-Err-Bad.place-is ∙ told.2)

use Rattle.std.proofs.Common.{◌≡◌, Bool, true, false, cond, ◌||◌, refl, ap, ◌∙◌}
use Rattle.std.specs.Str.{bytes_eq}
use Rattle.std.proofs.lemmas.Map.Text.{is_eq-slice_cmp}
use Rattle.vd_outline.specs.Seen.{has}
use Rattle.vd_outline.proofs.seen.Seen.add.Goals as goal

either : (a b : Bool) → cond a true b ≡ (a || b)
either true b = refl
either false b = refl

pub returns-clause-has : goal.returns-clause-has
returns-clause-has c = λ other.
    let key = record c.args.line { now = other } in
    c.in_ok-added.ensures.updates.0 key
    ∙ ap (λ b. cond b true (has c.args.self.now other)) (is_eq-slice_cmp c.args.line.now other)
    ∙ either (bytes_eq c.args.line.now other) (has c.args.self.now other)

use Rattle.std.proofs.Common.{◌≡◌, ◌↔◌, All, subst, refl}
use Rattle.vd_linkage.specs.Form.{IsPlainText}
use Rattle.vd_commands.specs.Submission.{Entries, Submits}
use Rattle.vd_commands.proofs.Submitting.{some_snapshot, plain_snapshot}
use Rattle.vd_commands.proofs.play.play_texts.Goals as goal

pub unreachable-requires : goal.unreachable-requires
unreachable-requires c =
    let none : (entries : Entries) → Submits c.args.texts entries → ⊥ = rw c.in-None.is at c.in_ok-snapshot.ensures in
    some_snapshot c.args.texts c.requires.headed none

pub program-requires : goal.program-requires
program-requires c =
    let one : (entries : Entries) → Submits c.args.texts entries ↔ (entries ≡ c.in-Some.snapshot.texts) = rw c.in-Some.is at c.in_ok-snapshot.ensures in
    plain_snapshot c.args.texts c.in-Some.snapshot.texts (subst (λ ts. All IsPlainText ts) c.as_slice.ensures (c.in_ok-are_plain.ensures.0 c.if-not-branch.false)) ((one c.in-Some.snapshot.texts).1 refl)

use Rattle.std.proofs.Common.{◌≡◌, ℕ, List, [], ◌∷◌, ◌++◌, Some, None, sym, ap, ◌∙◌, append-nil}
use Rattle.vd_gate.specs.declared.story.PastTurn.{PastTurn}
use Rattle.vd_gate.specs.Stories.{all_entries, all_entries-push}
use Rattle.vd_gate.specs.Passes.{turns_of}
use Rattle.vd_ground_tests.proofs.gate.append.Goals as goal

abbrev appended : ℕ → ℕ → PastTurn ℕ
appended n x = record { number = n; entry = Some x }

abbrev refused : ℕ → PastTurn ℕ
refused n = record { number = n; entry = None }

stands_appended : (turns : List (PastTurn ℕ)) (n x : ℕ) (old new : List ℕ) → old ≡ all_entries turns → new ≡ old ++ x ∷ [] → new ≡ all_entries (turns ++ appended n x ∷ [])
stands_appended turns n x old new e f = f ∙ (ap (λ l. l ++ x ∷ []) e ∙ sym (all_entries-push turns (appended n x)))

stands_refused : (turns : List (PastTurn ℕ)) (n : ℕ) (old new : List ℕ) → old ≡ all_entries turns → new ≡ old → new ≡ all_entries (turns ++ refused n ∷ [])
stands_refused turns n old new e f = f ∙ (e ∙ (sym (append-nil (all_entries turns)) ∙ sym (all_entries-push turns (refused n))))

pub leave-requires-clause-next : goal.leave-requires-clause-next
leave-requires-clause-next g c = (
  appended c.args.pass.now.number c.args.item,
  record { number = sym c.enter-turn.ensures.pass.2.number; after = stands_appended (turns_of c.enter-turn.result.0) c.args.pass.now.number c.args.item _ _ c.enter-turn.ensures.state c.in-Ok.ensures.items },
)

pub leave-requires-in-Err-clause-next : goal.leave-requires-in-Err-clause-next
leave-requires-in-Err-clause-next g c = (
  refused c.args.pass.now.number,
  record { number = sym c.enter-turn.ensures.pass.2.number; after = stands_refused (turns_of c.enter-turn.result.0) c.args.pass.now.number _ _ c.enter-turn.ensures.state c.in-Err.ensures.items },
)

pub returns-in-Ok-clause-same : goal.returns-in-Ok-clause-same
returns-in-Ok-clause-same g c =
    let same = c.enter-turn.ensures.pass.2 in
    let left = c.leave.ensures.next (appended c.args.pass.now.number c.args.item) record { number = sym same.number; after = stands_appended (turns_of c.enter-turn.result.0) c.args.pass.now.number c.args.item _ _ c.enter-turn.ensures.state c.in-Ok.ensures.items } in
    (left.number ∙ same.number, left.made ∙ same.made)

pub returns-in-Err-clause-same : goal.returns-in-Err-clause-same
returns-in-Err-clause-same g c =
    let same = c.enter-turn.ensures.pass.2 in
    let left = c.leave-in-Err.ensures.next (refused c.args.pass.now.number) record { number = sym same.number; after = stands_refused (turns_of c.enter-turn.result.0) c.args.pass.now.number _ _ c.enter-turn.ensures.state c.in-Err.ensures.items } in
    (left.number ∙ same.number, left.made ∙ same.made)

use Rattle.std.proofs.Common.{◌≡◌, ◌++◌, List, take}
use Rattle.vd_heads.specs.declared.table.Space.{Space}
use Rattle.vd_heads.specs.declared.table.Spot.{Spot}
use Rattle.vd_heads.specs.Declaration.{Bytes}
use Rattle.vd_heads.specs.Views.{AreDeclarations, in_space, spots_in_part}
use Rattle.vd_heads.proofs.table.Table.add_sections.Given as goal

abbrev pub invariant-loop-at : goal.invariant-loop-at
invariant-loop-at l =
    ((places : Space → Bytes → List Spot) → ((s : Space) → AreDeclarations (places s) (in_space s l.fn.self)) → (s : Space) → AreDeclarations (λ name. places s name ++ spots_in_part s name l.number 0 (take l.at l.sections)) (in_space s l.self))
    × (l.self.interfaces ≡ l.fn.self.interfaces)

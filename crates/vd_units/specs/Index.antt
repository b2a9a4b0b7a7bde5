-- Texts found by their names.
use Rattle.std.specs.Prelude.{◌≡◌, List, option_map}
use Rattle.std.specs.BTreeMap.{get_by}
use Rattle.std.specs.Cmp.Lexicographic.{slice_cmp}
use Rattle.std.specs.Ordering.{nat_cmp}
use Rattle.vd_outline.specs.Outline.{Bytes}
use Rattle.vd_units.specs.declared.texts.Index.{Index}
use Rattle.vd_linkage.specs.Form.{Entry}
use Rattle.vd_linkage.specs.Texts.{text_named}

-- the index finds the current text of each name
abbrev pub IsIndexOf : List Entry → Index → Type 0
IsIndexOf entries index = (name : Bytes) → option_map (λ t. t.now) (get_by (λ k. slice_cmp nat_cmp name k.now) index.texts) ≡ text_named name entries

-- The section of a printed function.
use Rattle.std.specs.Prelude.{ℕ, List, ◌++◌, codes}
use Rattle.vd_clight.specs.declared.syntax.FnText.{FnText}
use Rattle.vd_clight.specs.Printed.{printed}
use Rattle.vd_cparse.specs.Section.{IsFnSection}
use Rattle.vd_cgrammar.specs.Unplaced.{SameFunction}

-- the header line with the function's name, the printed text in a line, and the line `end`
abbrev pub section_text : FnText → List ℕ
section_text f = codes "fn " ++ f.name ++ codes "\n" ++ printed f ++ codes "\nend\n"

-- The text is the section of the function, places apart.
pub record ReadsBack (text : List ℕ) (f : FnText) : Type 0 where
  pub value : FnText
  pub is : IsFnSection text value
  pub same : SameFunction value f

-- Where a section reads as a function, the section that is printed of the function reads as it, places apart.
abbrev pub SectionsReadBack : Type 0
SectionsReadBack = (text : List ℕ) (f : FnText) → IsFnSection text f → ReadsBack (section_text f) f

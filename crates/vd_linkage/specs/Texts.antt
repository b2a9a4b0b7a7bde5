-- Looking up the texts of a snapshot.
use Rattle.std.specs.Prelude.{◌≡◌, List, Option, Some, option_map}
use Rattle.std.specs.List.{find}
use Rattle.std.specs.Str.{bytes_eq}
use Rattle.vd_outline.specs.declared.outline.Outline.{Outline}
use Rattle.vd_outline.specs.declared.outline.TextKind.{TextKind}
use Rattle.vd_outline.specs.Outline.{Bytes, HasHead, Outlines}
use Rattle.vd_linkage.specs.Form.{Entry}

-- the current text of a name
abbrev pub text_named : Bytes → List Entry → Option Bytes
text_named name texts = option_map (λ (t : Entry). t.2) (find (λ (t : Entry). bytes_eq t.0 name) texts)

-- a name has a current text whose head line is of this kind
pub record HasText (texts : List Entry) (kind : TextKind) (name text : Bytes) : Type 0 where
  pub current : text_named name texts ≡ Some text
  pub own : Bytes
  pub head : HasHead text kind own

-- it has one of this kind with this outline
pub record IsOutlined (texts : List Entry) (kind : TextKind) (name : Bytes) (o : Outline) : Type 0 where
  pub text : Bytes
  pub current : text_named name texts ≡ Some text
  pub outlined : Outlines text o
  pub kind_is : o.kind ≡ kind

-- no text of the name has an outline and is of this kind
abbrev pub IsMissing : List Entry → TextKind → Bytes → Type 0
IsMissing texts kind name = (o : Outline) → IsOutlined texts kind name o → ⊥

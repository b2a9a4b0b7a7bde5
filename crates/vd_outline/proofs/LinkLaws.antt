-- A link has one section at most.
use Rattle.std.proofs.Common.{◌≡◌, ◌⊎◌, true, List, [], ◌∷◌, codes, Option, None, Some, refl, ap, sym, ◌∙◌, inl, inr}
use Rattle.std.specs.Prelude.{All}
use Rattle.std.proofs.lemmas.List.Elements.{All-head, All-tail}
use Rattle.vd_outline.specs.declared.outline.TextKind.{TextKind}
use Rattle.vd_outline.specs.declared.outline.TextKind.TheVariants.{Interface, Unit as UnitText, Link}
use Rattle.vd_outline.specs.declared.section.Section.{Section}
use Rattle.vd_outline.specs.declared.section.SectionKind.{SectionKind}
use Rattle.vd_outline.specs.declared.section.SectionKind.TheVariants as section
use Rattle.vd_outline.specs.Outline.{Bytes, header_line, takes_name, stands_in, IsNamed, IsSection, AreOnce, HasUnits}

units_alone : (kind : SectionKind) → stands_in kind Link ≡ true → kind ≡ section.Units
units_alone section.Uses h = absurd (cc)
units_alone section.Exports h = absurd (cc)
units_alone section.Units h = refl
units_alone section.Struct h = absurd (cc)
units_alone section.Global h = absurd (cc)
units_alone section.Abstract h = absurd (cc)
units_alone section.Pred h = absurd (cc)
units_alone section.Spec h = absurd (cc)
units_alone section.Fn h = absurd (cc)
units_alone section.Script h = absurd (cc)
units_alone section.Sub h = absurd (cc)
units_alone section.Init h = absurd (cc)

bare_units : (kind : SectionKind) (name : Option Bytes) → kind ≡ section.Units → IsNamed kind name → header_line kind name ≡ codes "units"
bare_units kind None e named = ap (λ k. header_line k None) e
bare_units kind (Some name) e named = absurd (let takes : takes_name section.Units ≡ true = ap takes_name (sym e) ∙ named.0 in cc)

pub units_header : (s : Section) → IsSection Link s → header_line s.kind s.name ≡ codes "units"
units_header s i = bare_units s.kind s.name (units_alone s.kind i.stands) i.named

pub link_one : (ss : List Section) → All (IsSection Link) ss → AreOnce ss → (ss ≡ []) ⊎ ((s : Section) × (ss ≡ s ∷ []))
link_one [] each once = inl refl
link_one (s ∷ []) each once = inr (s, refl)
link_one (s ∷ t ∷ ss) each once =
    let one = units_header s (All-head (IsSection Link) s (t ∷ ss) each) in
    let two = units_header t (All-head (IsSection Link) t ss (All-tail (IsSection Link) s (t ∷ ss) each)) in
    absurd (once.0.0 (one ∙ sym two))

-- a link with a section has its units
pub has_units : (kind : TextKind) (ss : List Section) → All (IsSection kind) ss → AreOnce ss → (kind ≡ Link → ss ≡ [] → ⊥) → HasUnits kind ss
has_units Interface ss each once some = tt
has_units UnitText ss each once some = tt
has_units Link ss each once some = elim (link_one ss each once) [ inl none ↦ absurd (some refl none) | inr one ↦ one ]

-- Texts of the form reach no interface.
use Rattle.std.proofs.Common.{◌≡◌, Bool, true, false, ◌&&◌, cond, List, [], ◌∷◌, ◌++◌, map, All, Option, None, Some, option_map, codes, refl, ap, ◌∙◌, subst}
use Rattle.std.proofs.lemmas.List.Elements.{All-cons, All-head, All-nil, All-tail}
use Rattle.std.specs.List.{find, list_all}
use Rattle.std.specs.Str.{bytes_eq}
use Rattle.vd_heads.specs.declared.table.Space.{Space}
use Rattle.vd_heads.specs.HeadPart.{head_part}
use Rattle.vd_outline.specs.declared.outline.Outline.{Outline}
use Rattle.vd_outline.specs.declared.outline.TextKind.{TextKind}
use Rattle.vd_outline.specs.declared.outline.TextKind.TheVariants.{Unit as UnitText}
use Rattle.vd_outline.specs.declared.section.Section.{Section}
use Rattle.vd_outline.specs.declared.section.SectionKind.{SectionKind}
use Rattle.vd_outline.specs.declared.section.SectionKind.TheVariants as section
use Rattle.vd_outline.specs.Lookup.{is_called, section_called}
use Rattle.vd_outline.specs.Outline.{Bytes, header_line}
use Rattle.vd_linkage.specs.Closure.{HasParts, Interfaces, Lists, ListsBy, Mentions, Reach, ReachFrom, Visits, absent, done, no_names, no_texts, text}
use Rattle.vd_linkage.specs.Declaration.{Defines}
use Rattle.vd_linkage.specs.Form.{ArePlain, Entry, IsPlainText, is_plain, is_plain_kind, is_plain_section}
use Rattle.vd_linkage.specs.Reading.{has_name}
use Rattle.vd_linkage.specs.Shape.{Units, again, no_names as none_listed, skipped, taken}
use Rattle.vd_linkage.specs.Texts.{IsOutlined, text_named}
use Rattle.vd_linkage.proofs.Lists.{some_same}

-- ---- no section lists interfaces

both_false : (a b : Bool) → a && b ≡ true → (a ≡ true) × (b ≡ true)
both_false true true h = (refl, refl)
both_false true false h = absurd (cc)
both_false false b h = absurd (cc)

-- what is so of the sections' kinds, but not of a kind
not_exports : (kind : SectionKind) (name : Option Bytes) → is_plain_section kind ≡ true → bytes_eq (header_line kind name) (codes "exports") ≡ false
not_exports section.Uses name h = absurd (cc)
not_exports section.Exports name h = absurd (cc)
not_exports section.Units None h = refl
not_exports section.Units (Some n) h = refl
not_exports section.Struct None h = refl
not_exports section.Struct (Some n) h = refl
not_exports section.Global None h = refl
not_exports section.Global (Some n) h = refl
not_exports section.Abstract None h = refl
not_exports section.Abstract (Some n) h = refl
not_exports section.Pred None h = refl
not_exports section.Pred (Some n) h = refl
not_exports section.Spec None h = refl
not_exports section.Spec (Some n) h = refl
not_exports section.Fn None h = refl
not_exports section.Fn (Some n) h = refl
not_exports section.Script None h = refl
not_exports section.Script (Some n) h = refl
not_exports section.Sub name h = absurd (cc)
not_exports section.Init name h = absurd (cc)

not_uses : (kind : SectionKind) (name : Option Bytes) → is_plain_section kind ≡ true → bytes_eq (header_line kind name) (codes "uses") ≡ false
not_uses section.Uses name h = absurd (cc)
not_uses section.Exports name h = absurd (cc)
not_uses section.Units None h = refl
not_uses section.Units (Some n) h = refl
not_uses section.Struct None h = refl
not_uses section.Struct (Some n) h = refl
not_uses section.Global None h = refl
not_uses section.Global (Some n) h = refl
not_uses section.Abstract None h = refl
not_uses section.Abstract (Some n) h = refl
not_uses section.Pred None h = refl
not_uses section.Pred (Some n) h = refl
not_uses section.Spec None h = refl
not_uses section.Spec (Some n) h = refl
not_uses section.Fn None h = refl
not_uses section.Fn (Some n) h = refl
not_uses section.Script None h = refl
not_uses section.Script (Some n) h = refl
not_uses section.Sub name h = absurd (cc)
not_uses section.Init name h = absurd (cc)

none_found : {X : Type 0} (p q : X → Bool) → ((x : X) → q x ≡ true → p x ≡ false) → (xs : List X) → list_all q xs ≡ true → find p xs ≡ None
none_found p q h [] e = refl
none_found p q h (x ∷ xs) e = let b = both_false (q x) (list_all q xs) e in ap (λ t. cond t (Some x) (find p xs)) (h x b.0) ∙ none_found p q h xs b.1

sections_plain : (o : Outline) → is_plain o ≡ true → list_all (λ s. is_plain_section s.kind) o.sections ≡ true
sections_plain o h = (both_false (is_plain_kind o.kind) (list_all (λ s. is_plain_section s.kind) o.sections) h).1

pub no_exports : (o : Outline) → is_plain o ≡ true → section_called section.Exports None o.sections ≡ None
no_exports o h = none_found (is_called section.Exports None) (λ s. is_plain_section s.kind) (λ s. not_exports s.kind s.name) o.sections (sections_plain o h)

pub no_uses : (o : Outline) → is_plain o ≡ true → section_called section.Uses None o.sections ≡ None
no_uses o h = none_found (is_called section.Uses None) (λ s. is_plain_section s.kind) (λ s. not_uses s.kind s.name) o.sections (sections_plain o h)

absent_lists : (found : Option Section) (names : List Bytes) → found ≡ None → ListsBy found names → names ≡ []
absent_lists None [] e absent = refl
absent_lists None (n ∷ names) e h = elim h [ ]
absent_lists (Some s) names e h = absurd (cc)

pub exports_none : (o : Outline) (names : List Bytes) → is_plain o ≡ true → Lists section.Exports o names → names ≡ []
exports_none o names h l = absent_lists (section_called section.Exports None o.sections) names (no_exports o h) l

uses_none : (o : Outline) (names : List Bytes) → is_plain o ≡ true → Lists section.Uses o names → names ≡ []
uses_none o names h l = absent_lists (section_called section.Uses None o.sections) names (no_uses o h) l

lists_none : (found : Option Section) → found ≡ None → ListsBy found []
lists_none None e = absent
lists_none (Some s) e = absurd (cc)

mentions_none : (o : Outline) → is_plain o ≡ true → Mentions o []
mentions_none o h = record {
  exported = [];
  used = [];
  exports = lists_none (section_called section.Exports None o.sections) (no_exports o h);
  uses = lists_none (section_called section.Uses None o.sections) (no_uses o h);
  together = refl;
}

mentions_no : (o : Outline) (names : List Bytes) → is_plain o ≡ true → Mentions o names → names ≡ []
mentions_no o names h m = m.together ∙ (ap (λ x. x ++ m.used) (exports_none o m.exported h m.exports) ∙ uses_none o m.used h m.uses)

pub defines_nothing : (texts : List Entry) (o : Outline) (s : Space) (name : Bytes) → is_plain o ≡ true → Defines texts o s name → ⊥
defines_nothing texts o s name h d = no_member d.exported d.interface (exports_none o d.exported h d.exports) d.is_exported where
  no_member : (names : List Bytes) (n : Bytes) → names ≡ [] → has_name names n ≡ true → ⊥
  no_member [] n e h = cc
  no_member (m ∷ names) n e h = cc

-- ---- nothing is reached

visits_none : (texts : List Entry) (met after : List Bytes) (names : List Bytes) → names ≡ [] → Visits texts met names after → after ≡ met
visits_none texts met after [] e done = refl
visits_none texts met after (n ∷ names) e v = absurd (cc)

pub reach_from : (texts : List Entry) (os : List Outline) (met after : List Bytes) → All (λ o. is_plain o ≡ true) os → ReachFrom texts met os after → after ≡ met
reach_from texts [] met after h no_texts = refl
reach_from texts (o ∷ os) met after h (text {names = names} {next = next} m v r) =
    reach_from texts os next after (All-tail (λ o. is_plain o ≡ true) o os h) r ∙ visits_none texts met next names (mentions_no o names (All-head (λ o. is_plain o ≡ true) o os h) m) v

pub reach_nothing : (texts : List Entry) (os : List Outline) (names : List Bytes) → All (λ o. is_plain o ≡ true) os → Reach texts os names → names ≡ []
reach_nothing texts os names h r = reach_from texts os [] names h r

pub reaches_nothing : (texts : List Entry) (os : List Outline) → All (λ o. is_plain o ≡ true) os → Reach texts os []
reaches_nothing texts [] h = no_texts
reaches_nothing texts (o ∷ os) h = text (mentions_none o (All-head (λ o. is_plain o ≡ true) o os h)) done (reaches_nothing texts os (All-tail (λ o. is_plain o ≡ true) o os h))

pub no_interfaces : (texts : List Entry) (names : List Bytes) (os : List Outline) → names ≡ [] → Interfaces texts names os → os ≡ []
no_interfaces texts [] [] e no_names = refl
no_interfaces texts [] (o ∷ os) e i = elim i [ ]
no_interfaces texts (n ∷ names) os e i = absurd (cc)

-- ---- the texts of a snapshot

pub named_plain : (texts : List Entry) (name found : Bytes) → ArePlain texts → text_named name texts ≡ Some found → IsPlainText found
named_plain [] name found h e = absurd (cc)
named_plain (t ∷ ts) name found h e = by (named_plain ts name found (All-tail (λ (x : Entry). IsPlainText x.2) t ts h)) (bytes_eq t.0 name) e where
  by : (text_named name ts ≡ Some found → IsPlainText found) → (b : Bool) → option_map (λ (x : Entry). x.2) (cond b (Some t) (find (λ (x : Entry). bytes_eq x.0 name) ts)) ≡ Some found → IsPlainText found
  by behind true f = subst IsPlainText (some_same t.2 found f) (All-head (λ (x : Entry). IsPlainText x.2) t ts h)
  by behind false f = behind f

pub outlined_plain : (texts : List Entry) (kind : TextKind) (name : Bytes) (o : Outline) → ArePlain texts → IsOutlined texts kind name o → is_plain o ≡ true
outlined_plain texts kind name o h i = named_plain texts name i.text h i.current o i.outlined

pub units_plain : (texts : List Entry) (met names : List Bytes) (os : List Outline) → ArePlain texts → Units texts met names os → All (λ o. is_plain o ≡ true) os
units_plain texts met [] [] h none_listed = All-nil (λ o. is_plain o ≡ true)
units_plain texts met [] (o ∷ os) h u = elim u [ ]
units_plain texts met (n ∷ names) os h (again e u) = units_plain texts met names os h u
units_plain texts met (n ∷ names) os h (skipped e m u) = units_plain texts (n ∷ met) names os h u
units_plain texts met (n ∷ names) (o ∷ os) h (taken e i u) = All-cons (λ o. is_plain o ≡ true) o os (outlined_plain texts UnitText n o h i) (units_plain texts (n ∷ met) names os h u)

-- ---- the closure of a text

one_plain : (o : Outline) → is_plain o ≡ true → All (λ o. is_plain o ≡ true) (o ∷ [])
one_plain o h = All-cons (λ o. is_plain o ≡ true) o [] h (All-nil (λ o. is_plain o ≡ true))

pub one_closure : (texts : List Entry) (o : Outline) (parts : List Bytes) → is_plain o ≡ true → HasParts texts o parts → parts ≡ head_part o ∷ []
one_closure texts o parts h c =
    c.is ∙ ap (λ os. map head_part (o ∷ os)) (no_interfaces texts c.names c.interfaces (reach_nothing texts (o ∷ []) c.names (one_plain o h) c.reach) c.are)

pub closure_alone : (texts : List Entry) (o : Outline) → is_plain o ≡ true → HasParts texts o (head_part o ∷ [])
closure_alone texts o h = record { names = []; reach = reaches_nothing texts (o ∷ []) (one_plain o h); interfaces = []; are = no_names; is = refl }

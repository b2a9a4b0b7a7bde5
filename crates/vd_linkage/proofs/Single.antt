-- A link lists one thing, and has one shape.
use Rattle.std.proofs.Common.{◌≡◌, ℕ, List, [], ◌∷◌, map, Result, Ok, Err, refl, ap, sym, ◌∙◌, subst}
use Rattle.vd_heads.specs.declared.content.Mention.{Mention}
use Rattle.vd_listing.specs.Listing.{IsListing}
use Rattle.vd_listing.specs.OneListing.{one_listing}
use Rattle.vd_outline.specs.declared.outline.Outline.{Outline}
use Rattle.vd_outline.specs.declared.outline.TextKind.{TextKind}
use Rattle.vd_outline.specs.declared.outline.TextKind.TheVariants.{Unit as UnitText}
use Rattle.vd_outline.specs.declared.section.Section.{Section}
use Rattle.vd_outline.specs.Outline.{Bytes, HasHead, Outlines}
use Rattle.vd_outline.proofs.TextLaws.{head_of_outline, no_outline as no_bad, one_outline}
use Rattle.vd_linkage.specs.Conditions.{IsFaultIn, IsLinkFault, in_text, no_link, no_names as no_list, no_outline}
use Rattle.vd_linkage.specs.Form.{Entry}
use Rattle.vd_linkage.specs.Reading.{IsListOf, has_name}
use Rattle.vd_linkage.specs.Shape.{IsLink, IsLinkText, Units, again, no_names, skipped, taken}
use Rattle.vd_linkage.specs.Texts.{IsOutlined}
use Rattle.vd_linkage.proofs.Lists.{not_two, some_same}

pub one_outlined : (texts : List Entry) (kind : TextKind) (name : Bytes) (o p : Outline) → IsOutlined texts kind name o → IsOutlined texts kind name p → o ≡ p
one_outlined texts kind name o p a b =
    let same : a.text ≡ b.text = some_same a.text b.text (sym a.current ∙ b.current) in
    one_outline b.text o p (subst (λ t. Outlines t o) same a.outlined) b.outlined

ok_same : (a b : List Mention) → ◌≡◌ {A = Result (List Mention) ℕ} (Ok a) (Ok b) → a ≡ b
ok_same a b e = cc

pub one_list : (text : Bytes) (a b : List Bytes) → IsListOf text a → IsListOf text b → a ≡ b
one_list text a b x y = x.are ∙ (ap (map (λ m. m.name)) (ok_same x.mentions y.mentions (one_listing text (Ok x.mentions) (Ok y.mentions) x.listed y.listed)) ∙ sym y.are)

ok_no_err : (a : List Mention) (place : ℕ) → ◌≡◌ {A = Result (List Mention) ℕ} (Ok a) (Err place) → ⊥
ok_no_err a place e = cc

pub listed_no_fault : (text : Bytes) (names : List Bytes) (place : ℕ) → IsListOf text names → IsListing text (Err place) → ⊥
listed_no_fault text names place x y = ok_no_err x.mentions place (one_listing text (Ok x.mentions) (Err place) x.listed y)

head_same : {X : Type 0} (x y : X) (xs ys : List X) → x ∷ xs ≡ y ∷ ys → x ≡ y
head_same x y xs ys e = cc

one_section : (o p : Outline) (s t : Section) → o ≡ p → o.sections ≡ s ∷ [] → p.sections ≡ t ∷ [] → s ≡ t
one_section o p s t e a b = head_same s t [] [] (sym a ∙ (ap (λ x. x.sections) e ∙ b))

pub one_link_text : (text : Bytes) (a b : List Bytes) → IsLinkText text a → IsLinkText text b → a ≡ b
one_link_text text a b x y =
    let same = one_section x.outline y.outline x.units y.units (one_outline text x.outline y.outline x.outlined y.outlined) x.alone y.alone in
    one_list y.units.text a b (subst (λ s. IsListOf s.text a) same x.listed) y.listed

pub one_link : (texts : List Entry) (link : Bytes) (a b : List Bytes) → IsLink texts link a → IsLink texts link b → a ≡ b
one_link texts link a b x y =
    let same : x.text ≡ y.text = some_same x.text y.text (sym x.current ∙ y.current) in
    one_link_text y.text a b (subst (λ t. IsLinkText t a) same x.is) y.is

no_fault_in : (text : Bytes) (names : List Bytes) (place : ℕ) → IsLinkText text names → IsFaultIn text place → ⊥
no_fault_in text names place x (no_outline {place = at} b) = no_bad text at x.outline b x.outlined
no_fault_in text names place x (no_list {o = o} {s = s} {place = at} outlined alone listed) =
    let same = one_section x.outline o x.units s (one_outline text x.outline o x.outlined outlined) x.alone alone in
    listed_no_fault s.text names at (subst (λ t. IsListOf t.text names) same x.listed) listed

pub link_no_fault : (texts : List Entry) (link : Bytes) (names : List Bytes) (place : ℕ) → IsLink texts link names → IsLinkFault texts link place → ⊥
link_no_fault texts link names place x (no_link none) =
    let head = head_of_outline x.text x.is.outline x.is.outlined in
    none x.text (record { current = x.current; own = x.is.outline.name; head = subst (λ k. HasHead x.text k x.is.outline.name) x.is.kind_is head })
link_no_fault texts link names place x (in_text {text = text} {place = at} has fault) =
    let same : x.text ≡ text = some_same x.text text (sym x.current ∙ has.current) in
    no_fault_in text names at (subst (λ t. IsLinkText t names) same x.is) fault

-- ---- units

pub one_units : (texts : List Entry) (met names : List Bytes) (os ps : List Outline) → Units texts met names os → Units texts met names ps → os ≡ ps
one_units texts met [] [] [] no_names no_names = refl
one_units texts met [] [] (p ∷ ps) u v = elim v [ ]
one_units texts met [] (o ∷ os) ps u v = elim u [ ]
one_units texts met (n ∷ names) os ps (again e u) (again f v) = one_units texts met names os ps u v
one_units texts met (n ∷ names) os ps (again e u) (skipped f m v) = absurd (not_two (has_name met n) e f)
one_units texts met (n ∷ names) os (p ∷ ps) (again e u) (taken f i v) = absurd (not_two (has_name met n) e f)
one_units texts met (n ∷ names) os ps (skipped e m u) (again f v) = absurd (not_two (has_name met n) f e)
one_units texts met (n ∷ names) os ps (skipped e m u) (skipped f k v) = one_units texts (n ∷ met) names os ps u v
one_units texts met (n ∷ names) os (p ∷ ps) (skipped e m u) (taken f i v) = absurd (m p i)
one_units texts met (n ∷ names) (o ∷ os) ps (taken e i u) (again f v) = absurd (not_two (has_name met n) f e)
one_units texts met (n ∷ names) (o ∷ os) ps (taken e i u) (skipped f m v) = absurd (m o i)
one_units texts met (n ∷ names) (o ∷ os) (p ∷ ps) (taken e i u) (taken f j v) =
    ap (λ x. x ∷ os) (one_outlined texts UnitText n o p i j) ∙ ap (λ xs. p ∷ xs) (one_units texts (n ∷ met) names os ps u v)

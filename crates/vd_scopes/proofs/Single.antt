-- Texts say one thing as the inputs of a work.
use Rattle.std.proofs.Common.{◌≡◌, ◌≢◌, ◌∙◌, ◌-◌, ◌+◌, ◌^◌, min, ℕ, List, [], ◌∷◌, ◌++◌, length, flat_map, Option, None, Some, Result, Ok, Err, refl, ap, sym, subst}
use Rattle.vd_cgrammar.specs.declared.parts.Decl.{Decl}
use Rattle.vd_cparse.proofs.Texts.{decl_exact}
use Rattle.vd_grammar.specs.declared.fault.ParseFault.{ParseFault}
use Rattle.vd_grammar.specs.declared.fault.ParseFault.TheVariants as fault
use Rattle.vd_heads.specs.declared.content.Content.{Content}
use Rattle.vd_heads.specs.declared.content.Content.TheVariants as content
use Rattle.vd_heads.specs.declared.content.HeadSection.{HeadSection}
use Rattle.vd_heads.specs.declared.content.Mention.{Mention}
use Rattle.vd_heads.specs.declared.content.Part.{Part}
use Rattle.vd_heads.specs.HeadPart.{head_sections}
use Rattle.vd_listing.specs.OneListing.{one_listing}
use Rattle.vd_outline.specs.declared.outline.Outline.{Outline}
use Rattle.vd_outline.specs.declared.outline.TextKind.{TextKind}
use Rattle.vd_outline.specs.declared.section.Section.{Section}
use Rattle.vd_outline.specs.declared.section.SectionKind.{SectionKind}
use Rattle.vd_outline.specs.declared.section.SectionKind.TheVariants as section
use Rattle.vd_outline.specs.Fault.{IsBad}
use Rattle.vd_outline.specs.Outline.{Bytes, HasHead, Outlines, head_line}
use Rattle.vd_outline.proofs.TextLaws.{one_outline, one_fault, has_head, no_outline}
use Rattle.vd_sparse.specs.declared.text.LogicText.{LogicText}
use Rattle.vd_section.specs.HeaderLine.{word_of}
use Rattle.vd_sparse.specs.Sections.{kind_of}
use Rattle.vd_sparse.specs.Whole.{exact}
use Rattle.vd_scopes.specs.declared.scope.Scopes.{Scopes}
use Rattle.vd_scopes.specs.declared.verdict.HeadFault.{HeadFault}
use Rattle.vd_scopes.specs.declared.verdict.HeadFault.TheVariants as head_fault
use Rattle.vd_scopes.specs.Answers.{Answers, AnswersTexts, AreInputs, HasLines, IsSplit, SaySomething}
use Rattle.vd_scopes.specs.Head.{AllSay, AreParts, DeclaresC, DeclaresLogic, IsPart, Lists, Says, bad, broken, declaration, headless, listing, logic_content, no_part, nothing, one_more, outlined, section_then}

head_section : ℕ → Content → HeadSection
head_section place c = record { place = place; content = c }

same_section : (h g : HeadSection) → h.place ≡ g.place → h.content ≡ g.content → h ≡ g
unfolding head_section
same_section h g p c = ap (λ x. head_section x h.content) p ∙ ap (λ x. head_section g.place x) c

part : Option (TextKind × Bytes) → List HeadSection → Part
part head sections = record { head = head; sections = sections }

same_part : (p q : Part) → p.head ≡ q.head → p.sections ≡ q.sections → p ≡ q
unfolding part
same_part p q h s = ap (λ x. part x p.sections) h ∙ ap (λ x. part q.head x) s

-- ---- texts in front of a last one

not_empty : (ys : List Bytes) (y : Bytes) → [] ≡ ys ++ y ∷ [] → ⊥
not_empty [] y e = cc
not_empty (z ∷ ys) y e = cc

same_head : {A : Type 0} {x y : A} {xs ys : List A} → x ∷ xs ≡ y ∷ ys → (x ≡ y) × (xs ≡ ys)
same_head e = (cc, cc)

same_last : (xs ys : List Bytes) (x y : Bytes) → xs ++ x ∷ [] ≡ ys ++ y ∷ [] → (xs ≡ ys) × (x ≡ y)
same_last [] [] x y e = (refl, (same_head e).0)
same_last [] (w ∷ ys) x y e = absurd (not_empty ys y (same_head e).1)
same_last (z ∷ xs) [] x y e = absurd (not_empty xs x (sym (same_head e).1))
same_last (z ∷ xs) (w ∷ ys) x y e =
    let p = same_head e in
    let r = same_last xs ys x y p.1 in
    (ap (λ v. v ∷ xs) p.0 ∙ ap (λ vs. w ∷ vs) r.0, r.1)

one_split : (texts front other : List Bytes) (lines others : Option Bytes) → IsSplit texts front lines → IsSplit texts other others → (front ≡ other) × (lines ≡ others)
one_split texts front other None None a b = (a.0 ∙ sym b.0, refl)
one_split texts front other None (Some line) a b = absurd (a.1 other line b)
one_split texts front other (Some line) None a b = absurd (b.1 front line a)
one_split texts front other (Some line) (Some last) a b = let r = same_last front other line last (sym a.cut ∙ b.cut) in (r.0, ap Some r.1)

-- ---- one text

outline_head : (text : Bytes) (o : Outline) → Outlines text o → HasHead text o.kind o.name
outline_head text o s = record { rest = flat_map (λ s. s.text) o.sections; cut = s.bytes; named = s.named }

one_lists : (make : List Mention → Content) (text : Bytes) (at : ℕ) (c d : Content) → Lists make text at c → Lists make text at d → c ≡ d
one_lists make text at c d x y = x.says ∙ (ap (listing make at) (one_listing text x.answer y.answer x.listed y.listed) ∙ sym y.says)

one_declares : (text : Bytes) (at : ℕ) (c d : Content) → DeclaresC text at c → DeclaresC text at d → c ≡ d
one_declares text at c d x y = x.says ∙ (ap (declaration at) (decl_exact text x.answer y.answer x.read y.read x.certain y.certain) ∙ sym y.says)

one_says_logic : (text : Bytes) (at : ℕ) (c d : Content) → DeclaresLogic text at c → DeclaresLogic text at d → c ≡ d
one_says_logic text at c d x y = x.says ∙ (ap (logic_content at) (exact (kind_of (word_of text)) text x.answer y.answer x.read y.read x.certain y.certain) ∙ sym y.says)

one_says : (k : SectionKind) (text : Bytes) (at : ℕ) (c d : Content) → Says k text at c → Says k text at d → c ≡ d
one_says section.Uses text at c d x y = one_lists (λ names. content.Uses names) text at c d x y
one_says section.Exports text at c d x y = one_lists (λ names. content.Exports names) text at c d x y
one_says section.Units text at c d x y = one_lists (λ names. content.Uses names) text at c d x y
one_says section.Struct text at c d x y = one_declares text at c d x y
one_says section.Global text at c d x y = one_declares text at c d x y
one_says section.Abstract text at c d x y = one_says_logic text at c d x y
one_says section.Pred text at c d x y = one_says_logic text at c d x y
one_says section.Spec text at c d x y = one_says_logic text at c d x y
one_says section.Fn text at c d x y = one_lists (λ names. content.Uses names) text at c d x y
one_says section.Script text at c d x y = one_lists (λ names. content.Uses names) text at c d x y
one_says section.Sub text at c d x y = one_lists (λ names. content.Uses names) text at c d x y
one_says section.Init text at c d x y = one_lists (λ names. content.Uses names) text at c d x y

one_all : (at : ℕ) (ss : List Section) (hs gs : List HeadSection) → AllSay at ss hs → AllSay at ss gs → hs ≡ gs
one_all at [] [] [] nothing nothing = refl
one_all at [] [] (g ∷ gs) x y = elim y [ ]
one_all at [] (h ∷ hs) gs x y = elim x [ ]
one_all at (s ∷ ss) [] gs x y = elim x [ ]
one_all at (s ∷ ss) (h ∷ hs) [] x y = elim y [ ]
one_all at (s ∷ ss) (h ∷ hs) (g ∷ gs) (section_then p c x) (section_then q d y) =
    ap (λ z. z ∷ hs) (same_section h g (p ∙ sym q) (one_says s.kind s.text at h.content g.content c d)) ∙ ap (λ zs. g ∷ zs) (one_all (at + length s.text) ss hs gs x y)

one_outlined : (o other : Outline) (p q : Part) → o ≡ other → p.head ≡ Some (o.kind, o.name) → q.head ≡ Some (other.kind, other.name) → AllSay (length (head_line o.kind o.name) + 1) (head_sections o.sections) p.sections
    → AllSay (length (head_line other.kind other.name) + 1) (head_sections other.sections) q.sections → p ≡ q
one_outlined o other p q e f g x y =
    let z : AllSay (length (head_line o.kind o.name) + 1) (head_sections o.sections) q.sections = subst (λ u. AllSay (length (head_line u.kind u.name) + 1) (head_sections u.sections) q.sections) (sym e) y in
    same_part p q (f ∙ (ap (λ u. Some (u.kind, u.name)) e ∙ sym g)) (one_all (length (head_line o.kind o.name) + 1) (head_sections o.sections) p.sections q.sections x z)

one_part : (text : Bytes) (p q : Part) → IsPart text p → IsPart text q → p ≡ q
one_part text p q (outlined o x f s) (outlined other y g t) = one_outlined o other p q (one_outline text o other x y) f g s t
one_part text p q (outlined o x f s) (bad place b e) = absurd (no_outline text b.0 o b.2 x)
one_part text p q (outlined o x f s) (headless none e) = absurd (none o.kind o.name (outline_head text o x))
one_part text p q (bad place b e) (outlined o x f s) = absurd (no_outline text b.0 o b.2 x)
one_part text p q (bad place b e) (bad other c f) = e ∙ (ap broken (b.1 ∙ (ap (λ k. min k (2 ^ 32 - 1)) (one_fault text b.0 c.0 b.2 c.2) ∙ sym c.1)) ∙ sym f)
one_part text p q (bad place b e) (headless none f) = absurd (let h = has_head text b.0 b.2 in none h.0 h.1 h.2)
one_part text p q (headless none e) (outlined o x f s) = absurd (none o.kind o.name (outline_head text o x))
one_part text p q (headless none e) (bad place b f) = absurd (let h = has_head text b.0 b.2 in none h.0 h.1 h.2)
one_part text p q (headless none e) (headless other f) = e ∙ sym f

are_one : (texts : List Bytes) (ps qs : List Part) → AreParts texts ps → AreParts texts qs → ps ≡ qs
are_one [] [] [] no_part no_part = refl
are_one [] [] (q ∷ qs) x y = elim y [ ]
are_one [] (p ∷ ps) qs x y = elim x [ ]
are_one (text ∷ texts) [] qs x y = elim x [ ]
are_one (text ∷ texts) (p ∷ ps) [] x y = elim y [ ]
are_one (text ∷ texts) (p ∷ ps) (q ∷ qs) (one_more x xs) (one_more y ys) = ap (λ z. z ∷ ps) (one_part text p q x y) ∙ ap (λ zs. q ∷ zs) (are_one texts ps qs xs ys)

-- ---- what is answered of texts

pub answers_texts : (texts front : List Bytes) (lines : Option Bytes) (ps : List Part) (answer : Result Scopes HeadFault) → IsSplit texts front lines → AreParts front ps → Answers ps lines answer → AnswersTexts texts answer
answers_texts texts front lines ps answer split are judged = λ qs others inputs.
    let s = one_split texts front inputs.front lines others split inputs.split in
    let e : ps ≡ qs = are_one front ps qs are (subst (λ ts. AreParts ts qs) (sym s.0) inputs.are) in
    subst (λ l. Answers qs l answer) s.1 (subst (λ rs. Answers rs lines answer) e judged)

says : (texts front : List Bytes) (lines : Option Bytes) (ps : List Part) → IsSplit texts front lines → AreParts front ps → (parts : List Part) × (lines : Option Bytes) × AreInputs texts parts lines
says texts front lines ps split are = (ps, lines, record { front = front; split = split; are = are })

pub say_something : (texts front : List Bytes) (lines : Option Bytes) (ps : List Part) (answer : Result Scopes HeadFault) → IsSplit texts front lines → AreParts front ps → SaySomething texts answer
say_something texts front lines ps (Ok scopes) split are = says texts front lines ps split are
say_something texts front lines ps (Err (head_fault.Refused place condition)) split are = says texts front lines ps split are
say_something texts front lines ps (Err (head_fault.Memory error)) split are = tt

-- Head parts: their sections one behind another, where the place at which the next begins is kept in 64 bits, and texts without an outline.
use Rattle.std.proofs.Common.{◌≡◌, ◌≤◌, ◌<◌, ◌+◌, ◌-◌, ◌^◌, ℕ, Bool, true, false, cond, min, codes, All, List, [], ◌∷◌, ◌++◌, length, take, get_or, Some, Result, Ok, Err, IfOk, inl, inr, refl, ap, sym, ◌∙◌, subst, arith}
use Rattle.std.proofs.Math.Nat.{min-eq_left, min-eq_right}
use Rattle.std.proofs.lemmas.Bool.{cases_lt}
use Rattle.std.proofs.lemmas.List.{take_more, length_push}
use Rattle.std.proofs.lemmas.List.Elements.{All-get_or}
use Rattle.std.proofs.lemmas.Result.{IfOk-weaker}
use Rattle.vd_cgrammar.specs.declared.parts.Decl.{Decl}
use Rattle.vd_cgrammar.specs.declared.parts.Decl.TheVariants as decl
use Rattle.vd_grammar.specs.declared.fault.ParseFault.{ParseFault}
use Rattle.vd_grammar.specs.declared.fault.ParseFault.TheVariants as fault
use Rattle.vd_heads.specs.declared.content.Content.{Content}
use Rattle.vd_heads.specs.declared.content.Content.TheVariants as content
use Rattle.vd_heads.specs.declared.content.HeadSection.{HeadSection}
use Rattle.vd_heads.specs.declared.content.Mention.{Mention}
use Rattle.vd_heads.specs.declared.content.Part.{Part}
use Rattle.vd_heads.specs.HeadPart.{is_head, head_sections}
use Rattle.vd_listing.specs.Listing.{IsCut}
use Rattle.vd_outline.specs.declared.outline.Outline.{Outline}
use Rattle.vd_outline.specs.declared.outline.TextKind.{TextKind}
use Rattle.vd_outline.specs.declared.section.Section.{Section}
use Rattle.vd_outline.specs.declared.section.SectionKind.{SectionKind}
use Rattle.vd_outline.specs.declared.section.SectionKind.TheVariants as section
use Rattle.vd_outline.specs.Fault.{IsBad}
use Rattle.vd_outline.specs.Lines.{joined}
use Rattle.vd_outline.specs.Outline.{Bytes, HasHead, IsSection, Outlines, head_line, header_line}
use Rattle.vd_outline.proofs.BodyLaws.{joined-append}
use Rattle.vd_outline.proofs.WordLaws.{lacks-header_line}
use Rattle.vd_sparse.specs.declared.text.LogicText.{LogicText}
use Rattle.vd_sparse.specs.declared.text.LogicText.TheVariants as logic
use Rattle.vd_scopes.specs.Head.{AllSay, DeclaresC, DeclaresLogic, IsPart, Lists, Says, bad, broken, declaration, fault_content, headless, listing, logic_content, nothing, outlined, placed, section_then, told}

-- ---- a section is cut behind its header line

pub section_cut : (kind : TextKind) (s : Section) (i : IsSection kind s) → IsCut s.text (header_line s.kind s.name) (joined i.lines)
section_cut kind s i = record {
  cut = i.bytes ∙ ap (λ x. header_line s.kind s.name ++ 10 ∷ x) (joined-append i.lines (codes "end" ∷ []));
  one_line = lacks-header_line s.kind s.name i.named;
}

pub section_among : (kind : TextKind) (xs : List Section) (n : ℕ) (x : Section) → n < length xs → x ≡ get_or xs n x → All (IsSection kind) xs → IsSection kind x
section_among kind xs n x below at all = subst (IsSection kind) (sym at) (All-get_or (IsSection kind) xs n x below all)

-- ---- places that are told alike

-- The places are told alike, and so are those behind them.
abbrev pub Alike : ℕ → ℕ → Type 0
Alike a b = (p : ℕ) → told (a + p) ≡ told (b + p)

plus_none : (n : ℕ) → n ≡ n + 0
plus_none n = omega arith

pub alike_here : (a b : ℕ) → Alike a b → told a ≡ told b
alike_here a b h = ap told (plus_none a) ∙ (h 0 ∙ ap told (sym (plus_none b)))

bounded : (most top x p : ℕ) → top ≤ most → min (min x most + p) top ≡ min (x + p) top
bounded most top x p h = elim (cases_lt most x) [
  | inl k ↦ ap (λ y. min (y + p) top) (min-eq_right (omega (arith, k))) ∙ (min-eq_right (omega (arith, h)) ∙ sym (min-eq_right (omega (arith, h, k))))
  | inr k ↦ ap (λ y. min (y + p) top) (min-eq_left k)
]

moved : (a n p : ℕ) → a + n + p ≡ a + (n + p)
moved a n p = omega arith

alike_next : (a b n next : ℕ) → Alike a b → next ≡ min (a + n) (2 ^ 64 - 1) → Alike next (b + n)
alike_next a b n next h e = λ p.
    ap (λ x. told (x + p)) e ∙ (bounded (2 ^ 64 - 1) (2 ^ 32 - 1) (a + n) p (omega arith) ∙ (ap told (moved a n p) ∙ (h (n + p) ∙ sym (ap told (moved b n p)))))

-- ---- what is said at places that are told alike

mention : Bytes → ℕ → Mention
mention name place = record { name = name; place = place }

placed_alike : (a b : ℕ) → Alike a b → (ms : List Mention) → placed a ms ≡ placed b ms
unfolding mention
placed_alike a b h [] = refl
placed_alike a b h (m ∷ ms) = ap (λ p. mention m.name p ∷ placed a ms) (h m.place) ∙ ap (λ r. mention m.name (told (b + m.place)) ∷ r) (placed_alike a b h ms)

listing_alike : (make : List Mention → Content) (a b : ℕ) → Alike a b → (r : Result (List Mention) ℕ) → listing make a r ≡ listing make b r
listing_alike make a b h (Ok names) = ap make (placed_alike a b h names)
listing_alike make a b h (Err place) = ap content.Unread (h place)

fault_alike : (a b : ℕ) → Alike a b → (why : ParseFault) → fault_content a why ≡ fault_content b why
fault_alike a b h (fault.Bad place) = ap content.Unread (h place)
fault_alike a b h (fault.Deep place) = ap content.Unread (h place)
fault_alike a b h fault.Memory = ap content.Unread (h 0)

declaration_alike : (a b : ℕ) → Alike a b → (r : Result Decl ParseFault) → declaration a r ≡ declaration b r
declaration_alike a b h (Ok (decl.Struct name fields)) = refl
declaration_alike a b h (Ok (decl.Global field values)) = refl
declaration_alike a b h (Err why) = fault_alike a b h why

logic_alike : (a b : ℕ) → Alike a b → (r : Result LogicText ParseFault) → logic_content a r ≡ logic_content b r
logic_alike a b h (Ok (logic.Abstract name sorts twice)) = refl
logic_alike a b h (Ok (logic.Pred pred twice)) = refl
logic_alike a b h (Ok (logic.Spec spec twice)) = refl
logic_alike a b h (Ok (logic.Script name steps)) = ap content.Unread (h 0)
logic_alike a b h (Ok (logic.Sub name steps)) = ap content.Unread (h 0)
logic_alike a b h (Ok (logic.Init first twice)) = ap content.Unread (h 0)
logic_alike a b h (Err why) = fault_alike a b h why

lists_alike : (make : List Mention → Content) (text : Bytes) (a b : ℕ) → Alike a b → (c : Content) → Lists make text a c → Lists make text b c
lists_alike make text a b h c s = record { answer = s.answer; listed = s.listed; says = s.says ∙ listing_alike make a b h s.answer }

c_alike : (text : Bytes) (a b : ℕ) → Alike a b → (c : Content) → DeclaresC text a c → DeclaresC text b c
c_alike text a b h c s = record { answer = s.answer; read = s.read; certain = s.certain; says = s.says ∙ declaration_alike a b h s.answer }

l_alike : (text : Bytes) (a b : ℕ) → Alike a b → (c : Content) → DeclaresLogic text a c → DeclaresLogic text b c
l_alike text a b h c s = record { answer = s.answer; read = s.read; certain = s.certain; says = s.says ∙ logic_alike a b h s.answer }

says_alike : (k : SectionKind) (text : Bytes) (a b : ℕ) → Alike a b → (c : Content) → Says k text a c → Says k text b c
says_alike section.Uses text a b h c s = lists_alike (λ names. content.Uses names) text a b h c s
says_alike section.Exports text a b h c s = lists_alike (λ names. content.Exports names) text a b h c s
says_alike section.Units text a b h c s = lists_alike (λ names. content.Uses names) text a b h c s
says_alike section.Struct text a b h c s = c_alike text a b h c s
says_alike section.Global text a b h c s = c_alike text a b h c s
says_alike section.Abstract text a b h c s = l_alike text a b h c s
says_alike section.Pred text a b h c s = l_alike text a b h c s
says_alike section.Spec text a b h c s = l_alike text a b h c s
says_alike section.Fn text a b h c s = lists_alike (λ names. content.Uses names) text a b h c s
says_alike section.Script text a b h c s = lists_alike (λ names. content.Uses names) text a b h c s
says_alike section.Sub text a b h c s = lists_alike (λ names. content.Uses names) text a b h c s
says_alike section.Init text a b h c s = lists_alike (λ names. content.Uses names) text a b h c s

-- ---- one section more

-- where the next section begins behind those from a place on
abbrev pub behind : ℕ → List Section → ℕ
behind at [] = at
behind at (s ∷ ss) = behind (at + length s.text) ss

behind_more : (at : ℕ) (ss : List Section) (s : Section) → behind at (ss ++ s ∷ []) ≡ behind at ss + length s.text
behind_more at [] s = refl
behind_more at (t ∷ ss) s = behind_more (at + length t.text) ss s

all_say_more : {at : ℕ} {ss : List Section} {hs : List HeadSection} (s : Section) (h : HeadSection) → AllSay at ss hs → h.place ≡ told (behind at ss) → Says s.kind s.text (behind at ss) h.content → AllSay at (ss ++ s ∷ []) (hs ++ h ∷ [])
all_say_more s h nothing p c = section_then p c nothing
all_say_more s h (section_then q d rest) p c = section_then q d (all_say_more s h rest p c)

heads_more : (xs : List Section) (x : Section) → head_sections (xs ++ x ∷ []) ≡ cond (is_head x.kind) (head_sections xs ++ x ∷ []) (head_sections xs)
heads_more [] x = refl
heads_more (y ∷ xs) x = go (is_head y.kind) (is_head x.kind) (heads_more xs x) where
  go : (a b : Bool) → head_sections (xs ++ x ∷ []) ≡ cond b (head_sections xs ++ x ∷ []) (head_sections xs)
      → cond a (y ∷ head_sections (xs ++ x ∷ [])) (head_sections (xs ++ x ∷ [])) ≡ cond b (cond a (y ∷ head_sections xs) (head_sections xs) ++ x ∷ []) (cond a (y ∷ head_sections xs) (head_sections xs))
  go false b e = e
  go true true e = ap (λ r. y ∷ r) e
  go true false e = ap (λ r. y ∷ r) e

heads_next : (xs : List Section) (n : ℕ) (x : Section) → n < length xs → x ≡ get_or xs n x → head_sections (take (n + 1) xs) ≡ cond (is_head x.kind) (head_sections (take n xs) ++ x ∷ []) (head_sections (take n xs))
heads_next xs n x below at = ap head_sections (take_more xs n x below ∙ ap (λ y. take n xs ++ y ∷ []) (sym at)) ∙ heads_more (take n xs) x

-- The head sections among these are read, the first of which begins at a place, and the next begins at one that is told alike.
pub record AreRead (begin at : ℕ) (ss : List Section) (found : List HeadSection) : Type 0 where
  pub said : AllSay begin (head_sections ss) found
  pub alike : Alike at (behind begin (head_sections ss))

pub none_read : (begin : ℕ) → AreRead begin begin [] []
none_read begin = record { said = nothing; alike = λ p. refl }

pub one_read : (begin at next : ℕ) (xs : List Section) (n : ℕ) (x : Section) (h : HeadSection) (found new : List HeadSection) → n < length xs → x ≡ get_or xs n x → is_head x.kind ≡ true → AreRead begin at (take n xs) found
    → h.place ≡ told at → Says x.kind x.text at h.content → next ≡ min (at + length x.text) (2 ^ 64 - 1) → new ≡ found ++ h ∷ [] → AreRead begin next (take (n + 1) xs) new
one_read begin at next xs n x h found new below item head r place says next_is new_is =
    let heads = head_sections (take n xs) in
    let e : head_sections (take (n + 1) xs) ≡ heads ++ x ∷ [] = heads_next xs n x below item ∙ ap (λ b. cond b (head_sections (take n xs) ++ x ∷ []) (head_sections (take n xs))) head in
    let more : AllSay begin (heads ++ x ∷ []) (found ++ h ∷ []) = all_say_more x h r.said (place ∙ alike_here at (behind begin heads) r.alike) (says_alike x.kind x.text at (behind begin heads) r.alike h.content says) in
    record {
      said = subst (λ ss. AllSay begin ss new) (sym e) (subst (λ hs. AllSay begin (heads ++ x ∷ []) hs) (sym new_is) more);
      alike = subst (λ b. Alike next b) (sym (ap (behind begin) e ∙ behind_more begin heads x)) (alike_next at (behind begin heads) (length x.text) next r.alike next_is);
    }

pub one_left : (begin at next : ℕ) (xs : List Section) (n : ℕ) (x : Section) (found new : List HeadSection) → n < length xs → x ≡ get_or xs n x → is_head x.kind ≡ false → next ≡ at → new ≡ found → AreRead begin at (take n xs) found
    → AreRead begin next (take (n + 1) xs) new
one_left begin at next xs n x found new below item head next_is new_is r =
    let e : head_sections (take (n + 1) xs) ≡ head_sections (take n xs) = heads_next xs n x below item ∙ ap (λ b. cond b (head_sections (take n xs) ++ x ∷ []) (head_sections (take n xs))) head in
    record {
      said = subst (λ ss. AllSay begin ss new) (sym e) (subst (λ hs. AllSay begin (head_sections (take n xs)) hs) (sym new_is) r.said);
      alike = subst (λ ss. Alike next (behind begin ss)) (sym e) (subst (λ k. Alike k (behind begin (head_sections (take n xs)))) (sym next_is) r.alike);
    }

-- ---- parts

pub outlined_says : (text : Bytes) (o : Outline) (line : Bytes) (begin : ℕ) (sections : List Section) (hs : List HeadSection) → line ≡ head_line o.kind o.name ++ 10 ∷ [] → begin ≡ length line → sections ≡ o.sections
    → Outlines text o → ((kind : TextKind) → All (IsSection kind) sections → AllSay begin (head_sections sections) hs) → IsPart text (record { head = Some (o.kind, o.name); sections = hs })
outlined_says text o line begin sections hs is at same outlines said =
    let all : All (IsSection o.kind) sections = subst (λ ss. All (IsSection o.kind) ss) (sym same) outlines.sections in
    let e : begin ≡ length (head_line o.kind o.name) + 1 = at ∙ (ap length is ∙ length_push (head_line o.kind o.name) 10) in
    outlined o outlines refl (subst (λ k. AllSay k (head_sections o.sections) hs) e (subst (λ ss. AllSay begin (head_sections ss) hs) same (said o.kind all)))

broken_says : (text : Bytes) (place : ℕ) → IsBad text place → (p : Part) → p ≡ broken place → IsPart text p
broken_says text place is p e = bad place is e

pub bad_says : {E : Type 0} (text : Bytes) (place : ℕ) (r : Result Part E) → IsBad text place → IfOk r (λ p. p ≡ broken place) → IfOk r (IsPart text)
bad_says text place r is h = IfOk-weaker r (λ p. p ≡ broken place) (IsPart text) (broken_says text place is) h

pub headless_says : {E : Type 0} (text : Bytes) (r : Result Part E) → ((kind : TextKind) (name : Bytes) → HasHead text kind name → ⊥) → IfOk r (λ p. p ≡ broken 0) → IfOk r (IsPart text)
headless_says text r none h = IfOk-weaker r (λ p. p ≡ broken 0) (IsPart text) (λ p e. headless none e) h

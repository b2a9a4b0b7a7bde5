-- What the sections that are seen add to scopes.
use Rattle.std.proofs.Common.{◌≡◌, ◌↔◌, ℕ, suc, ◌+◌, ◌<◌, ◌≤◌, Bool, true, false, cond, List, [], ◌∷◌, ◌++◌, length, get_or, take, refl, ap, sym, ◌∙◌, subst, arith}
use Rattle.std.specs.List.{flat_map}
use Rattle.std.proofs.lemmas.Bool.{false≢true}
use Rattle.std.proofs.lemmas.List.{append-nil, flat_map_more, take_more, take_all, length-take-le}
use Rattle.vd_heads.specs.declared.content.Content.{Content}
use Rattle.vd_heads.specs.declared.content.HeadSection.{HeadSection}
use Rattle.vd_heads.specs.declared.content.Part.{Part}
use Rattle.vd_heads.specs.Closure.{Reaches}
use Rattle.vd_heads.specs.Views.{is_marked}
use Rattle.vd_scopes.specs.declared.scope.Scopes.{Scopes}
use Rattle.vd_scopes.specs.Scope.{Adds, AddsOne, AreScopes, AreSeen, no_more, seen, unseen, HasStructs, declared_in, globals_in, signatures_in, preds_in, specs_in}

-- ---- sections

pub adds_nothing : (s : Scopes) → Adds [] s s
adds_nothing s = record {
  structs = refl;
  globals = sym (append-nil s.c.globals);
  functions = sym (append-nil s.c.fns);
  predicates = sym (append-nil s.logic.preds);
  specifications = sym (append-nil s.logic.specs);
}

pub adds_more : (hs : List HeadSection) (i : ℕ) (h : HeadSection) (s u v : Scopes) → i < length hs → h ≡ get_or hs i h → Adds (take i hs) s u → AddsOne h.content u v → Adds (take (i + 1) hs) s v
adds_more hs i h s u v within at before now = record {
  structs = now.structs ∙ before.structs;
  globals = more globals_in s.c.globals u.c.globals v.c.globals before.globals now.globals;
  functions = more signatures_in s.c.fns u.c.fns v.c.fns before.functions now.functions;
  predicates = more preds_in s.logic.preds u.logic.preds v.logic.preds before.predicates now.predicates;
  specifications = more specs_in s.logic.specs u.logic.specs v.logic.specs before.specifications now.specifications;
} where
  step : take i hs ++ h ∷ [] ≡ take (i + 1) hs
  step = sym (take_more hs i h within ∙ ap (λ y. take i hs ++ y ∷ []) (sym at))

  more : {X : Type 0} (f : Content → List X) (a b c : List X) → b ≡ a ++ flat_map (λ x. f x.content) (take i hs) → c ≡ b ++ f h.content → c ≡ a ++ flat_map (λ x. f x.content) (take (i + 1) hs)
  more f a b c first second = second ∙ (ap (λ x. x ++ f h.content) first ∙ (flat_map_more (λ x. f x.content) a (take i hs) h ∙ ap (λ x. a ++ flat_map (λ y. f y.content) x) step))

pub adds_seen : (b : Bool) (hs gs : List HeadSection) (s t : Scopes) → b ≡ true → gs ≡ hs → Adds gs s t → Adds (cond b hs []) s t
adds_seen true hs gs s t e same adds = let P : List HeadSection → Type 0 = λ xs. Adds xs s t in subst P same adds
adds_seen false hs gs s t e same adds = cc

pub adds_unseen : (b : Bool) (hs : List HeadSection) (s : Scopes) → b ≡ false → Adds (cond b hs []) s s
adds_unseen true hs s e = cc
adds_unseen false hs s e = adds_nothing s

-- ---- parts

seen_more : (parts : List Part) (k : ℕ) (ps qs : List Part) (p : Part) (m : ℕ) → m ≡ k + length ps → Reaches parts 0 m → AreSeen parts k ps qs → AreSeen parts k (ps ++ p ∷ []) (qs ++ p ∷ [])
seen_more parts k ps qs p m e r no_more = let P : ℕ → Type 0 = λ x. Reaches parts 0 x in let q : m ≡ k = omega (arith, e) in seen (subst P q r) no_more
seen_more parts k ps qs p m e r (seen {ps = ps'} {qs = qs'} s rest) = seen s (seen_more parts (suc k) ps' qs' p m (omega (arith, e)) r rest)
seen_more parts k ps qs p m e r (unseen {ps = ps'} {qs = qs'} s rest) = unseen s (seen_more parts (suc k) ps' qs' p m (omega (arith, e)) r rest)

unseen_more : (parts : List Part) (k : ℕ) (ps qs : List Part) (p : Part) (m : ℕ) → m ≡ k + length ps → (Reaches parts 0 m → ⊥) → AreSeen parts k ps qs → AreSeen parts k (ps ++ p ∷ []) qs
unseen_more parts k ps qs p m e r no_more = let P : ℕ → Type 0 = λ x. Reaches parts 0 x in let q : k ≡ m = omega (arith, e) in unseen (λ h. r (subst P q h)) no_more
unseen_more parts k ps qs p m e r (seen {ps = ps'} {qs = qs'} s rest) = seen s (unseen_more parts (suc k) ps' qs' p m (omega (arith, e)) r rest)
unseen_more parts k ps qs p m e r (unseen {ps = ps'} {qs = qs'} s rest) = unseen s (unseen_more parts (suc k) ps' qs' p m (omega (arith, e)) r rest)

-- What is declared by the parts that are seen among the first n is there, and the structs are as they were.
pub record IsSoFar (parts : List Part) (n : ℕ) (first s : Scopes) : Type 0 where
  pub closure : List Part
  pub is_closure : AreSeen parts 0 (take n parts) closure
  pub structs : s.c.structs ≡ first.c.structs
  pub globals : s.c.globals ≡ declared_in globals_in closure
  pub functions : s.c.fns ≡ declared_in signatures_in closure
  pub predicates : s.logic.preds ≡ declared_in preds_in closure
  pub specifications : s.logic.specs ≡ declared_in specs_in closure

pub so_far_begun : (parts : List Part) (s : Scopes) → s.c.globals ≡ [] → s.c.fns ≡ [] → s.logic.preds ≡ [] → s.logic.specs ≡ [] → IsSoFar parts 0 s s
so_far_begun parts s a b c d = record { closure = []; is_closure = no_more; structs = refl; globals = a; functions = b; predicates = c; specifications = d }

pub so_far_more : (parts : List Part) (marks : List Bool) → ((k : ℕ) → (is_marked marks k ≡ true) ↔ ((k < length parts) × Reaches parts 0 k)) → (n : ℕ) (p : Part) (first s t : Scopes) → n < length parts → p ≡ get_or parts n p
    → IsSoFar parts n first s → Adds (cond (is_marked marks n) p.sections []) s t → IsSoFar parts (n + 1) first t
so_far_more parts marks is n p first s t within at before adds = go (is_marked marks n) refl adds where
  step : take n parts ++ p ∷ [] ≡ take (n + 1) parts
  step = sym (take_more parts n p within ∙ ap (λ y. take n parts ++ y ∷ []) (sym at))

  long : n ≡ 0 + length (take n parts)
  long = let e = length-take-le n parts (omega arith) in omega (arith, e)

  more : {X : Type 0} (f : Content → List X) (b c : List X) → b ≡ declared_in f before.closure → c ≡ b ++ flat_map (λ h. f h.content) p.sections → c ≡ declared_in f (before.closure ++ p ∷ [])
  more f b c was now = now ∙ (ap (λ x. x ++ flat_map (λ h. f h.content) p.sections) was ∙ flat_map_more (λ q. flat_map (λ h. f h.content) q.sections) [] before.closure p)

  less : {X : Type 0} (b c d : List X) → b ≡ d → c ≡ b ++ [] → c ≡ d
  less b c d was now = now ∙ (append-nil b ∙ was)

  go : (b : Bool) → is_marked marks n ≡ b → Adds (cond b p.sections []) s t → IsSoFar parts (n + 1) first t
  go true e a = record {
    closure = before.closure ++ p ∷ [];
    is_closure = (let P : List Part → Type 0 = λ ps. AreSeen parts 0 ps (before.closure ++ p ∷ []) in subst P step (seen_more parts 0 (take n parts) before.closure p n long ((is n).0 e).1 before.is_closure));
    structs = a.structs ∙ before.structs;
    globals = more globals_in s.c.globals t.c.globals before.globals a.globals;
    functions = more signatures_in s.c.fns t.c.fns before.functions a.functions;
    predicates = more preds_in s.logic.preds t.logic.preds before.predicates a.predicates;
    specifications = more specs_in s.logic.specs t.logic.specs before.specifications a.specifications;
  }
  go false e a = record {
    closure = before.closure;
    is_closure = (let P : List Part → Type 0 = λ ps. AreSeen parts 0 ps before.closure in
        subst P step (unseen_more parts 0 (take n parts) before.closure p n long (λ r. false≢true (sym e ∙ (is n).1 (within, r))) before.is_closure));
    structs = a.structs ∙ before.structs;
    globals = less s.c.globals t.c.globals (declared_in globals_in before.closure) before.globals a.globals;
    functions = less s.c.fns t.c.fns (declared_in signatures_in before.closure) before.functions a.functions;
    predicates = less s.logic.preds t.logic.preds (declared_in preds_in before.closure) before.predicates a.predicates;
    specifications = less s.logic.specs t.logic.specs (declared_in specs_in before.closure) before.specifications a.specifications;
  }

pub scopes_all : (parts : List Part) (n : ℕ) (first s : Scopes) → length parts ≤ n → HasStructs parts first.c.structs → IsSoFar parts n first s → AreScopes parts s
scopes_all parts n first s all structs far = record {
  closure = far.closure;
  is_closure = (let P : List Part → Type 0 = λ ps. AreSeen parts 0 ps far.closure in subst P (take_all n parts all) far.is_closure);
  structs = subst (λ t. HasStructs parts t) (sym far.structs) structs;
  globals = far.globals;
  functions = far.functions;
  predicates = far.predicates;
  specifications = far.specifications;
}

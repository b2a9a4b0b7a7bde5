-- The scope that the head part of a text gives.
use Rattle.std.proofs.Common.{◌≡◌, ◌≢◌, ◌<◌, ℕ, suc, Bool, true, false, IfOk, List, [], ◌∷◌, ◌++◌, length, Option, None, Some, Result, Ok, Err, refl, ap, sym, ◌∙◌, subst, arith}
use Rattle.std.specs.declared.alloc.AllocError.{AllocError}
use Rattle.vd_clight.specs.declared.program.CScope.{CScope}
use Rattle.vd_clight.specs.declared.program.GlobalDef.{GlobalDef}
use Rattle.vd_clight.specs.declared.typed.TypedFn.{TypedFn}
use Rattle.vd_heads.specs.declared.content.Part.{Part}
use Rattle.vd_heads.specs.Closure.{IsUnambiguous}
use Rattle.vd_heads.specs.HeadPart.{head_part}
use Rattle.vd_outline.specs.declared.outline.Outline.{Outline}
use Rattle.vd_outline.specs.declared.section.Section.{Section}
use Rattle.vd_outline.specs.Outline.{Bytes}
use Rattle.vd_scopes.specs.declared.scope.Scopes.{Scopes}
use Rattle.vd_scopes.specs.declared.verdict.HeadFault.{HeadFault}
use Rattle.vd_scopes.specs.declared.verdict.HeadFault.TheVariants as fault
use Rattle.vd_scopes.specs.Answers.{AnswersTexts, AreInputs, SaySomething}
use Rattle.vd_scopes.specs.Failing.{Accepts, IsFirstPart, twice}
use Rattle.vd_scopes.specs.Head.{AreParts}
use Rattle.vd_scopes.specs.Scope.{AreScopes, AreSeen, declared_in, globals_in, no_more, seen, signatures_in, unseen}
use Rattle.vd_ctyping.specs.Alike.{TellTheSame}
use Rattle.vd_code.specs.Alike.{IsScopeOf}
use Rattle.vd_code.specs.Code.{Adds, IsAdded, IsAlone, IsNoCode}
use Rattle.vd_linkage.specs.Program.{HasCode, HasScope, IsFunction, IsGlobal, fn_section, global_section, no_sections, other_section}
use Rattle.vd_code.specs.declared.code.Code.{Code}
use Rattle.vd_scopes.proofs.Meaning.{is_unambiguous}
use Rattle.vd_code.proofs.StructsAlike.{structs_alike}
use Rattle.vd_ctyping.proofs.TypedAlike.{typed_alike}

-- ---- what is seen

-- what is in the closure is one list
one_closure : (parts : List Part) (k : ℕ) (ps qs rs : List Part) → AreSeen parts k ps qs → AreSeen parts k ps rs → qs ≡ rs
one_closure parts k [] qs rs no_more no_more = refl
one_closure parts k (p ∷ ps) qs rs (seen {qs = vs} x a) (seen {qs = ws} y b) = ap (λ z. p ∷ z) (one_closure parts (suc k) ps vs ws a b)
one_closure parts k (p ∷ ps) qs rs (seen x a) (unseen y b) = absurd (y x)
one_closure parts k (p ∷ ps) qs rs (unseen x a) (seen y b) = absurd (x y)
one_closure parts k (p ∷ ps) qs rs (unseen x a) (unseen y b) = one_closure parts (suc k) ps qs rs a b

scopes_alike : (parts : List Part) → IsUnambiguous parts 0 → (x y : Scopes) → AreScopes parts x → AreScopes parts y → TellTheSame x.c y.c
scopes_alike parts one x y a b =
    let same = one_closure parts 0 parts a.closure b.closure a.is_closure b.is_closure in
    record {
      structs = structs_alike parts one x.c.structs y.c.structs a.structs b.structs;
      globals = a.globals ∙ (ap (declared_in globals_in) same ∙ sym b.globals);
      functions = a.functions ∙ (ap (declared_in signatures_in) same ∙ sym b.functions);
    }

-- ---- one text

-- one text is not some in front of another
not_cut : (x y : Bytes) (front : List Bytes) → front ≢ [] → x ∷ [] ≡ front ++ y ∷ [] → ⊥
not_cut x y [] some e = some refl
not_cut x y (z ∷ []) some e = cc
not_cut x y (z ∷ w ∷ front) some e = cc

-- a single text is a head part, and not header lines
no_lines : (text : Bytes) (parts : List Part) (lines : Option Bytes) → AreInputs (text ∷ []) parts lines → lines ≡ None
no_lines text parts None i = refl
no_lines text parts (Some line) i = absurd (not_cut text line i.front i.split.behind i.split.cut)

-- one part is read of it
a_part : (text : Bytes) (front : List Bytes) (parts : List Part) → front ≡ text ∷ [] → AreParts front parts → 0 < length parts
a_part text [] parts e a = absurd (cc)
a_part text (x ∷ front) [] e a = elim a [ ]
a_part text (x ∷ front) (p ∷ ps) e a = omega arith

some_part : (text : Bytes) (parts : List Part) → AreInputs (text ∷ []) parts None → 0 < length parts
some_part text parts i = a_part text i.front parts i.split.0 i.are

-- where no condition fails of it, a name means one thing at most
one_meaning : (text : Bytes) (parts : List Part) → AreInputs (text ∷ []) parts None → Accepts parts None → IsUnambiguous parts 0
one_meaning text parts i accepted = is_unambiguous parts 0 (λ place f. accepted 0 (some_part text parts i) 3 place (twice f refl))

module _ (text : Bytes) (texts : List Bytes) (one : texts ≡ text ∷ []) where
  pub is_scope : (scopes : Scopes) → AnswersTexts texts (Ok scopes) → SaySomething texts (Ok scopes) → IsScopeOf (text ∷ []) scopes.c
  is_scope scopes answers something =
      let says : (parts : List Part) × (lines : Option Bytes) × AreInputs (text ∷ []) parts lines = subst (λ ts. (parts : List Part) × (lines : Option Bytes) × AreInputs ts parts lines) one something in
      let parts = says.0 in
      let inputs = subst (λ l. AreInputs (text ∷ []) parts l) (no_lines text parts says.1 says.2) says.2 in
      let answer = answered scopes answers parts inputs in
      record {
        has = record { parts = parts; say = inputs; accepted = answer.0; scopes = scopes; are = answer.1; is = refl };
        same = λ other h. (
            let mine = answered scopes answers h.parts h.say in
            subst (TellTheSame scopes.c) (sym h.is) (scopes_alike h.parts (one_meaning text h.parts h.say h.accepted) scopes h.scopes mine.1 h.are));
      } where
        answered : (scopes : Scopes) → AnswersTexts texts (Ok scopes) → (parts : List Part) → AreInputs (text ∷ []) parts None → Accepts parts None × AreScopes parts scopes
        answered scopes answers parts inputs = answers parts None (subst (λ ts. AreInputs ts parts None) (sym one) inputs)

  pub no_scope : (why : HeadFault) (place condition : ℕ) → why ≡ fault.Refused place condition → AnswersTexts texts (Err why) → (scope : CScope) → HasScope (text ∷ []) scope → ⊥
  no_scope why place condition e answers scope h =
      let refused : IsFirstPart h.parts condition place = subst (λ w. AnswersTexts texts (Err w)) e answers h.parts None (subst (λ ts. AreInputs ts h.parts None) (sym one) h.say) in
      h.accepted refused.number refused.stands condition place refused.first.fails

-- ---- code under scopes that tell the same

function_alike : (x y : CScope) (s : Section) (t : TypedFn) → TellTheSame x y → IsFunction x s t → IsFunction y s t
function_alike x y s t same f = record { function = f.function; read = f.read; typed = typed_alike x y f.function t same f.typed }

global_alike : (x y : CScope) (s : Section) (g : GlobalDef) → TellTheSame x y → IsGlobal x s g → IsGlobal y s g
global_alike x y s g same h = record { field = h.field; read = h.read; named = h.named; cells = sym (same.structs.sizes h.field.typ) ∙ h.cells }

code_alike : (x y : CScope) (ss : List Section) (ts : List TypedFn) (gs : List GlobalDef) → TellTheSame x y → HasCode x ss ts gs → HasCode y ss ts gs
code_alike x y [] ts gs same no_sections = no_sections
code_alike x y (s ∷ ss) ts gs same (fn_section {t = t} {ts = vs} e f r) = fn_section e (function_alike x y s t same f) (code_alike x y ss vs gs same r)
code_alike x y (s ∷ ss) ts gs same (global_section {g = g} {gs = ws} e f r) = global_section e (global_alike x y s g same f) (code_alike x y ss ts ws same r)
code_alike x y (s ∷ ss) ts gs same (other_section e f r) = other_section e f (code_alike x y ss ts gs same r)

same_back : (x y : CScope) → TellTheSame x y → TellTheSame y x
same_back x y same = record {
  structs = record { sizes = λ t. sym (same.structs.sizes t); slots = λ s f. sym (same.structs.slots s f); types = λ s i. sym (same.structs.types s i) };
  globals = sym same.globals;
  functions = sym same.functions;
}

-- ---- units

module _ (o : Outline) (scope : CScope) (is : IsScopeOf (head_part o ∷ []) scope) where
  its_code : (ts : List TypedFn) (gs : List GlobalDef) → IsAlone o ts gs → HasCode scope o.sections ts gs
  its_code ts gs a = code_alike a.scope scope o.sections ts gs (same_back scope a.scope (is.same a.scope a.scoped)) a.code

  unit_added : (old new : Code) → IsAdded (HasCode scope o.sections) old new → IsAdded (IsAlone o) old new
  unit_added old new a = record {
    fns = a.fns;
    globals = a.globals;
    is = record { has = record { scope = scope; scoped = is.has; code = a.is.has }; only = λ us hs h. a.is.only us hs (its_code us hs h) };
    joined_fns = a.joined_fns;
    joined_globals = a.joined_globals;
  }

  pub unit_code : (sections : List Section) (old new : Code) (answer : Result Bool AllocError) → sections ≡ o.sections → IfOk answer (Adds (HasCode scope sections) old new) → IfOk answer (Adds (IsAlone o) old new)
  unit_code sections old new (Ok true) e a = unit_added old new (subst (λ ss. IsAdded (HasCode scope ss) old new) e a)
  unit_code sections old new (Ok false) e none = λ us hs h. none us hs (subst (λ ss. HasCode scope ss us hs) (sym e) (its_code us hs h))
  unit_code sections old new (Err why) e a = tt

pub unit_no_scope : (o : Outline) → ((scope : CScope) → HasScope (head_part o ∷ []) scope → ⊥) → IsNoCode (IsAlone o)
unit_no_scope o none us hs h = none h.scope h.scoped

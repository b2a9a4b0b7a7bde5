-- Code of sections, put together.
use Rattle.std.proofs.Common.{◌≡◌, ◌<◌, ◌+◌, ℕ, zero, suc, Bool, Result, IfOk, List, [], ◌∷◌, ◌++◌, length, take, get_or, None, Some, refl, ap, sym, ◌∙◌, subst, arith, append-nil, append_assoc}
use Rattle.std.proofs.lemmas.List.{take_more}
use Rattle.std.specs.declared.alloc.AllocError.{AllocError}
use Rattle.vd_clight.specs.declared.program.CScope.{CScope}
use Rattle.vd_clight.specs.declared.program.GlobalDef.{GlobalDef}
use Rattle.vd_clight.specs.declared.typed.TypedFn.{TypedFn}
use Rattle.vd_outline.specs.declared.section.Section.{Section}
use Rattle.vd_outline.specs.declared.section.SectionKind.{SectionKind}
use Rattle.vd_outline.specs.declared.section.SectionKind.TheVariants as section
use Rattle.vd_code.specs.declared.code.Code.{Code}
use Rattle.vd_code.specs.Code.{Adds, IsAdded, IsNoCode, IsOnlyCode}
use Rattle.vd_linkage.specs.Only.{IsOnly}
use Rattle.vd_linkage.specs.Program.{HasCode, IsFunction, IsGlobal, fn_section, global_section, no_sections, other_section}

-- ---- one section

fn_no_global : (k : SectionKind) → k ≡ section.Fn → k ≡ section.Global → ⊥
fn_no_global k e f = (let g : section.Fn ≡ section.Global = sym e ∙ f in cc)

module _ (scope : CScope) (s : Section) where
  fn_code : (t : TypedFn) → s.kind ≡ section.Fn → IsOnly (IsFunction scope s) (Some t) → IsOnlyCode (HasCode scope (s ∷ [])) (t ∷ []) []
  fn_code t e is = record { has = fn_section e is.0 no_sections; only = λ us hs h. go us hs h } where
    go : (us : List TypedFn) (hs : List GlobalDef) → HasCode scope (s ∷ []) us hs → (us ≡ t ∷ []) × (hs ≡ [])
    go us hs (fn_section {t = u} f x no_sections) = (ap (λ v. v ∷ []) (is.1 u x), refl)
    go us hs (global_section f x no_sections) = absurd (fn_no_global s.kind e f)
    go us hs (other_section f g no_sections) = absurd (f e)

  pub fn_none : s.kind ≡ section.Fn → IsOnly (IsFunction scope s) None → IsNoCode (HasCode scope (s ∷ []))
  fn_none e none us hs (fn_section {t = u} f x no_sections) = none u x
  fn_none e none us hs (global_section f x no_sections) = fn_no_global s.kind e f
  fn_none e none us hs (other_section f g no_sections) = f e

  global_code : (g : GlobalDef) → s.kind ≡ section.Global → IsOnly (IsGlobal scope s) (Some g) → IsOnlyCode (HasCode scope (s ∷ [])) [] (g ∷ [])
  global_code g e is = record { has = global_section e is.0 no_sections; only = λ us hs h. go us hs h } where
    go : (us : List TypedFn) (hs : List GlobalDef) → HasCode scope (s ∷ []) us hs → (us ≡ []) × (hs ≡ g ∷ [])
    go us hs (fn_section f x no_sections) = absurd (fn_no_global s.kind f e)
    go us hs (global_section {g = u} f x no_sections) = (refl, ap (λ v. v ∷ []) (is.1 u x))
    go us hs (other_section f h no_sections) = absurd (h e)

  pub global_none : s.kind ≡ section.Global → IsOnly (IsGlobal scope s) None → IsNoCode (HasCode scope (s ∷ []))
  global_none e none us hs (fn_section f x no_sections) = fn_no_global s.kind f e
  global_none e none us hs (global_section {g = u} f x no_sections) = none u x
  global_none e none us hs (other_section f g no_sections) = g e

  other_code : (s.kind ≡ section.Fn → ⊥) → (s.kind ≡ section.Global → ⊥) → IsOnlyCode (HasCode scope (s ∷ [])) [] []
  other_code e f = record { has = other_section e f no_sections; only = λ us hs h. go us hs h } where
    go : (us : List TypedFn) (hs : List GlobalDef) → HasCode scope (s ∷ []) us hs → (us ≡ []) × (hs ≡ [])
    go us hs (fn_section g x no_sections) = absurd (e g)
    go us hs (global_section g x no_sections) = absurd (f g)
    go us hs (other_section g h no_sections) = (refl, refl)

  -- what one section adds

  pub fn_added : (t : TypedFn) (old new : Code) → s.kind ≡ section.Fn → IsOnly (IsFunction scope s) (Some t) → new.fns ≡ old.fns ++ t ∷ [] → new.globals ≡ old.globals → IsAdded (HasCode scope (s ∷ [])) old new
  fn_added t old new e is f g = record { fns = t ∷ []; globals = []; is = fn_code t e is; joined_fns = f; joined_globals = g ∙ sym (append-nil old.globals) }

  pub global_added : (g : GlobalDef) (old new : Code) → s.kind ≡ section.Global → IsOnly (IsGlobal scope s) (Some g) → new.fns ≡ old.fns → new.globals ≡ old.globals ++ g ∷ [] → IsAdded (HasCode scope (s ∷ [])) old new
  global_added g old new e is f h = record { fns = []; globals = g ∷ []; is = global_code g e is; joined_fns = f ∙ sym (append-nil old.fns); joined_globals = h }

  pub other_added : (code : Code) → (s.kind ≡ section.Fn → ⊥) → (s.kind ≡ section.Global → ⊥) → IsAdded (HasCode scope (s ∷ [])) code code
  other_added code e f = record { fns = []; globals = []; is = other_code e f; joined_fns = sym (append-nil code.fns); joined_globals = sym (append-nil code.globals) }

-- ---- sections one behind another

code_append : (scope : CScope) (ss rs : List Section) (ts us : List TypedFn) (gs hs : List GlobalDef) → HasCode scope ss ts gs → HasCode scope rs us hs → HasCode scope (ss ++ rs) (ts ++ us) (gs ++ hs)
code_append scope [] rs ts us gs hs no_sections b = b
code_append scope (s ∷ ss) rs ts us gs hs (fn_section {ts = vs} e x r) b = fn_section e x (code_append scope ss rs vs us gs hs r b)
code_append scope (s ∷ ss) rs ts us gs hs (global_section {gs = ws} e x r) b = global_section e x (code_append scope ss rs ts us ws hs r b)
code_append scope (s ∷ ss) rs ts us gs hs (other_section e f r) b = other_section e f (code_append scope ss rs ts us gs hs r b)

-- code of sections is that of those in front and that of those behind
record IsSplit (scope : CScope) (ss rs : List Section) (ts : List TypedFn) (gs : List GlobalDef) : Type 0 where
  pub front_fns : List TypedFn
  pub front_globals : List GlobalDef
  pub back_fns : List TypedFn
  pub back_globals : List GlobalDef
  pub front : HasCode scope ss front_fns front_globals
  pub back : HasCode scope rs back_fns back_globals
  pub fns : ts ≡ front_fns ++ back_fns
  pub globals : gs ≡ front_globals ++ back_globals

code_split : (scope : CScope) (ss rs : List Section) (ts : List TypedFn) (gs : List GlobalDef) → HasCode scope (ss ++ rs) ts gs → IsSplit scope ss rs ts gs
code_split scope [] rs ts gs h = record { front_fns = []; front_globals = []; back_fns = ts; back_globals = gs; front = no_sections; back = h; fns = refl; globals = refl }
code_split scope (s ∷ ss) rs ts gs (fn_section {t = t} {ts = us} e x r) = (let p = code_split scope ss rs us gs r in
    record { front_fns = t ∷ p.front_fns; front_globals = p.front_globals; back_fns = p.back_fns; back_globals = p.back_globals; front = fn_section e x p.front; back = p.back; fns = ap (λ z. t ∷ z) p.fns; globals = p.globals })
code_split scope (s ∷ ss) rs ts gs (global_section {g = g} {gs = hs} e x r) = (let p = code_split scope ss rs ts hs r in
    record { front_fns = p.front_fns; front_globals = g ∷ p.front_globals; back_fns = p.back_fns; back_globals = p.back_globals; front = global_section e x p.front; back = p.back; fns = p.fns; globals = ap (λ z. g ∷ z) p.globals })
code_split scope (s ∷ ss) rs ts gs (other_section e f r) = (let p = code_split scope ss rs ts gs r in
    record { front_fns = p.front_fns; front_globals = p.front_globals; back_fns = p.back_fns; back_globals = p.back_globals; front = other_section e f p.front; back = p.back; fns = p.fns; globals = p.globals })

-- ---- code so far

pub none_added : (scope : CScope) (code : Code) → IsAdded (HasCode scope []) code code
none_added scope code = record { fns = []; globals = []; is = record { has = no_sections; only = λ us hs h. go us hs h }; joined_fns = sym (append-nil code.fns); joined_globals = sym (append-nil code.globals) } where
  go : (us : List TypedFn) (hs : List GlobalDef) → HasCode scope [] us hs → (us ≡ []) × (hs ≡ [])
  go us hs no_sections = (refl, refl)

joined : {X : Type 0} (a b c xs ys : List X) → b ≡ a ++ xs → c ≡ b ++ ys → c ≡ a ++ (xs ++ ys)
joined a b c xs ys e f = f ∙ (ap (λ z. z ++ ys) e ∙ append_assoc a xs ys)

both_added : (scope : CScope) (ss : List Section) (s : Section) (old mid new : Code) → IsAdded (HasCode scope ss) old mid → IsAdded (HasCode scope (s ∷ [])) mid new → IsAdded (HasCode scope (ss ++ s ∷ [])) old new
both_added scope ss s old mid new a b = record {
  fns = a.fns ++ b.fns;
  globals = a.globals ++ b.globals;
  is = record {
    has = code_append scope ss (s ∷ []) a.fns b.fns a.globals b.globals a.is.has b.is.has;
    only = λ us hs h. (
        let p = code_split scope ss (s ∷ []) us hs h in
        let x = a.is.only p.front_fns p.front_globals p.front in
        let y = b.is.only p.back_fns p.back_globals p.back in
        (p.fns ∙ (ap (λ z. z ++ p.back_fns) x.0 ∙ ap (λ z. a.fns ++ z) y.0), p.globals ∙ (ap (λ z. z ++ p.back_globals) x.1 ∙ ap (λ z. a.globals ++ z) y.1)));
  };
  joined_fns = joined old.fns mid.fns new.fns a.fns b.fns a.joined_fns b.joined_fns;
  joined_globals = joined old.globals mid.globals new.globals a.globals b.globals a.joined_globals b.joined_globals;
}

pub added_more : (scope : CScope) (ss : List Section) (i : ℕ) (s : Section) (old mid new : Code) → i < length ss → s ≡ get_or ss i s → IsAdded (HasCode scope (take i ss)) old mid → IsAdded (HasCode scope (s ∷ [])) mid new
    → IsAdded (HasCode scope (take (i + 1) ss)) old new
added_more scope ss i s old mid new within at a b =
    subst (λ xs. IsAdded (HasCode scope xs) old new) (sym (take_more ss i s within ∙ ap (λ z. take i ss ++ z ∷ []) (sym at))) (both_added scope (take i ss) s old mid new a b)

-- a section without code is among them
pub none_whole : (scope : CScope) (ss : List Section) (i : ℕ) (s : Section) → i < length ss → s ≡ get_or ss i s → IsNoCode (HasCode scope (s ∷ [])) → IsNoCode (HasCode scope ss)
none_whole scope [] i s within at none us hs h = absurd (omega (arith, within))
none_whole scope (r ∷ ss) zero s within at none us hs h =
    let p = code_split scope (r ∷ []) ss us hs h in
    none p.front_fns p.front_globals (subst (λ z. HasCode scope (z ∷ []) p.front_fns p.front_globals) (sym at) p.front)
none_whole scope (r ∷ ss) (suc i) s within at none us hs h =
    let p = code_split scope (r ∷ []) ss us hs h in
    none_whole scope ss i s (omega (arith, within)) at none p.back_fns p.back_globals p.back

-- under the same scope the same is added
pub same_scope : (here scope : CScope) (ss : List Section) (old new : Code) (more : Result Bool AllocError) → here ≡ scope → IfOk more (Adds (HasCode here ss) old new) → IfOk more (Adds (HasCode scope ss) old new)
same_scope here scope ss old new more same h = subst (λ x. IfOk more (Adds (HasCode x ss) old new)) same h

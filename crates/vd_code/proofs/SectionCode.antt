-- The function and the global of a section.
use Rattle.std.proofs.Common.{◌≡◌, ◌≢◌, ℕ, List, None, Some, Ok, Err, refl, ap, sym, ◌∙◌, subst}
use Rattle.vd_base.specs.declared.ctype.Field.{Field}
use Rattle.vd_base.specs.Layout.{size_of}
use Rattle.vd_clight.specs.declared.program.CScope.{CScope}
use Rattle.vd_clight.specs.declared.program.GlobalDef.{GlobalDef}
use Rattle.vd_clight.specs.declared.program.Init.{Init}
use Rattle.vd_clight.specs.declared.syntax.FnText.{FnText}
use Rattle.vd_clight.specs.declared.typed.TypedFn.{TypedFn}
use Rattle.vd_cgrammar.specs.declared.parts.Decl.TheVariants as decl
use Rattle.vd_cparse.specs.Section.{AnswersDecl, IsFnSection}
use Rattle.vd_judge.specs.declared.fault.TypeFault.{TypeFault}
use Rattle.vd_judge.specs.declared.fault.TypeFault.TheVariants as typing
use Rattle.vd_ctyping.specs.Typing.{Answers, IsTyped, TypedHasNoFault, TypedOnce}
use Rattle.vd_linkage.specs.Only.{IsOnly}
use Rattle.vd_linkage.specs.Program.{IsFunction, IsGlobal}
use Rattle.vd_outline.specs.declared.section.Section.{Section}

-- ---- functions

-- a function with a fault is not typed
untyped : TypedHasNoFault → (scope : CScope) (f : FnText) (why : TypeFault) → why ≢ typing.Memory → Answers scope f (Err why) → (t : TypedFn) → IsTyped scope f t → ⊥
untyped law scope f (typing.Unknown place name) certain answer t typed = law scope f t answer.0 (typing.Unknown place name) typed answer.1
untyped law scope f (typing.Mismatch place wanted given) certain answer t typed = law scope f t answer.0 (typing.Mismatch place wanted given) typed answer.1
untyped law scope f (typing.NotNormal place) certain answer t typed = law scope f t answer.0 (typing.NotNormal place) typed answer.1
untyped law scope f typing.Memory certain answer t typed = certain refl

module _ (scope : CScope) (s : Section) where
  -- the function of the section is that which was read
  typed_there : (f : FnText) → IsOnly (IsFnSection s.text) (Some f) → (t : TypedFn) → IsFunction scope s t → IsTyped scope f t
  typed_there f read t g = subst (λ x. IsTyped scope x t) (read.1 g.function g.read) g.typed

  pub is_function : TypedOnce → (f : FnText) (t : TypedFn) → IsOnly (IsFnSection s.text) (Some f) → IsTyped scope f t → IsOnly (IsFunction scope s) (Some t)
  is_function once f t read typed = (record { function = f; read = read.0; typed = typed }, λ u g. once scope f u t (typed_there f read u g) typed)

  pub no_function : TypedHasNoFault → (f : FnText) (why : TypeFault) → IsOnly (IsFnSection s.text) (Some f) → why ≢ typing.Memory → Answers scope f (Err why) → IsOnly (IsFunction scope s) None
  no_function law f why read certain answer t g = untyped law scope f why certain answer t (typed_there f read t g)

  pub unread_function : IsOnly (IsFnSection s.text) None → IsOnly (IsFunction scope s) None
  unread_function none t g = none g.function g.read

-- ---- globals

abbrev global_of : List ℕ → ℕ → List Init → GlobalDef
global_of name cells init = record { name = name; cells = cells; init = init }

same_global : (g h : GlobalDef) → g.name ≡ h.name → g.cells ≡ h.cells → g.init ≡ h.init → g ≡ h
same_global g h e f i = ap (λ n. global_of n g.cells g.init) e ∙ (ap (λ n. global_of h.name n g.init) f ∙ ap (λ n. global_of h.name h.cells n) i)

global_field : (f g : Field) (i j : List Init) → decl.Global f i ≡ decl.Global g j → f ≡ g
global_field f g i j e = cc

global_init : (f g : Field) (i j : List Init) → decl.Global f i ≡ decl.Global g j → i ≡ j
global_init f g i j e = cc

same_cells : (n m : ℕ) → Some n ≡ Some m → n ≡ m
same_cells n m e = cc

pub is_global : (scope : CScope) (s : Section) (f : Field) (init : List Init) (g : GlobalDef) → IsOnly (λ d. AnswersDecl s.text (Ok d)) (Some (decl.Global f init)) → size_of scope.structs f.typ ≡ Some g.cells → g.name ≡ f.name → g.init ≡ init → IsOnly (IsGlobal scope s) (Some g)
is_global scope s f init g read size name values = (
  record { field = f; read = subst (λ i. AnswersDecl s.text (Ok (decl.Global f i))) (sym values) read.0; named = name; cells = size },
  λ h x. (
      let same = read.1 (decl.Global x.field h.init) x.read in
      let field = global_field x.field f h.init init same in
      same_global h g (x.named ∙ (ap (λ t. t.name) field ∙ sym name)) (same_cells h.cells g.cells (sym x.cells ∙ (ap (λ t. size_of scope.structs t.typ) field ∙ size))) (global_init x.field f h.init init same ∙ sym values)),
)

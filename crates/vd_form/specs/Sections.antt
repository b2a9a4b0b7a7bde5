-- What the sections of the form are: those of the readers and of typing, with what the form allows.
use Rattle.std.specs.Prelude.{◌≡◌, ℕ, true, List, [], ◌∷◌, map, if◌then◌else◌, Option, None, Some, Ok}
use Rattle.vd_clight.specs.declared.program.CScope.{CScope}
use Rattle.vd_clight.specs.declared.syntax.FnText.{FnText}
use Rattle.vd_clight.specs.declared.typed.TypedFn.{TypedFn}
use Rattle.vd_cparse.specs.Section.{AnswersFn}
use Rattle.vd_ctyping.specs.Typing as typing
use Rattle.vd_heads.specs.declared.content.Mention.{Mention}
use Rattle.vd_listing.specs.Listing.{IsListing}
use Rattle.vd_logic.specs.declared.assertion.Spec.{Spec}
use Rattle.vd_logic.specs.declared.step.Step.{Step}
use Rattle.vd_sparse.specs.declared.text.LogicText.{LogicText}
use Rattle.vd_sparse.specs.declared.text.LogicText.TheVariants as logic
use Rattle.vd_sparse.specs.Sections.{AnswersLogic}
use Rattle.vd_form.specs.Plain.{is_plain_function, is_plain_spec, are_plain_steps}
use Rattle.vd_form.specs.Simple.{is_simple_function}

-- the one value of which P holds, or none
abbrev pub Finds : {A : Type 0} → (A → Type 0) → Option A → Type 0
Finds {A} P None = (a : A) → P a → ⊥
Finds {A} P (Some a) = P a × ((b : A) → P b → b ≡ a)

-- ---- functions

-- the scope of a unit that declares no struct and no global, and this function alone
abbrev pub own_scope : FnText → CScope
own_scope f = record { structs = []; globals = []; fns = record { ret = f.ret; name = f.name; params = f.params } ∷ [] }

-- The function has the form, and this is its typed syntax.
pub record IsTypedAs (f : FnText) (t : TypedFn) : Type 0 where
  pub plain : is_plain_function f ≡ true
  pub typed : typing.IsTyped (own_scope f) f t
  pub simple : is_simple_function t ≡ true

-- the text is the `fn` section of a function of the form, and this is its typed syntax
abbrev pub IsTyped : List ℕ → TypedFn → Type 0
IsTyped text t = (f : FnText) × AnswersFn text (Ok f) × IsTypedAs f t

-- ---- specifications, scripts

-- the specification that a section says, where it has the form
abbrev pub spec_in : LogicText → Option Spec
spec_in (logic.Spec s hides) = if is_plain_spec s then Some s else None
spec_in _ = None

-- the steps that a section says, where they have the form
abbrev pub steps_in : LogicText → Option (List Step)
steps_in (logic.Script own steps) = if are_plain_steps steps then Some steps else None
steps_in _ = None

-- the text is a section of the logic, and this is what is looked for in what it says
abbrev pub Says : {A : Type 0} → (LogicText → Option A) → List ℕ → A → Type 0
Says look text a = (x : LogicText) × AnswersLogic text (Ok x) × (look x ≡ Some a)

abbrev pub IsSpecification : List ℕ → Spec → Type 0
IsSpecification = Says spec_in

abbrev pub IsScript : List ℕ → List Step → Type 0
IsScript = Says steps_in

-- ---- names

-- the text is a section that lists these names
abbrev pub IsNames : List ℕ → List (List ℕ) → Type 0
IsNames text names = (listed : List Mention) × IsListing text (Ok listed) × (names ≡ map (λ m. m.name) listed)

-- Terms that are well sorted over variables of given sorts: the one predicate of what a term must be. It has three parts at once: the
-- term is of a sort, each variable in it stands among the given ones with its sort, and the number of each closed `vi` is as it is asked. As
-- a step or a section brings a term, that number is free; in a state it is reduced to 32 bits, since whether two closed values differ
-- is told from their numbers as they stand.
use Rattle.std.specs.Prelude.{◌≡◌, ℕ, ◌<◌, ◌^◌, ◌++◌, ℤ, pos, List, [], ◌∷◌, slice_get, Option, Some, None}
use Rattle.vd_logic.specs.declared.term.Sort.{Sort}
use Rattle.vd_logic.specs.declared.term.Sort.TheVariants as sort
use Rattle.vd_logic.specs.declared.assertion.Rel as relation
use Rattle.vd_logic.specs.declared.assertion.Rel.TheVariants as rel
use Rattle.vd_terms.specs.declared.operation.Unary.{Unary}
use Rattle.vd_terms.specs.declared.operation.Unary.TheVariants as unary
use Rattle.vd_terms.specs.declared.assertion.FactOf.TheVariants as fact
use Rattle.vd_terms.specs.declared.assertion.ItemOf.TheVariants as item
use Rattle.vd_terms.specs.Terms.{Name, Term, Number, Var, Named, Global, Undef, Nil, Of, Of2, Of3}
use Rattle.vd_terms.specs.Sorts.{unary_sorts, binary_sorts, ternary_sorts}
use Rattle.vd_terms.specs.Assertions.{Fact, Label, Item, Assertion, Predicate, Spec, Scope, predicate_named}
use Rattle.vd_terms.specs.States.{State, sorts_of}

-- any number
abbrev pub Any : ℤ → Type 0
Any n = Unit {0}

-- a number of 32 bits
abbrev pub Reduced : ℤ → Type 0
Reduced n = (k : ℕ) × ((n ≡ pos k) × (k < 2 ^ 32))

-- the number of a closed vi is as it is asked
abbrev pub ClosedIs : (ℤ → Type 0) → Unary → Term → Type 0
ClosedIs number unary.Vi (Number n) = number n
ClosedIs number o a = Unit {0}

-- a term of a sort, over variables of these sorts, by number
abbrev pub IsTerm : (ℤ → Type 0) → List Sort → Sort → Term → Type 0
IsTerm number vars s (Number n) = s ≡ sort.Int
IsTerm number vars s (Var x r) = (s ≡ r) × (slice_get vars x ≡ Some r)
IsTerm number vars s (Named name) = ⊥
IsTerm number vars s (Global g) = s ≡ sort.Val
IsTerm number vars s Undef = s ≡ sort.Val
IsTerm number vars s Nil = s ≡ sort.List
IsTerm number vars s (Of o a) = (s ≡ (unary_sorts o).1) × (IsTerm number vars (unary_sorts o).0 a × ClosedIs number o a)
IsTerm number vars s (Of2 o a b) =
    (s ≡ (binary_sorts o).2) × (IsTerm number vars (binary_sorts o).0 a × IsTerm number vars (binary_sorts o).1 b)
IsTerm number vars s (Of3 o a b c) =
    (s ≡ (ternary_sorts o).3) ×
    (IsTerm number vars (ternary_sorts o).0 a × (IsTerm number vars (ternary_sorts o).1 b × IsTerm number vars (ternary_sorts o).2 c))

-- terms of these sorts, one by one
abbrev pub AreTerms : (ℤ → Type 0) → List Sort → List Sort → List Term → Type 0
AreTerms number vars [] [] = Unit {0}
AreTerms number vars [] (t ∷ ts) = ⊥
AreTerms number vars (s ∷ ss) [] = ⊥
AreTerms number vars (s ∷ ss) (t ∷ ts) = IsTerm number vars s t × AreTerms number vars ss ts

-- terms of one sort
abbrev pub AreAlike : (ℤ → Type 0) → List Sort → Term → Term → Type 0
AreAlike number vars a b = (s : Sort) × (IsTerm number vars s a × IsTerm number vars s b)

-- terms of any one sort are equal or not; integers alone are ordered
abbrev pub AreRelated : (ℤ → Type 0) → List Sort → relation.Rel → Term → Term → Type 0
AreRelated number vars rel.Eq a b = AreAlike number vars a b
AreRelated number vars rel.Ne a b = AreAlike number vars a b
AreRelated number vars rel.Le a b = IsTerm number vars sort.Int a × IsTerm number vars sort.Int b
AreRelated number vars rel.Lt a b = IsTerm number vars sort.Int a × IsTerm number vars sort.Int b

abbrev pub IsFact : (ℤ → Type 0) → List Sort → Fact → Type 0
IsFact number vars (fact.Rel r a b) = AreRelated number vars r a b
IsFact number vars (fact.IsInt v) = IsTerm number vars sort.Val v
IsFact number vars (fact.IsPtr v) = IsTerm number vars sort.Val v
IsFact number vars (fact.Each l a b) = IsTerm number vars sort.List l × (IsTerm number vars sort.Int a × IsTerm number vars sort.Int b)

abbrev pub AreFacts : (ℤ → Type 0) → List Sort → List Fact → Type 0
AreFacts number vars [] = Unit {0}
AreFacts number vars (p ∷ ps) = IsFact number vars p × AreFacts number vars ps

-- the arguments have the sorts of their predicate, which is in scope, with cases or without
abbrev pub HasArguments : (ℤ → Type 0) → List Sort → Option Predicate → List Term → Type 0
HasArguments number vars None args = ⊥
HasArguments number vars (Some p) args = AreTerms number vars p.args args

abbrev pub IsLabel : (ℤ → Type 0) → Scope → List Sort → Label → Type 0
IsLabel number scope vars l = HasArguments number vars (predicate_named scope l.name) l.args

abbrev pub IsItem : (ℤ → Type 0) → Scope → List Sort → Item → Type 0
IsItem number scope vars (item.Data s p l) = IsTerm number vars sort.Int s × (IsTerm number vars sort.Val p × IsTerm number vars sort.List l)
IsItem number scope vars (item.Lock s p l) = IsTerm number vars sort.Int s × (IsTerm number vars sort.Val p × IsLabel number scope vars l)
IsItem number scope vars (item.Holds p l) = IsTerm number vars sort.Val p × IsLabel number scope vars l
IsItem number scope vars (item.Token p n) = IsTerm number vars sort.Val p × IsTerm number vars sort.Int n
IsItem number scope vars (item.Pred l) = IsLabel number scope vars l

abbrev pub AreItems : (ℤ → Type 0) → Scope → List Sort → List Item → Type 0
AreItems number scope vars [] = Unit {0}
AreItems number scope vars (i ∷ is) = IsItem number scope vars i × AreItems number scope vars is

-- the value of a temporary is a val, where it has one
abbrev pub IsLocal : (ℤ → Type 0) → List Sort → Option Term → Type 0
IsLocal number vars None = Unit {0}
IsLocal number vars (Some t) = IsTerm number vars sort.Val t

abbrev pub AreLocals : (ℤ → Type 0) → List Sort → List (Name × Option Term) → Type 0
AreLocals number vars [] = Unit {0}
AreLocals number vars (x ∷ xs) = IsLocal number vars x.1 × AreLocals number vars xs

abbrev pub AreValues : (ℤ → Type 0) → List Sort → List (Name × Term) → Type 0
AreValues number vars [] = Unit {0}
AreValues number vars (x ∷ xs) = IsTerm number vars sort.Val x.1 × AreValues number vars xs

-- the terms of a state are over its variables, with their closed values reduced; labels are over the scope
pub record IsState (scope : Scope) (s : State) : Type 0 where
  pub facts : AreFacts Reduced (sorts_of s.vars) s.facts
  pub locals : AreLocals Reduced (sorts_of s.vars) s.locals
  pub items : AreItems Reduced scope (sorts_of s.vars) s.items

-- an assertion under variables of these sorts is over them and then its own
pub record IsAssertion (scope : Scope) (vars : List Sort) (a : Assertion) : Type 0 where
  pub facts : AreFacts Any (vars ++ a.opened) a.facts
  pub locals : AreValues Any (vars ++ a.opened) a.locals
  pub items : AreItems Any scope (vars ++ a.opened) a.items

abbrev pub AreCases : Scope → List Sort → List Assertion → Type 0
AreCases scope args [] = Unit {0}
AreCases scope args (c ∷ cs) = IsAssertion scope args c × AreCases scope args cs

-- each case of a predicate is over its arguments
abbrev pub IsPredicate : Scope → Predicate → Type 0
IsPredicate scope p = AreCases scope p.args p.cases

-- a precondition is over the variables of `with`, a postcondition over these and the result
pub record IsSpec (scope : Scope) (f : Spec) : Type 0 where
  pub pre : IsAssertion scope (sorts_of f.vars) f.pre
  pub post : IsAssertion scope (sorts_of f.vars ++ sort.Val ∷ []) f.post

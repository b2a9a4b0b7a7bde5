-- When symbolic states, preconditions and postconditions hold.
use Rattle.std.specs.Prelude.{◌≡◌, List, [], ◌∷◌, length, cond, Option, Some, None}
use Rattle.vd_mem.specs.declared.value.Value.{Value}
use Rattle.vd_terms.specs.Terms.{Name, Term}
use Rattle.vd_terms.specs.Assertions.{Spec}
use Rattle.vd_terms.specs.States.{State, named_locals}
use Rattle.vd_meaning.specs.Values.{Val, Undef, val_of}
use Rattle.vd_meaning.specs.Shares.{Shares}
use Rattle.vd_meaning.specs.Meaning.{World, Valuation, Agree, val_of_term}
use Rattle.vd_meaning.specs.Facts.{AreTrue}
use Rattle.vd_meaning.specs.Satisfaction.{Sats, grounds}

-- a parameter or temporary has its term's value, where it has a term
abbrev pub LocalHolds : World → Valuation → Option Term → Value → Type 0
LocalHolds world w None v = Unit {0}
LocalHolds world w (Some t) v = val_of v ≡ val_of_term world w t

-- there is one value for each parameter and temporary
abbrev pub LocalsHold : World → Valuation → List (Name × Option Term) → List Value → Type 0
LocalsHold world w [] [] = Unit {0}
LocalsHold world w [] (v ∷ vs) = ⊥
LocalsHold world w (x ∷ xs) [] = ⊥
LocalsHold world w (x ∷ xs) (v ∷ vs) = LocalHolds world w x.1 v × LocalsHold world w xs vs

-- a state holds of temporaries and shares under a valuation: PROP is true, LOCAL has its values, SEP is satisfied
pub record Holds (world : World) (st : State) (w : Valuation) (temps : List Value) (r : Shares) : Type 0 where
  pub facts : AreTrue world w st.facts
  pub locals : LocalsHold world w st.locals temps
  pub items : Sats world (grounds world w st.items) r

-- a precondition holds of the arguments, under a valuation of the variables of `with`
pub record PreHolds (world : World) (spec : Spec) (w : Valuation) (args : List Value) (r : Shares) : Type 0 where
  pub facts : AreTrue world w spec.pre.facts
  pub locals : LocalsHold world w (named_locals spec.pre.locals spec.params) args
  pub items : Sats world (grounds world w spec.pre.items) r

-- what a postcondition calls the result: in a function that returns nothing it is undef
abbrev pub result : Spec → Value → Val
result spec v = cond spec.is_void Undef (val_of v)

-- a postcondition holds of the result, with some values of what it opens: the result's variable stands behind those of `with`, and the
-- opened ones behind it
pub record PostHolds (world : World) (spec : Spec) (w : Valuation) (v : Value) (r : Shares) : Type 0 where
  pub values : Valuation
  pub agree : Agree (length spec.vars) w values
  pub result_is : values.vals (length spec.vars) ≡ result spec v
  pub facts : AreTrue world values spec.post.facts
  pub items : Sats world (grounds world values spec.post.items) r

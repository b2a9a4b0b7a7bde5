-- Agreement: each variable in its own place.
use Rattle.std.proofs.Common.{◌≡◌, ℕ, zero, suc, ◌<◌, Option, Some, None, List, [], ◌∷◌, map, length, refl, sym, ap, ap₂, ◌∙◌, subst, arith}
use Rattle.std.specs.Prelude.{slice_get}
use Rattle.vd_mem.specs.declared.value.Value.{Value}
use Rattle.vd_logic.specs.declared.term.Sort.{Sort}
use Rattle.vd_logic.specs.declared.term.Sort.TheVariants as sort
use Rattle.vd_logic.specs.declared.assertion.Rel as relation
use Rattle.vd_logic.specs.declared.assertion.Rel.TheVariants as rel
use Rattle.vd_terms.specs.declared.assertion.FactOf.TheVariants as fact
use Rattle.vd_terms.specs.declared.assertion.ItemOf.TheVariants as item
use Rattle.vd_terms.specs.Terms.{Name, Term, Var, Named}
use Rattle.vd_terms.specs.Terms as term
use Rattle.vd_terms.specs.Sorts.{unary_sorts, binary_sorts, ternary_sorts}
use Rattle.vd_terms.specs.Assertions.{Fact, Label, Item, Predicate, Scope, predicate_named, map_fact, map_label, map_item}
use Rattle.vd_terms.specs.States.{sorts_of}
use Rattle.vd_terms.specs.Replacing.{replaced}
use Rattle.vd_terms.specs.Typed.{Any, Reduced, IsTerm, AreTerms, AreRelated, IsFact, AreFacts, HasArguments, IsItem, AreItems, IsLocal, AreLocals}
use Rattle.vd_meaning.specs.Values.{OfInt, OfVal, OfList, as_val}
use Rattle.vd_meaning.specs.Meaning.{World, Valuation, Agree, variable, meaning}
use Rattle.vd_meaning.specs.Facts.{AreTrue}
use Rattle.vd_meaning.specs.Satisfaction.{Sats, grounds}
use Rattle.vd_meaning.specs.States.{LocalHolds, LocalsHold}
use Rattle.vd_meaning.specs.MeaningLaws.{TermsAgree, FactsAgree, ItemsAgree, StatesAgree}
use Rattle.vd_terms.proofs.TypedLemmas.{closed-any}
use Rattle.vd_meaning.proofs.Replacement.{put-is, facts-go, items-same}

-- ---- a term with each variable in its own place is the term

abbrev kept : Term → Term
kept t = replaced Var Named t

pub kept-term : (t : Term) → kept t ≡ t
kept-term (term.Number n) = refl
kept-term (term.Var x s) = refl
kept-term (term.Named name) = refl
kept-term (term.Global name) = refl
kept-term term.Undef = refl
kept-term term.Nil = refl
kept-term (term.Of o a) = ap (term.Of o) (kept-term a)
kept-term (term.Of2 o a b) = ap₂ (term.Of2 o) (kept-term a) (kept-term b)
kept-term (term.Of3 o a b c) = let x = kept-term a in let y = kept-term b in let z = kept-term c in cc

kept-terms : (ts : List Term) → map kept ts ≡ ts
kept-terms [] = refl
kept-terms (t ∷ ts) = ap₂ (λ x xs. x ∷ xs) (kept-term t) (kept-terms ts)

kept-fact : (p : Fact) → map_fact kept p ≡ p
kept-fact (fact.Rel r a b) = ap₂ (fact.Rel r) (kept-term a) (kept-term b)
kept-fact (fact.IsInt a) = ap fact.IsInt (kept-term a)
kept-fact (fact.IsPtr a) = ap fact.IsPtr (kept-term a)
kept-fact (fact.Each l a b) = let x = kept-term l in let y = kept-term a in let z = kept-term b in cc

kept-facts : (ps : List Fact) → map (map_fact kept) ps ≡ ps
kept-facts [] = refl
kept-facts (p ∷ ps) = ap₂ (λ x xs. x ∷ xs) (kept-fact p) (kept-facts ps)

kept-label : (l : Label) → map_label kept l ≡ l
kept-label l = ap (λ ts. record { name = l.name; args = ts }) (kept-terms l.args)

kept-item : (i : Item) → map_item kept i ≡ i
kept-item (item.Data s p l) = let x = kept-term s in let y = kept-term p in let z = kept-term l in cc
kept-item (item.Lock s p l) = let x = kept-term s in let y = kept-term p in let z = kept-label l in cc
kept-item (item.Holds p l) = ap₂ item.Holds (kept-term p) (kept-label l)
kept-item (item.Token p n) = ap₂ item.Token (kept-term p) (kept-term n)
kept-item (item.Pred l) = ap item.Pred (kept-label l)

kept-items : (is : List Item) → map (map_item kept) is ≡ is
kept-items [] = refl
kept-items (i ∷ is) = ap₂ (λ x xs. x ∷ xs) (kept-item i) (kept-items is)

-- ---- agreement

pub among-less : {A : Type 0} (xs : List A) (x : ℕ) (a : A) → slice_get xs x ≡ Some a → x < length xs
among-less [] x a e = cc
among-less (y ∷ xs) zero a e = omega arith
among-less (y ∷ xs) (suc x) a e = let h = among-less xs x a e in omega (arith, h)

pub variable-agree : (n : ℕ) (w z : Valuation) → Agree n w z → (x : ℕ) (s : Sort) → x < n → variable w x s ≡ variable z x s
variable-agree n w z g x sort.Int h = ap OfInt (g.ints x h)
variable-agree n w z g x sort.Val h = ap OfVal (g.vals x h)
variable-agree n w z g x sort.List h = ap OfList (g.lists x h)

module _ (world : World) (vars : List Sort) (w z : Valuation) (g : Agree (length vars) w z) where
  in-place : (x : ℕ) (s : Sort) → slice_get vars x ≡ Some s → IsTerm Any vars s (Var x s) × (meaning world w (Var x s) ≡ variable z x s)
  in-place x s e = ((refl, e), variable-agree (length vars) w z g x s (among-less vars x s e))

  pub agree-term : (s : Sort) (t : Term) → IsTerm Any vars s t → meaning world w t ≡ meaning world z t
  agree-term s t h = ap (meaning world w) (sym (kept-term t)) ∙ (put-is world w z vars vars Var in-place t s h).1

  pub agree-facts : (ps : List Fact) → AreFacts Any vars ps → AreTrue world w ps → AreTrue world z ps
  agree-facts ps h x = facts-go world w z vars vars Var in-place ps h (subst (AreTrue world w) (sym (kept-facts ps)) x)

  pub agree-items : (scope : Scope) (is : List Item) → AreItems Any scope vars is → grounds world w is ≡ grounds world z is
  agree-items scope is h = ap (grounds world w) (sym (kept-items is)) ∙ items-same world w z vars vars Var in-place scope is h

  agree-local : (o : Option Term) (v : Value) → IsLocal Any vars o → LocalHolds world w o v → LocalHolds world z o v
  agree-local None v h p = tt
  agree-local (Some t) v h p = p ∙ ap as_val (agree-term sort.Val t h)

  pub agree-locals : (ls : List (Name × Option Term)) (temps : List Value) → AreLocals Any vars ls → LocalsHold world w ls temps → LocalsHold world z ls temps
  agree-locals [] [] h p = tt
  agree-locals [] (v ∷ vs) h p = p
  agree-locals (x ∷ xs) [] h p = p
  agree-locals (x ∷ xs) (v ∷ vs) h p = (agree-local x.1 v h.0 p.0, agree-locals xs vs h.1 p.1)

pub terms_agree : TermsAgree
terms_agree world vars w z g s t h = agree-term world vars w z g s t h

pub facts_agree : FactsAgree
facts_agree world vars w z g ps h x = agree-facts world vars w z g ps h x

pub items_agree : ItemsAgree
items_agree world vars w z g scope is h = agree-items world vars w z g scope is h

-- ---- what is reduced is as it is written

module _ (vars : List Sort) where
  pub written-term : (s : Sort) (t : Term) → IsTerm Reduced vars s t → IsTerm Any vars s t
  written-term s (term.Number n) h = h
  written-term s (term.Var x r) h = h
  written-term s (term.Named name) h = h
  written-term s (term.Global name) h = h
  written-term s term.Undef h = h
  written-term s term.Nil h = h
  written-term s (term.Of o a) h = (h.0, (written-term (unary_sorts o).0 a h.1.0, closed-any o a))
  written-term s (term.Of2 o a b) h = (h.0, (written-term (binary_sorts o).0 a h.1.0, written-term (binary_sorts o).1 b h.1.1))
  written-term s (term.Of3 o a b c) h =
      (h.0, (written-term (ternary_sorts o).0 a h.1.0, (written-term (ternary_sorts o).1 b h.1.1.0, written-term (ternary_sorts o).2 c h.1.1.1)))

  written-related : (r : relation.Rel) (a b : Term) → AreRelated Reduced vars r a b → AreRelated Any vars r a b
  written-related rel.Eq a b h = (h.0, (written-term h.0 a h.1.0, written-term h.0 b h.1.1))
  written-related rel.Ne a b h = (h.0, (written-term h.0 a h.1.0, written-term h.0 b h.1.1))
  written-related rel.Le a b h = (written-term sort.Int a h.0, written-term sort.Int b h.1)
  written-related rel.Lt a b h = (written-term sort.Int a h.0, written-term sort.Int b h.1)

  written-fact : (p : Fact) → IsFact Reduced vars p → IsFact Any vars p
  written-fact (fact.Rel r a b) h = written-related r a b h
  written-fact (fact.IsInt a) h = written-term sort.Val a h
  written-fact (fact.IsPtr a) h = written-term sort.Val a h
  written-fact (fact.Each l a b) h = (written-term sort.List l h.0, (written-term sort.Int a h.1.0, written-term sort.Int b h.1.1))

  pub written-facts : (ps : List Fact) → AreFacts Reduced vars ps → AreFacts Any vars ps
  written-facts [] h = tt
  written-facts (p ∷ ps) h = (written-fact p h.0, written-facts ps h.1)

  written-args : (ss : List Sort) (ts : List Term) → AreTerms Reduced vars ss ts → AreTerms Any vars ss ts
  written-args [] [] h = tt
  written-args [] (t ∷ ts) h = h
  written-args (s ∷ ss) [] h = h
  written-args (s ∷ ss) (t ∷ ts) h = (written-term s t h.0, written-args ss ts h.1)

  written-label : (p : Option Predicate) (ts : List Term) → HasArguments Reduced vars p ts → HasArguments Any vars p ts
  written-label None ts h = h
  written-label (Some p) ts h = written-args p.args ts h

  module _ (scope : Scope) where
    written-item : (i : Item) → IsItem Reduced scope vars i → IsItem Any scope vars i
    written-item (item.Data s p l) h = (written-term sort.Int s h.0, (written-term sort.Val p h.1.0, written-term sort.List l h.1.1))
    written-item (item.Lock s p l) h =
        (written-term sort.Int s h.0, (written-term sort.Val p h.1.0, written-label (predicate_named scope l.name) l.args h.1.1))
    written-item (item.Holds p l) h = (written-term sort.Val p h.0, written-label (predicate_named scope l.name) l.args h.1)
    written-item (item.Token p n) h = (written-term sort.Val p h.0, written-term sort.Int n h.1)
    written-item (item.Pred l) h = written-label (predicate_named scope l.name) l.args h

    pub written-items : (is : List Item) → AreItems Reduced scope vars is → AreItems Any scope vars is
    written-items [] h = tt
    written-items (i ∷ is) h = (written-item i h.0, written-items is h.1)

  written-local : (o : Option Term) → IsLocal Reduced vars o → IsLocal Any vars o
  written-local None h = tt
  written-local (Some t) h = written-term sort.Val t h

  pub written-locals : (ls : List (Name × Option Term)) → AreLocals Reduced vars ls → AreLocals Any vars ls
  written-locals [] h = tt
  written-locals (x ∷ xs) h = (written-local x.1 h.0, written-locals xs h.1)

count-sorts : (vars : List (Name × Sort)) → length (sorts_of vars) ≡ length vars
count-sorts [] = refl
count-sorts (v ∷ vars) = ap suc (count-sorts vars)

pub states_agree : StatesAgree
states_agree world scope st fine w z g temps r h =
    let vars = sorts_of st.vars in
    let k : Agree (length vars) w z = subst (λ n. Agree n w z) (sym (count-sorts st.vars)) g in
    record {
      facts = agree-facts world vars w z k st.facts (written-facts vars st.facts fine.facts) h.facts;
      locals = agree-locals world vars w z k st.locals temps (written-locals vars st.locals fine.locals) h.locals;
      items = subst (λ gs. Sats world gs r) (agree-items world vars w z k scope st.items (written-items vars scope st.items fine.items)) h.items;
    }

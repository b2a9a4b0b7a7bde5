-- What is true of meanings.
use Rattle.std.specs.Prelude.{◌≡◌, ℕ, List, ◌++◌, length, map}
use Rattle.vd_mem.specs.declared.value.Value.{Value}
use Rattle.vd_logic.specs.declared.term.Sort.{Sort}
use Rattle.vd_terms.specs.Terms.{Term}
use Rattle.vd_terms.specs.Assertions.{Fact, Item, Scope, map_fact, map_item}
use Rattle.vd_terms.specs.States.{State, count}
use Rattle.vd_terms.specs.Replacing.{substituted, opened}
use Rattle.vd_terms.specs.Typed.{Any, IsTerm, AreTerms, AreFacts, AreItems, IsState}
use Rattle.vd_meaning.specs.Values.{Arg, HasSort, HasWords, HaveWords}
use Rattle.vd_meaning.specs.Shares.{Shares}
use Rattle.vd_meaning.specs.Meaning.{World, Valuation, Agree, StandFor, meaning}
use Rattle.vd_meaning.specs.Facts.{AreTrue}
use Rattle.vd_meaning.specs.Satisfaction.{grounds}
use Rattle.vd_meaning.specs.States.{Holds}

-- a term of a sort means an argument of that sort
abbrev pub SortsAreKept : Type 0
SortsAreKept = (world : World) (w : Valuation) (vars : List Sort) (s : Sort) (t : Term) → IsTerm Any vars s t → HasSort s (meaning world w t)

-- the integer values that any term means have 32 bits
abbrev pub TermsMeanWords : Type 0
TermsMeanWords = (world : World) (w : Valuation) (t : Term) → HasWords (meaning world w t)

-- a valuation may be given any arguments from a number on, and stay as it is below
abbrev pub ValuationsOpen : Type 0
ValuationsOpen = (w : Valuation) (n : ℕ) (args : List Arg) → HaveWords args → (z : Valuation) × (Agree n w z × StandFor z n args)

-- ---- agreement: what stands over some variables means the same under valuations that agree on them

abbrev pub TermsAgree : Type 0
TermsAgree =
    (world : World) (vars : List Sort) (w z : Valuation) → Agree (length vars) w z →
    (s : Sort) (t : Term) → IsTerm Any vars s t → meaning world w t ≡ meaning world z t

abbrev pub FactsAgree : Type 0
FactsAgree =
    (world : World) (vars : List Sort) (w z : Valuation) → Agree (length vars) w z →
    (ps : List Fact) → AreFacts Any vars ps → AreTrue world w ps → AreTrue world z ps

abbrev pub ItemsAgree : Type 0
ItemsAgree =
    (world : World) (vars : List Sort) (w z : Valuation) → Agree (length vars) w z →
    (scope : Scope) (is : List Item) → AreItems Any scope vars is → grounds world w is ≡ grounds world z is

-- a state holds under any valuation that agrees on its variables
abbrev pub StatesAgree : Type 0
StatesAgree =
    (world : World) (scope : Scope) (st : State) → IsState scope st → (w z : Valuation) → Agree (count st) w z →
    (temps : List Value) (r : Shares) → Holds world st w temps r → Holds world st z temps r

-- ---- substitution: terms in the place of the variables that stand for them

abbrev pub SubstitutedTerms : Type 0
SubstitutedTerms =
    (world : World) (vars own : List Sort) (ts : List Term) → AreTerms Any vars own ts →
    (w z : Valuation) → StandFor z 0 (map (meaning world w) ts) → (s : Sort) (t : Term) → IsTerm Any own s t →
    IsTerm Any vars s (substituted ts t) × (meaning world w (substituted ts t) ≡ meaning world z t)

-- ---- opening: an assertion under the first variables of a state has variables of its own behind them, of which each stands for a term of
-- the state

abbrev pub OpenedTerms : Type 0
OpenedTerms =
    (world : World) (before after own : List Sort) (ts : List Term) → AreTerms Any (before ++ after) own ts →
    (w z : Valuation) → Agree (length before) w z → StandFor z (length before) (map (meaning world w) ts) →
    (s : Sort) (t : Term) → IsTerm Any (before ++ own) s t →
    IsTerm Any (before ++ after) s (opened (length before) ts t) × (meaning world w (opened (length before) ts t) ≡ meaning world z t)

abbrev pub OpenedFacts : Type 0
OpenedFacts =
    (world : World) (before after own : List Sort) (ts : List Term) → AreTerms Any (before ++ after) own ts →
    (w z : Valuation) → Agree (length before) w z → StandFor z (length before) (map (meaning world w) ts) →
    (ps : List Fact) → AreFacts Any (before ++ own) ps →
    (AreTrue world w (map (map_fact (opened (length before) ts)) ps) → AreTrue world z ps) ×
    (AreTrue world z ps → AreTrue world w (map (map_fact (opened (length before) ts)) ps))

abbrev pub OpenedItems : Type 0
OpenedItems =
    (world : World) (before after own : List Sort) (ts : List Term) → AreTerms Any (before ++ after) own ts →
    (w z : Valuation) → Agree (length before) w z → StandFor z (length before) (map (meaning world w) ts) →
    (scope : Scope) (is : List Item) → AreItems Any scope (before ++ own) is →
    grounds world w (map (map_item (opened (length before) ts)) is) ≡ grounds world z is

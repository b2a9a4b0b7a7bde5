-- Satisfaction: the least relation by cases between shares and items of which the terms are computed, over a table of predicates. It
-- bounds no share: a share past 64 is satisfied by shares that fit no memory.
use Rattle.std.specs.Prelude.{◌≡◌, ◌⊎◌, ℕ, ◌≤◌, List, [], ◌∷◌, map, ℤ, pos}
use Rattle.vd_terms.specs.declared.assertion.ItemOf.TheVariants as item
use Rattle.vd_terms.specs.Terms.{Name}
use Rattle.vd_terms.specs.Assertions.{Assertion, Item, Label}
use Rattle.vd_meaning.specs.Values.{Val, Ptr, Arg, Invariant, invariant}
use Rattle.vd_meaning.specs.Shares.{Lock, Hold, Token, Shares, nothing, single, ◌⊕◌, ◌≐◌, cells}
use Rattle.vd_meaning.specs.Meaning.{World, Valuation, StandFor, meaning, int_of, val_of_term, list_of}
use Rattle.vd_meaning.specs.Facts.{AreTrue}

-- an item with its terms' values: ground, without variables
pub data Ground : Type 0 where
  GData : ℤ → Val → List Val → Ground
  GLock : ℤ → Val → Invariant → Ground
  GHolds : Val → Invariant → Ground
  GToken : Val → ℤ → Ground
  GPred : Invariant → Ground

-- a label with its arguments' values; it is not unfolded
abbrev pub meant : World → Valuation → Label → Invariant
meant world w l = invariant l.name (map (meaning world w) l.args)

abbrev pub ground : World → Valuation → Item → Ground
ground world w (item.Data s p l) = GData (int_of world w s) (val_of_term world w p) (list_of world w l)
ground world w (item.Lock s p l) = GLock (int_of world w s) (val_of_term world w p) (meant world w l)
ground world w (item.Holds p l) = GHolds (val_of_term world w p) (meant world w l)
ground world w (item.Token p n) = GToken (val_of_term world w p) (int_of world w n)
ground world w (item.Pred l) = GPred (meant world w l)

abbrev pub grounds : World → Valuation → List Item → List Ground
grounds world w [] = []
grounds world w (i ∷ is) = ground world w i ∷ grounds world w is

-- one of the cases
abbrev pub IsCase : List Assertion → Assertion → Type 0
IsCase [] c = ⊥
IsCase (x ∷ xs) c = (x ≡ c) ⊎ IsCase xs c

-- Data is exactly the cells from its address on; of no values it is nothing, whatever its share and its address. A lock, a hold and a token
-- are one entry each; a hold and a token are whole, and a token stands at offset 0. Of a predicate some case holds with some values of what it
-- opens, the arguments first: its facts are true, and its items are satisfied. A list of items splits the shares.
mutual
  pub data Sat (world : World) : Ground → Shares → Type 0 where
    sat_empty : {s : ℤ} {p : Val} {r : Shares} → r ≐ nothing → Sat world (GData s p []) r
    sat_data : {s b o : ℕ} {l : List Val} {r : Shares} → 1 ≤ s → r ≐ cells b o s l → Sat world (GData (pos s) (Ptr b (pos o)) l) r
    sat_lock : {s b o : ℕ} {i : Invariant} {r : Shares} → 1 ≤ s → r ≐ single b o (Lock i) s → Sat world (GLock (pos s) (Ptr b (pos o)) i) r
    sat_holds : {b o : ℕ} {i : Invariant} {r : Shares} → r ≐ single b o (Hold i) 64 → Sat world (GHolds (Ptr b (pos o)) i) r
    sat_token : {b n : ℕ} {r : Shares} → r ≐ single b 0 (Token n) 64 → Sat world (GToken (Ptr b (pos 0)) (pos n)) r
    sat_pred : {name : Name} {args : List Arg} {r : Shares} (c : Assertion) (w : Valuation) →
        IsCase (world.cases name) c → StandFor w 0 args → AreTrue world w c.facts → Sats world (grounds world w c.items) r →
        Sat world (GPred (invariant name args)) r

  pub data Sats (world : World) : List Ground → Shares → Type 0 where
    sats_none : {r : Shares} → r ≐ nothing → Sats world [] r
    sats_more : {g : Ground} {gs : List Ground} {r : Shares} (a c : Shares) →
        Sat world g a → Sats world gs c → r ≐ a ⊕ c → Sats world (g ∷ gs) r

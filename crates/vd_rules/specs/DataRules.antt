-- Rules 29 to 35: lists and shares of data and locks.
use Rattle.std.specs.Prelude.{Bool, List, None, Option, Some, [], false, pos, slice_get, true, ℕ, ◌&&◌, ◌++◌, ◌∷◌}
use Rattle.vd_logic.specs.declared.assertion.Rel.TheVariants as rel
use Rattle.vd_logic.specs.declared.step.Certificate.{Certificate}
use Rattle.vd_logic.specs.declared.term.Sort.TheVariants as sort
use Rattle.vd_terms.specs.Assertions.{Fact, Item, Label}
use Rattle.vd_terms.specs.States.{State}
use Rattle.vd_terms.specs.Terms.{Number, Of, Of2, Term}
use Rattle.vd_terms.specs.declared.assertion.FactOf.TheVariants.{IsPtr, Rel}
use Rattle.vd_terms.specs.declared.assertion.ItemOf.TheVariants.{Data, Lock}
use Rattle.vd_terms.specs.declared.operation.Binary.TheVariants.{Add, App, Off, Sub}
use Rattle.vd_terms.specs.declared.operation.Unary.TheVariants.{Len}
use Rattle.vd_rules.specs.Assertions.{same_label}
use Rattle.vd_rules.specs.Changes.{add_facts, add_items, drop_item, drop_items}
use Rattle.vd_rules.specs.Conditions.{required, tested, ◌>>=◌, ◌>>◌}
use Rattle.vd_rules.specs.Meeting.{owes_state}
use Rattle.vd_rules.specs.Nodes.{Answer, Node, lifted}
use Rattle.vd_rules.specs.Normal.{normal}
use Rattle.vd_rules.specs.Reading.{term_of}
use Rattle.vd_rules.specs.Taking.{data_at, differ}
use Rattle.vd_rules.specs.TermOrder.{same}
use Rattle.vd_rules.specs.Values.{owing}
use Rattle.vd_rules.specs.declared.checked.Checked.{Checked}
use Rattle.vd_rules.specs.declared.checked.Checked.TheVariants.{Passed}

-- ---- 29 `cut N ( a , b ) ;` data whose list equals app(a, b) becomes data of a and data of b

-- data of a and data of b in place of data
unfoldable pub cut_items : Term × Term × Term → Term → Term → List Item
cut_items d a b = Data d.0 d.1 a ∷ Data d.0 (Of2 Off d.1 (Of Len a)) b ∷ []

-- the two lists are the list
unfoldable pub cut_by : State → ℕ → Term × Term × Term → Term → Term → Checked (List State)
cut_by s k d a b = do
  tested 1 (same (normal (Of2 App a b)) d.2)
  Passed (add_items (cut_items d a b) (drop_item k s) ∷ [])

-- the item and the two lists
unfoldable pub cut_state : State → ℕ → Term → Term → Checked (List State)
cut_state s k t u = do
  d ← required 1 (data_at s k)
  a ← required 1 (term_of s sort.List t)
  b ← required 1 (term_of s sort.List u)
  cut_by s k d a b

unfoldable pub cut : Node → ℕ → Term → Term → Answer
cut n k t u = lifted n (cut_state n.state k t u)

-- ---- 30 `glue N M ;` data of equal share, M's base off(p, len(a)), become one

-- the second stands behind the first
unfoldable pub adjoin : Term × Term × Term → Term × Term × Term → Bool
adjoin d e = same d.0 e.0 && same (normal (Of2 Off d.1 (Of Len d.2))) e.1

-- data of both lists, one behind the other
unfoldable pub glued_item : Term × Term × Term → Term × Term × Term → List Item
glued_item d e = Data d.0 d.1 (Of2 App d.2 e.2) ∷ []

unfoldable pub glue_state : State → ℕ → ℕ → Checked (List State)
glue_state s k m = do
  tested 1 (differ k m)
  d ← required 1 (data_at s k)
  e ← required 1 (data_at s m)
  tested 1 (adjoin d e)
  Passed (add_items (glued_item d e) (drop_items k m s) ∷ [])

unfoldable pub glue : Node → ℕ → ℕ → Answer
glue n k m = lifted n (glue_state n.state k m)

-- ---- 31 `share N t [by] ;` data or lock of s becomes shares t and s - t; owes 1 <= t, t + 1 <= s

-- the share of data or of a lock
abbrev pub share_of : Item → Option Term
share_of (Data s p l) = Some s
share_of (Lock s p l) = Some s
share_of i = None

-- the item with another share
abbrev pub with_share : Term → Item → Item
with_share t (Data s p l) = Data t p l
with_share t (Lock s p l) = Lock t p l
with_share t i = i

-- each part has a share of at least 1
unfoldable pub part_owes : Term → Term → List Fact
part_owes s t = Rel rel.Le (Number (pos 1)) t ∷ Rel rel.Le (Of2 Add t (Number (pos 1))) s ∷ []

-- the two parts
unfoldable pub part_items : Item → Term → Term → List Item
part_items i s t = with_share t i ∷ with_share (Of2 Sub s t) i ∷ []

-- the parts in place of the item
unfoldable pub in_parts : State → ℕ → Item → Term → Term → State
in_parts state k i s t = add_items (part_items i s t) (drop_item k state)

-- what a part of the item's share owes, and the state with it
unfoldable pub shared_by : State → ℕ → Item → Term → Term → List Certificate → Checked (List State)
shared_by state k i s t by = owes_state state by (owing (part_owes s t)) (in_parts state k i s t)

-- the item, its share, and that of the first part
unfoldable pub share_state : State → ℕ → Term → List Certificate → Checked (List State)
share_state state k t by = do
  i ← required 1 (slice_get state.items k)
  s ← required 1 (share_of i)
  u ← required 1 (term_of state sort.Int t)
  shared_by state k i s u by

unfoldable pub share : Node → ℕ → Term → List Certificate → Answer
share n k t by = lifted n (share_state n.state k t by)

-- ---- 32 `unshare N M [by] ;` equal but in share: one of s + t; owes s + t <= 64

abbrev pub joined_data : Bool → Term → Term → Term → Term → Option (Term × Item)
joined_data true s t p l = Some (Of2 Add s t, Data (Of2 Add s t) p l)
joined_data false s t p l = None

abbrev pub joined_lock : Bool → Term → Term → Term → Label → Option (Term × Item)
joined_lock true s t p l = Some (Of2 Add s t, Lock (Of2 Add s t) p l)
joined_lock false s t p l = None

-- the sum of the shares and the item with it, of items that are equal but in share
unfoldable pub united : Option Item → Option Item → Option (Term × Item)
united (Some (Data s p l)) (Some (Data t q m)) = joined_data (same p q && same l m) s t p l
united (Some (Lock s p l)) (Some (Lock t q m)) = joined_lock (same p q && same_label l m) s t p l
united i j = None

-- a share is no more than the whole
unfoldable pub whole_owes : Term → List Fact
whole_owes s = Rel rel.Le s (Number (pos 64)) ∷ []

-- one item in place of two
unfoldable pub in_one : State → ℕ → ℕ → Item → State
in_one s k m i = add_items (i ∷ []) (drop_items k m s)

unfoldable pub unshare_state : State → ℕ → ℕ → List Certificate → Checked (List State)
unshare_state s k m by = do
  tested 1 (differ k m)
  i ← required 1 (united (slice_get s.items k) (slice_get s.items m))
  owes_state s by (owing (whole_owes i.0)) (in_one s k m i.1)

unfoldable pub unshare : Node → ℕ → ℕ → List Certificate → Answer
unshare n k m by = lifted n (unshare_state n.state k m by)

-- ---- 33 `agree N M [by] ;` data at equal bases; owes len(a) = len(b); adds a = b

-- the lists are as long
unfoldable pub lengths_owe : Term → Term → List Fact
lengths_owe a b = Rel rel.Eq (Of Len a) (Of Len b) ∷ []

-- the state in which two terms are equal
unfoldable pub with_equal : State → Term → Term → State
with_equal s a b = add_facts (Rel rel.Eq a b ∷ []) s

-- what equal lists owe, and the state with it
unfoldable pub agreed : State → Term → Term → List Certificate → Checked (List State)
agreed s a b by = owes_state s by (owing (lengths_owe a b)) (with_equal s a b)

-- two data at one base
unfoldable pub agree_state : State → ℕ → ℕ → List Certificate → Checked (List State)
agree_state s k m by = do
  tested 1 (differ k m)
  d ← required 1 (data_at s k)
  e ← required 1 (data_at s m)
  tested 1 (same d.1 e.1)
  agreed s d.2 e.2 by

unfoldable pub agree : Node → ℕ → ℕ → List Certificate → Answer
agree n k m by = lifted n (agree_state n.state k m by)

-- ---- 34 `bounds N [M] [by] ;` data or lock; owes 1 <= len of N, and then of M, where that item is data; adds 1 <= s, s <= 64, isptr(p); with
-- M at an equal base, s + t <= 64 alone

-- a list has an element
unfoldable pub is_filled : Term → List Fact
is_filled l = Rel rel.Le (Number (pos 1)) (Of Len l) ∷ []

-- the share and the address of data or of a lock, and what data owes
unfoldable pub bounded : Option Item → Option (Term × Term × List Fact)
bounded (Some (Data s p l)) = Some (s, p, is_filled l)
bounded (Some (Lock s p l)) = Some (s, p, [])
bounded i = None

-- a share lies between 1 and the whole, and its address is a pointer
unfoldable pub share_bounds : Term → Term → List Fact
share_bounds s p = Rel rel.Le (Number (pos 1)) s ∷ Rel rel.Le s (Number (pos 64)) ∷ IsPtr p ∷ []

-- of one item
unfoldable pub bounds_one : State → ℕ → List Certificate → Checked (List State)
bounds_one s k by = do
  i ← required 1 (bounded (slice_get s.items k))
  owes_state s by (owing i.2) (add_facts (share_bounds i.0 i.1) s)

-- both shares together are no more than the whole
unfoldable pub bounded_by : State → Term × Term × List Fact → Term × Term × List Fact → List Certificate → Checked (List State)
bounded_by s i j by = owes_state s by (owing (i.2 ++ j.2)) (add_facts (whole_owes (Of2 Add i.0 j.0)) s)

-- of two items at one base
unfoldable pub bounds_two : State → ℕ → ℕ → List Certificate → Checked (List State)
bounds_two s k m by = do
  tested 1 (differ k m)
  i ← required 1 (bounded (slice_get s.items k))
  j ← required 1 (bounded (slice_get s.items m))
  tested 1 (same i.1 j.1)
  bounded_by s i j by

unfoldable pub bounds_state : State → ℕ → Option ℕ → List Certificate → Checked (List State)
bounds_state s k None by = bounds_one s k by
bounds_state s k (Some m) by = bounds_two s k m by

unfoldable pub bounds : Node → ℕ → Option ℕ → List Certificate → Answer
bounds n k m by = lifted n (bounds_state n.state k m by)

-- ---- 35 `apart N M [by] ;` data; owes both lengths at least 1 and 65 <= s + t; adds p != q

-- both have an element, and their shares are more than the whole
unfoldable pub apart_owes : Term × Term × Term → Term × Term × Term → List Fact
apart_owes d e = is_filled d.2 ++ (is_filled e.2 ++ Rel rel.Le (Number (pos 65)) (Of2 Add d.0 e.0) ∷ [])

-- the state in which two addresses differ
unfoldable pub with_apart : State → Term → Term → State
with_apart s p q = add_facts (Rel rel.Ne p q ∷ []) s

unfoldable pub apart_by : State → Term × Term × Term → Term × Term × Term → List Certificate → Checked (List State)
apart_by s d e by = owes_state s by (owing (apart_owes d e)) (with_apart s d.1 e.1)

unfoldable pub apart_state : State → ℕ → ℕ → List Certificate → Checked (List State)
apart_state s k m by = do
  tested 1 (differ k m)
  d ← required 1 (data_at s k)
  e ← required 1 (data_at s m)
  apart_by s d e by

unfoldable pub apart : Node → ℕ → ℕ → List Certificate → Answer
apart n k m by = lifted n (apart_state n.state k m by)

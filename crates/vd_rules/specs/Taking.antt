-- Items found in SEP and removed, and assertions that are met.
use Rattle.std.specs.Option.{option_map}
use Rattle.std.specs.Prelude.{Bool, List, None, Option, Some, [], false, nat_eq, not, slice_get, true, ℕ, ◌∷◌}
use Rattle.vd_terms.specs.Assertions.{Item, Label}
use Rattle.vd_terms.specs.States.{State}
use Rattle.vd_terms.specs.Terms.{Term}
use Rattle.vd_terms.specs.declared.assertion.ItemOf.TheVariants.{Data, Holds, Lock, Pred, Token}
use Rattle.vd_rules.specs.Assertions.{same_item}

abbrev pub behind : Item → Option (List Item) → Option (List Item)
behind i rest = option_map (λ is. i ∷ is) rest

-- without the first equal one
abbrev pub without_item : Item → List Item → Option (List Item)
without_item i [] = None
without_item i (j ∷ js) = elim (same_item i j) [ true ↦ Some js | false ↦ behind j (without_item i js) ]

-- each found and removed, the first equal one of those left
unfoldable pub taken : List Item → List Item → Option (List Item)
taken [] have = Some have
taken (i ∷ wanted) have = elim (without_item i have) [ None ↦ None | Some left ↦ taken wanted left ]

abbrev pub is_none_left : Option (List Item) → Bool
is_none_left (Some []) = true
is_none_left o = false

-- equal as multisets
unfoldable pub are_all : List Item → List Item → Bool
are_all wanted have = is_none_left (taken wanted have)

-- ---- items by their numbers

abbrev pub data_in : Option Item → Option (Term × Term × Term)
data_in (Some (Data s p l)) = Some (s, p, l)
data_in i = None

abbrev pub lock_in : Option Item → Option (Term × Term × Label)
lock_in (Some (Lock s p l)) = Some (s, p, l)
lock_in i = None

abbrev pub holds_in : Option Item → Option (Term × Label)
holds_in (Some (Holds p l)) = Some (p, l)
holds_in i = None

abbrev pub token_in : Option Item → Option (Term × Term)
token_in (Some (Token p n)) = Some (p, n)
token_in i = None

abbrev pub pred_in : Option Item → Option Label
pred_in (Some (Pred l)) = Some l
pred_in i = None

-- the share, the address and the list of data
unfoldable pub data_at : State → ℕ → Option (Term × Term × Term)
data_at s n = data_in (slice_get s.items n)

-- the share, the address and the invariant of a lock
unfoldable pub lock_at : State → ℕ → Option (Term × Term × Label)
lock_at s n = lock_in (slice_get s.items n)

-- the address and the invariant of a lock that is held
unfoldable pub holds_at : State → ℕ → Option (Term × Label)
holds_at s n = holds_in (slice_get s.items n)

-- the address and the cells of a block
unfoldable pub token_at : State → ℕ → Option (Term × Term)
token_at s n = token_in (slice_get s.items n)

unfoldable pub pred_at : State → ℕ → Option Label
pred_at s n = pred_in (slice_get s.items n)

-- the items N and M of a step are different
abbrev pub differ : ℕ → ℕ → Bool
differ n m = not (nat_eq n m)

-- Resources: finite maps, and their join.
use Rattle.std.specs.Prelude.{ℕ, ◌+◌, ◌≤◌, nat_eq, nat_le, Bool, true, false, ◌&&◌, not, List, [], ◌∷◌, Option, None, Some, option_and_then, ◌≡◌}
use Rattle.std.specs.List.{list_all}
use Rattle.vd_meaning.specs.Values.{Val, Invariant}
use Rattle.vd_meaning.specs.Shares.{Kind, Data, Lock, Hold, Token, same_kind, Shares, nothing, single, ◌⊕◌}

-- a share of one content at a place
pub record Entry : Type 0 where
  pub block : ℕ
  pub offset : ℕ
  pub kind : Kind
  pub share : ℕ

-- the entries, at most one for a key
abbrev pub Resource : Type 0
Resource = List Entry

-- what there may be one of at a place: a cell, be it data or a lock; the hold of a lock; the token of a block
abbrev pub part : Kind → ℕ
part (Data v) = 0
part (Lock i) = 0
part (Hold i) = 1
part (Token n) = 2

-- of one key: a part of a place
abbrev pub is_at : Entry → Entry → Bool
is_at e x = nat_eq e.block x.block && (nat_eq e.offset x.offset && nat_eq (part e.kind) (part x.kind))

-- two entries of one key join where their contents are equal and their shares are 64 at most
abbrev pub may_join : Entry → Entry → Bool
may_join e x = same_kind e.kind x.kind && nat_le (e.share + x.share) 64

abbrev pub behind : Entry → Option Resource → Option Resource
behind x None = None
behind x (Some xs) = Some (x ∷ xs)

-- an entry joined to a resource whose first entry is x: to this one, where both are of one key, else further on
abbrev pub placed : Bool → Bool → Entry → Entry → Resource → Option Resource → Option Resource
placed true true e x xs further = Some (record x { share = e.share + x.share } ∷ xs)
placed true false e x xs further = None
placed false joins e x xs further = behind x further

abbrev pub with_entry : Entry → Resource → Option Resource
with_entry e [] = Some (e ∷ [])
with_entry e (x ∷ xs) = placed (is_at e x) (may_join e x) e x xs (with_entry e xs)

-- two resources joined: the shares of equal contents are added; none where contents differ or shares pass 64
abbrev pub join : Resource → Resource → Option Resource
join [] c = Some c
join (e ∷ a) c = option_and_then (join a) (with_entry e c)

-- the share that an entry may have at an offset: a part of a cell or of a lock, up to the whole; a hold and a token are whole, and a token stands
-- at its block's offset 0
abbrev pub IsShare : Kind → ℕ → ℕ → Type 0
IsShare (Data v) o s = (1 ≤ s) × (s ≤ 64)
IsShare (Lock i) o s = (1 ≤ s) × (s ≤ 64)
IsShare (Hold i) o s = s ≡ 64
IsShare (Token n) o s = (o ≡ 0) × (s ≡ 64)

-- a map: no key stands twice
abbrev pub IsMap : Resource → Type 0
IsMap [] = Unit {0}
IsMap (e ∷ r) = IsShare e.kind e.offset e.share × ((list_all (λ x. not (is_at x e)) r ≡ true) × IsMap r)

-- the shares of a resource
abbrev pub shares_of : Resource → Shares
shares_of [] = nothing
shares_of (e ∷ r) = single e.block e.offset e.kind e.share ⊕ shares_of r

-- shares at one place are those of a resource: one content of each part, and at most 64 shares of it
pub record IsResourceAt (f : Kind → ℕ) : Type 0 where
  pub most : (k : Kind) → f k ≤ 64
  pub one_data : (v u : Val) → 1 ≤ f (Data v) → 1 ≤ f (Data u) → v ≡ u
  pub data_lock : (v : Val) (i : Invariant) → 1 ≤ f (Data v) → 1 ≤ f (Lock i) → ⊥
  pub one_lock : (i j : Invariant) → 1 ≤ f (Lock i) → 1 ≤ f (Lock j) → i ≡ j
  pub one_hold : (i j : Invariant) → 1 ≤ f (Hold i) → 1 ≤ f (Hold j) → i ≡ j
  pub one_token : (n m : ℕ) → 1 ≤ f (Token n) → 1 ≤ f (Token m) → n ≡ m

abbrev pub IsResource : Shares → Type 0
IsResource r = (b o : ℕ) → IsResourceAt (r b o)

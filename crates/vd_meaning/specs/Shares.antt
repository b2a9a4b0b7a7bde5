-- Shares: how much there is of each thing at each place. They are added where two are joined, so every law of joining in another order is
-- one of addition; what makes a sum a resource, and what fits a memory, is asked of the sum once.
use Rattle.std.specs.Prelude.{◌≡◌, ℕ, suc, ◌+◌, nat_eq, Bool, false, ◌&&◌, cond, List, [], ◌∷◌}
use Rattle.vd_meaning.specs.Values.{Val, Invariant, same_val, same_invariant}

-- what a share is of: a cell with this value, a lock cell with this invariant, the hold of a lock with this invariant, or the token of a
-- block that `malloc` was asked for with so many cells, which stands at its offset 0
pub data Kind : Type 0 where
  Data : Val → Kind
  Lock : Invariant → Kind
  Hold : Invariant → Kind
  Token : ℕ → Kind

abbrev pub same_kind : Kind → Kind → Bool
same_kind (Data u) (Data v) = same_val u v
same_kind (Lock i) (Lock j) = same_invariant i j
same_kind (Hold i) (Hold j) = same_invariant i j
same_kind (Token n) (Token m) = nat_eq n m
same_kind k j = false

-- the share of each kind at each offset of each block; 0 where there is none
abbrev pub Shares : Type 0
Shares = ℕ → ℕ → Kind → ℕ

abbrev pub nothing : Shares
nothing = λ b o k. 0

-- a share of one kind at one place
abbrev pub single : ℕ → ℕ → Kind → ℕ → Shares
single b o k s = λ c p j. cond (nat_eq b c && (nat_eq o p && same_kind k j)) s 0

-- two joined: their shares are added
abbrev pub ◌⊕◌ : Shares → Shares → Shares
◌⊕◌ a c = λ b o k. a b o k + c b o k

infixr 60 ◌⊕◌
-- the same shares everywhere
abbrev pub ◌≐◌ : Shares → Shares → Type 0
◌≐◌ a c = (b o : ℕ) (k : Kind) → a b o k ≡ c b o k

infix 40 ◌≐◌
-- the cells from a place on, with one share and these values
abbrev pub cells : ℕ → ℕ → ℕ → List Val → Shares
cells b o s [] = nothing
cells b o s (v ∷ l) = single b o (Data v) s ⊕ cells b (suc o) s l

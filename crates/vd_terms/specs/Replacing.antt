-- Variables and names replaced by terms: one function, of which substitution and opening are uses.
use Rattle.std.specs.Prelude.{ℕ, ◌-◌, nat_lt, List, [], cond, slice_index_or}
use Rattle.vd_logic.specs.declared.term.Sort.{Sort}
use Rattle.vd_terms.specs.Terms.{Name, Term, Number, Var, Named, Global, Undef, Nil, Of, Of2, Of3}
use Rattle.vd_terms.specs.Assertions.{Assertion, map_assertion}

-- a term with what f gives for each variable, and what g gives for each name, all at once
abbrev pub replaced : (ℕ → Sort → Term) → (Name → Term) → Term → Term
replaced f g (Number n) = Number n
replaced f g (Var x s) = f x s
replaced f g (Named name) = g name
replaced f g (Global name) = Global name
replaced f g Undef = Undef
replaced f g Nil = Nil
replaced f g (Of o a) = Of o (replaced f g a)
replaced f g (Of2 o a b) = Of2 o (replaced f g a) (replaced f g b)
replaced f g (Of3 o a b c) = Of3 o (replaced f g a) (replaced f g b) (replaced f g c)

-- the term for the variable of a number; a variable without one stays
abbrev pub term_at : List Term → ℕ → Sort → Term
term_at terms x s = slice_index_or terms x (Var x s)

-- terms in the place of the variables 0, 1, ..
abbrev pub substituted : List Term → Term → Term
substituted terms = replaced (term_at terms) Named

-- an assertion that stands under the first `bound` variables of a state opens its own behind them: those below the bound are the
-- state's and stay, the others are the terms
abbrev pub in_place : ℕ → List Term → ℕ → Sort → Term
in_place bound terms x s = cond (nat_lt x bound) (Var x s) (slice_index_or terms (x - bound) (Var x s))

abbrev pub opened : ℕ → List Term → Term → Term
opened bound terms = replaced (in_place bound terms) Named

-- the assertion with terms for what it opens
abbrev pub opened_assertion : ℕ → List Term → Assertion → Assertion
opened_assertion bound terms a = record (map_assertion (opened bound terms) a) { opened = [] }

-- Where terms stand in terms, and how large terms are.
use Rattle.std.specs.Prelude.{Bool, cond, false, max, nat_eq, suc, ℕ, ◌+◌, ◌||◌}
use Rattle.vd_terms.specs.Terms.{Of, Of2, Of3, Term, Var}
use Rattle.vd_rules.specs.TermOrder.{same}

-- whether a variable stands in the term
abbrev pub occurs : ℕ → Term → Bool
occurs x (Var y s) = nat_eq x y
occurs x (Of o a) = occurs x a
occurs x (Of2 o a b) = occurs x a || occurs x b
occurs x (Of3 o a b c) = occurs x a || (occurs x b || occurs x c)
occurs x t = false

-- every occurrence of `from` replaced by `to`, the outermost first
abbrev pub rewritten : Term → Term → Term → Term
rewritten from to (Of o a) = cond (same (Of o a) from) to (Of o (rewritten from to a))
rewritten from to (Of2 o a b) = cond (same (Of2 o a b) from) to (Of2 o (rewritten from to a) (rewritten from to b))
rewritten from to (Of3 o a b c) = cond (same (Of3 o a b c) from) to (Of3 o (rewritten from to a) (rewritten from to b) (rewritten from to c))
rewritten from to t = cond (same t from) to t

-- how many layers a term has, each as often as it stands
abbrev pub nodes : Term → ℕ
nodes (Of o a) = suc (nodes a)
nodes (Of2 o a b) = suc (nodes a + nodes b)
nodes (Of3 o a b c) = suc (nodes a + nodes b + nodes c)
nodes t = 1

-- how many layers lie one in another
abbrev pub height : Term → ℕ
height (Of o a) = suc (height a)
height (Of2 o a b) = suc (max (height a) (height b))
height (Of3 o a b c) = suc (max (height a) (max (height b) (height c)))
height t = 1

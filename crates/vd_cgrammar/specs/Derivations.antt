-- Induction over what tokens are, by the rules of a grammar.
use Rattle.std.specs.Prelude.{◌≡◌, true, List, [], ◌∷◌, ◌++◌}
use Rattle.std.proofs.Common.{refl, sym, subst}
use Rattle.vd_grammar.specs.Grammar.{Symbol, word, part, Grammar, Tokens, Values, Matches, nothing, token_then, part_then, Is, by_rule}

module _ (G : Grammar) (P : (S : G.Sort) → Tokens G → G.Value S → Type 0) where
  -- The tokens are a row, and what is to be shown holds of its parts.
  abbrev pub Parts : (ss : List (Symbol G.Class G.Sort)) → Tokens G → Values G ss → Type 0
  Parts [] ts vs = ts ≡ []
  Parts (word c ∷ ss) ts vs = (us : Tokens G) × (ts ≡ vs.0 ∷ us) × (G.has c (G.kind vs.0) ≡ true) × Parts ss us vs.1
  Parts (part S ∷ ss) ts vs = (xs : Tokens G) × (ys : Tokens G) × (ts ≡ xs ++ ys) × P S xs vs.0 × Parts ss ys vs.1

  -- what each rule hands on
  abbrev pub ByRules : Type 0
  ByRules = (S : G.Sort) (r : G.Rule S) (ts : Tokens G) (vs : Values G (G.symbols r)) → Parts (G.symbols r) ts vs → P S ts (G.make r vs)

  module _ (step : ByRules) where
    mutual
      parts_of : {ss : List (Symbol G.Class G.Sort)} {ts : Tokens G} {vs : Values G ss} → Matches G ss ts vs → Parts ss ts vs
      parts_of nothing = refl
      parts_of (token_then {ts = ts} h m) = (ts, refl, h, parts_of m)
      parts_of (part_then {xs = xs} {ys = ys} cut x m) = (xs, ys, cut, all_are x, parts_of m)

      pub all_are : {S : G.Sort} {ts : Tokens G} {v : G.Value S} → Is G S ts v → P S ts v
      all_are (by_rule {S = S} r {ts = ts} {vs = vs} made m) = subst (P S ts) (sym made) (step S r ts vs (parts_of m))

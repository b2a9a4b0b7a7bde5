-- The terms and labels of assertions.
use Rattle.std.specs.Prelude.{List, [], ◌∷◌, ◌++◌, map, flat_map}
use Rattle.vd_logic.specs.declared.assertion.Assertion.{Assertion}
use Rattle.vd_logic.specs.declared.assertion.Item.{Item}
use Rattle.vd_logic.specs.declared.assertion.Item.TheVariants as item
use Rattle.vd_logic.specs.declared.assertion.Label.{Label}
use Rattle.vd_logic.specs.declared.assertion.Prop.{Prop}
use Rattle.vd_logic.specs.declared.assertion.Prop.TheVariants as prop
use Rattle.vd_logic.specs.declared.term.Term.{Term}

abbrev pub prop_terms : Prop → List Term
prop_terms (prop.Rel rel a b) = a ∷ b ∷ []
prop_terms (prop.IsInt a) = a ∷ []
prop_terms (prop.IsPtr a) = a ∷ []
prop_terms (prop.Each l a b) = l ∷ a ∷ b ∷ []

abbrev pub item_labels : Item → List Label
item_labels (item.Lock s p l) = l ∷ []
item_labels (item.Holds p l) = l ∷ []
item_labels (item.Pred l) = l ∷ []
item_labels _ = []

abbrev pub item_terms : Item → List Term
item_terms (item.Data s p l) = s ∷ p ∷ l ∷ []
item_terms (item.Lock s p l) = s ∷ p ∷ l.args
item_terms (item.Holds p l) = p ∷ l.args
item_terms (item.Token p n) = p ∷ n ∷ []
item_terms (item.Pred l) = l.args

-- all terms of an assertion
abbrev pub terms_of : Assertion → List Term
terms_of a = flat_map prop_terms a.props ++ (map (λ x. x.1) a.locals ++ flat_map item_terms a.items)

-- all labels of an assertion: predicates with their arguments, as items and as locks' invariants
abbrev pub labels_of : Assertion → List Label
labels_of a = flat_map item_labels a.items

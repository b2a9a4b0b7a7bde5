-- How many nodes terms have.
use Rattle.std.specs.Prelude.{ℕ, suc, ◌+◌, List, map}
use Rattle.std.specs.List.{sum}
use Rattle.vd_logic.specs.declared.assertion.Assertion.{Assertion}
use Rattle.vd_logic.specs.declared.assertion.Item.{Item}
use Rattle.vd_logic.specs.declared.assertion.Item.TheVariants as item
use Rattle.vd_logic.specs.declared.assertion.Label.{Label}
use Rattle.vd_logic.specs.declared.assertion.Prop.{Prop}
use Rattle.vd_logic.specs.declared.assertion.Prop.TheVariants as prop
use Rattle.vd_logic.specs.declared.term.Term.{Term, Term-F, fold-Term}
use Rattle.vd_logic.specs.declared.term.Term.TheOpen.{App}

abbrev pub nodes_layer : Term-F ℕ → ℕ
nodes_layer (App op counts) = suc (sum counts)
nodes_layer _ = 1

-- the nodes of a term: its leaves and its operations
unfoldable pub term_nodes : Term → ℕ
term_nodes = fold-Term ℕ nodes_layer

abbrev pub all_nodes : List Term → ℕ
all_nodes ts = sum (map term_nodes ts)

abbrev pub prop_nodes : Prop → ℕ
prop_nodes (prop.Rel rel a b) = term_nodes a + term_nodes b
prop_nodes (prop.IsInt a) = term_nodes a
prop_nodes (prop.IsPtr a) = term_nodes a
prop_nodes (prop.Each l a b) = term_nodes l + term_nodes a + term_nodes b

abbrev pub item_nodes : Item → ℕ
item_nodes (item.Data s p l) = term_nodes s + term_nodes p + term_nodes l
item_nodes (item.Lock s p l) = term_nodes s + term_nodes p + all_nodes l.args
item_nodes (item.Holds p l) = term_nodes p + all_nodes l.args
item_nodes (item.Token p n) = term_nodes p + term_nodes n
item_nodes (item.Pred l) = all_nodes l.args

abbrev pub local_nodes : List ℕ × Term → ℕ
local_nodes x = term_nodes x.1

-- the nodes of an assertion's terms, those of labels' arguments too
abbrev pub nodes : Assertion → ℕ
nodes a = sum (map prop_nodes a.props) + sum (map local_nodes a.locals) + sum (map item_nodes a.items)

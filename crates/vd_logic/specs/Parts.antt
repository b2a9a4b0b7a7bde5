-- A function of terms at each term of a fact, a label, an item, an assertion.
use Rattle.std.specs.Prelude.{ℕ, List, map}
use Rattle.vd_logic.specs.declared.assertion.Assertion.{Assertion}
use Rattle.vd_logic.specs.declared.assertion.Item.{Item}
use Rattle.vd_logic.specs.declared.assertion.Item.TheVariants as item
use Rattle.vd_logic.specs.declared.assertion.Label.{Label}
use Rattle.vd_logic.specs.declared.assertion.Prop.{Prop}
use Rattle.vd_logic.specs.declared.assertion.Prop.TheVariants as prop
use Rattle.vd_logic.specs.declared.term.Term.{Term}

abbrev pub map_prop : (Term → Term) → Prop → Prop
map_prop f (prop.Rel rel a b) = prop.Rel rel (f a) (f b)
map_prop f (prop.IsInt a) = prop.IsInt (f a)
map_prop f (prop.IsPtr a) = prop.IsPtr (f a)
map_prop f (prop.Each l a b) = prop.Each (f l) (f a) (f b)

abbrev pub map_label : (Term → Term) → Label → Label
map_label f l = record { name = l.name; args = map f l.args }

abbrev pub map_item : (Term → Term) → Item → Item
map_item f (item.Data s p l) = item.Data (f s) (f p) (f l)
map_item f (item.Lock s p l) = item.Lock (f s) (f p) (map_label f l)
map_item f (item.Holds p l) = item.Holds (f p) (map_label f l)
map_item f (item.Token p n) = item.Token (f p) (f n)
map_item f (item.Pred l) = item.Pred (map_label f l)

-- a temporary's value
abbrev pub map_local : (Term → Term) → List ℕ × Term → List ℕ × Term
map_local f x = (x.0, f x.1)

-- Terms in the place of variables.
use Rattle.std.specs.Prelude.{List, [], map, slice_index_or}
use Rattle.vd_logic.specs.declared.assertion.Assertion.{Assertion}
use Rattle.vd_logic.specs.declared.term.Term.{Term, Term-F, Num, Var, Named, Global, App, fold-Term}
use Rattle.vd_logic.specs.declared.term.Term.TheOpen as layer
use Rattle.vd_logic.specs.Parts.{map_prop, map_item, map_local}

abbrev pub substituted_layer : List Term → Term-F Term → Term
substituted_layer terms (layer.Num n) = Num n
substituted_layer terms (layer.Var i s) = slice_index_or terms i (Var i s)
substituted_layer terms (layer.Named n) = Named n
substituted_layer terms (layer.Global n) = Global n
substituted_layer terms (layer.App o args) = App o args

-- the variables 0, 1, .. replaced by the terms, all at once; a variable without a term stays
unfoldable pub substituted : List Term → Term → Term
substituted terms = fold-Term Term (substituted_layer terms)

-- an assertion with the variables of all its terms replaced, which opens none
abbrev pub substituted_assertion : List Term → Assertion → Assertion
substituted_assertion terms a = record {
  opened = [];
  props = map (map_prop (substituted terms)) a.props;
  locals = map (map_local (substituted terms)) a.locals;
  items = map (map_item (substituted terms)) a.items;
}

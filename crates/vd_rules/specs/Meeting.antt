-- What a state owes, and assertions that it meets.
use Rattle.std.specs.List.{list_all}
use Rattle.std.specs.Prelude.{List, [], ◌++◌, ◌∷◌}
use Rattle.vd_logic.specs.declared.step.Certificate.{Certificate}
use Rattle.vd_terms.specs.Assertions.{Assertion}
use Rattle.vd_terms.specs.States.{State}
use Rattle.vd_terms.specs.Terms.{Term}
use Rattle.vd_rules.specs.Conditions.{required, tested, ◌>>=◌, ◌>>◌}
use Rattle.vd_rules.specs.Opening.{Open, has_value, opened_by}
use Rattle.vd_rules.specs.Proving.{Owed, are_proved}
use Rattle.vd_rules.specs.Reading.{terms_of}
use Rattle.vd_rules.specs.Taking.{are_all}
use Rattle.vd_rules.specs.Values.{owing}
use Rattle.vd_rules.specs.declared.checked.Checked.{Checked}
use Rattle.vd_rules.specs.declared.checked.Checked.TheVariants.{Passed}

-- the facts are owed, and the one child has the state
unfoldable pub owes_state : State → List Certificate → List Owed → State → Checked (List State)
owes_state s by owed child = do
  tested 3 (are_proved s.facts by owed)
  Passed (child ∷ [])

-- to meet an assertion, behind what an expression owes: PROP is owed (3), each LOCAL is equal (4), the two SEPs are equal as multisets (5)
unfoldable pub met_by : State → Assertion → List Owed → List Certificate → Checked (List State)
met_by s a owed by = do
  tested 3 (are_proved s.facts by (owed ++ owing a.facts))
  tested 4 (list_all (has_value s.locals) a.locals)
  tested 5 (are_all a.items s.items)
  Passed []

-- with the terms for the opened variables
unfoldable pub meets : State → Open → List Term → List Owed → List Certificate → Checked (List State)
meets s o ts owed by = met_by s (opened_by o ts) owed by

-- with terms as they stand in a step
unfoldable pub meets_goal : State → Open → List Term → List Certificate → Checked (List State)
meets_goal s o ts by = do
  us ← required 1 (terms_of s o.inner.opened ts)
  meets s o us [] by

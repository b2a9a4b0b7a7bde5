-- All that unfolds where rules are run on cases: an equation `body_verdict .. ≡ Accepted` says `unfolding computing` and is `refl`. Whoever adds a
-- piece to a rule names it here.

unfoldable pub computing : Unit {0}
unfolding
    Rattle.vd_rules.specs.Branching.exchanged Rattle.vd_rules.specs.Branching.against_zero Rattle.vd_rules.specs.Branching.comparison
    Rattle.vd_rules.specs.Branching.compared_by Rattle.vd_rules.specs.Branching.compared Rattle.vd_rules.specs.Branching.nonzero
    Rattle.vd_rules.specs.Branching.truth Rattle.vd_rules.specs.Branching.is_null Rattle.vd_rules.specs.Branching.covered_unless_null
    Rattle.vd_rules.specs.Branching.equality Rattle.vd_rules.specs.Branching.both_covered Rattle.vd_rules.specs.Branching.pointer_test
    Rattle.vd_rules.specs.Branching.condition Rattle.vd_rules.specs.CallRules.fits_spec Rattle.vd_rules.specs.CallRules.specified
    Rattle.vd_rules.specs.CallRules.arguments Rattle.vd_rules.specs.CallRules.given_up Rattle.vd_rules.specs.CallRules.opened_sorts
    Rattle.vd_rules.specs.CallRules.set_target Rattle.vd_rules.specs.CallRules.with_post Rattle.vd_rules.specs.CallRules.after_call
    Rattle.vd_rules.specs.CallRules.call_with Rattle.vd_rules.specs.CallRules.call_state Rattle.vd_rules.specs.CallRules.call
    Rattle.vd_rules.specs.CallRules.block_items Rattle.vd_rules.specs.CallRules.with_block Rattle.vd_rules.specs.CallRules.malloc_children
    Rattle.vd_rules.specs.CallRules.malloc Rattle.vd_rules.specs.CallRules.free_owes Rattle.vd_rules.specs.CallRules.freed
    Rattle.vd_rules.specs.CallRules.free_state Rattle.vd_rules.specs.CallRules.free Rattle.vd_rules.specs.CallRules.fits_spawn
    Rattle.vd_rules.specs.CallRules.spawn_with Rattle.vd_rules.specs.CallRules.spawn_state Rattle.vd_rules.specs.CallRules.spawn
    Rattle.vd_rules.specs.Certificates.refuted Rattle.vd_rules.specs.Certificates.proves Rattle.vd_rules.specs.Changes.add_facts
    Rattle.vd_rules.specs.Changes.drop_fact Rattle.vd_rules.specs.Changes.add_items Rattle.vd_rules.specs.Changes.drop_item
    Rattle.vd_rules.specs.Changes.drop_items Rattle.vd_rules.specs.Changes.replace_item Rattle.vd_rules.specs.Changes.set_local
    Rattle.vd_rules.specs.Changes.local_at Rattle.vd_rules.specs.Changes.can_open Rattle.vd_rules.specs.Changes.fresh
    Rattle.vd_rules.specs.Changes.add_variables Rattle.vd_rules.specs.Changes.fits Rattle.vd_rules.specs.DataRules.cut_items
    Rattle.vd_rules.specs.DataRules.cut_by Rattle.vd_rules.specs.DataRules.cut_state Rattle.vd_rules.specs.DataRules.cut
    Rattle.vd_rules.specs.DataRules.adjoin Rattle.vd_rules.specs.DataRules.glued_item Rattle.vd_rules.specs.DataRules.glue_state
    Rattle.vd_rules.specs.DataRules.glue Rattle.vd_rules.specs.DataRules.part_owes Rattle.vd_rules.specs.DataRules.part_items
    Rattle.vd_rules.specs.DataRules.in_parts Rattle.vd_rules.specs.DataRules.shared_by Rattle.vd_rules.specs.DataRules.share_state
    Rattle.vd_rules.specs.DataRules.share Rattle.vd_rules.specs.DataRules.united Rattle.vd_rules.specs.DataRules.whole_owes
    Rattle.vd_rules.specs.DataRules.in_one Rattle.vd_rules.specs.DataRules.unshare_state Rattle.vd_rules.specs.DataRules.unshare
    Rattle.vd_rules.specs.DataRules.lengths_owe Rattle.vd_rules.specs.DataRules.with_equal Rattle.vd_rules.specs.DataRules.agreed
    Rattle.vd_rules.specs.DataRules.agree_state Rattle.vd_rules.specs.DataRules.agree Rattle.vd_rules.specs.DataRules.is_filled
    Rattle.vd_rules.specs.DataRules.bounded Rattle.vd_rules.specs.DataRules.share_bounds Rattle.vd_rules.specs.DataRules.bounds_one
    Rattle.vd_rules.specs.DataRules.bounded_by Rattle.vd_rules.specs.DataRules.bounds_two Rattle.vd_rules.specs.DataRules.bounds_state
    Rattle.vd_rules.specs.DataRules.bounds Rattle.vd_rules.specs.DataRules.apart_owes Rattle.vd_rules.specs.DataRules.with_apart
    Rattle.vd_rules.specs.DataRules.apart_by Rattle.vd_rules.specs.DataRules.apart_state Rattle.vd_rules.specs.DataRules.apart
    Rattle.vd_rules.specs.FactRules.negation Rattle.vd_rules.specs.FactRules.split_state Rattle.vd_rules.specs.FactRules.split
    Rattle.vd_rules.specs.FactRules.absurd_step Rattle.vd_rules.specs.FactRules.have_state Rattle.vd_rules.specs.FactRules.have
    Rattle.vd_rules.specs.FactRules.law_with Rattle.vd_rules.specs.FactRules.law_state Rattle.vd_rules.specs.FactRules.law_step
    Rattle.vd_rules.specs.FactRules.value_of Rattle.vd_rules.specs.FactRules.told Rattle.vd_rules.specs.FactRules.goal_mentions
    Rattle.vd_rules.specs.FactRules.post_mentions Rattle.vd_rules.specs.FactRules.is_in_goal Rattle.vd_rules.specs.FactRules.put
    Rattle.vd_rules.specs.FactRules.put_local Rattle.vd_rules.specs.FactRules.put_state Rattle.vd_rules.specs.FactRules.subst_state
    Rattle.vd_rules.specs.FactRules.subst_step Rattle.vd_rules.specs.FactRules.rewrite_term Rattle.vd_rules.specs.FactRules.rewrite_fact
    Rattle.vd_rules.specs.FactRules.rewrite_item Rattle.vd_rules.specs.FactRules.rewrite_local Rattle.vd_rules.specs.FactRules.rewrite_at
    Rattle.vd_rules.specs.FactRules.rewrite_state Rattle.vd_rules.specs.FactRules.rewrite Rattle.vd_rules.specs.FactRules.forget_state
    Rattle.vd_rules.specs.FactRules.forget Rattle.vd_rules.specs.FactRules.named_term Rattle.vd_rules.specs.FactRules.with_name
    Rattle.vd_rules.specs.FactRules.name_state Rattle.vd_rules.specs.FactRules.name_step Rattle.vd_rules.specs.GoalRules.asserted
    Rattle.vd_rules.specs.GoalRules.both_read Rattle.vd_rules.specs.GoalRules.loop_opens Rattle.vd_rules.specs.GoalRules.loop_children
    Rattle.vd_rules.specs.GoalRules.while Rattle.vd_rules.specs.GoalRules.break Rattle.vd_rules.specs.GoalRules.continue
    Rattle.vd_rules.specs.GoalRules.returned Rattle.vd_rules.specs.GoalRules.return_state Rattle.vd_rules.specs.GoalRules.return
    Rattle.vd_rules.specs.GoalRules.fall_off Rattle.vd_rules.specs.GoalRules.fall_state Rattle.vd_rules.specs.GoalRules.fall
    Rattle.vd_rules.specs.GoalRules.block_children Rattle.vd_rules.specs.GoalRules.block Rattle.vd_rules.specs.GoalRules.pose_children
    Rattle.vd_rules.specs.GoalRules.pose Rattle.vd_rules.specs.GoalRules.meet Rattle.vd_rules.specs.Laws.law_named
    Rattle.vd_rules.specs.Laws.are_numerals Rattle.vd_rules.specs.Laws.instance Rattle.vd_rules.specs.LockRules.makelock_owes
    Rattle.vd_rules.specs.LockRules.new_lock Rattle.vd_rules.specs.LockRules.lock_made Rattle.vd_rules.specs.LockRules.makelock_state
    Rattle.vd_rules.specs.LockRules.makelock Rattle.vd_rules.specs.LockRules.acquired_items Rattle.vd_rules.specs.LockRules.acquired
    Rattle.vd_rules.specs.LockRules.acquire_state Rattle.vd_rules.specs.LockRules.acquire Rattle.vd_rules.specs.LockRules.released_at
    Rattle.vd_rules.specs.LockRules.released Rattle.vd_rules.specs.LockRules.release_state Rattle.vd_rules.specs.LockRules.release
    Rattle.vd_rules.specs.LockRules.freed_cell Rattle.vd_rules.specs.LockRules.unlocked Rattle.vd_rules.specs.LockRules.freelock_state
    Rattle.vd_rules.specs.LockRules.freelock Rattle.vd_rules.specs.Meeting.owes_state Rattle.vd_rules.specs.Meeting.met_by
    Rattle.vd_rules.specs.Meeting.meets Rattle.vd_rules.specs.Meeting.meets_goal Rattle.vd_rules.specs.Nodes.lifted
    Rattle.vd_rules.specs.Nodes.passed Rattle.vd_rules.specs.Opening.with_terms Rattle.vd_rules.specs.Opening.opens
    Rattle.vd_rules.specs.Opening.has_value Rattle.vd_rules.specs.PredicateRules.defined
    Rattle.vd_rules.specs.PredicateRules.fits_declared Rattle.vd_rules.specs.PredicateRules.case_of
    Rattle.vd_rules.specs.PredicateRules.folded_item Rattle.vd_rules.specs.PredicateRules.folded
    Rattle.vd_rules.specs.PredicateRules.fold_state Rattle.vd_rules.specs.PredicateRules.fold
    Rattle.vd_rules.specs.PredicateRules.case_state Rattle.vd_rules.specs.PredicateRules.case_states
    Rattle.vd_rules.specs.PredicateRules.cases_open Rattle.vd_rules.specs.PredicateRules.unfold_state
    Rattle.vd_rules.specs.PredicateRules.unfold_step Rattle.vd_rules.specs.Proving.are_proved Rattle.vd_rules.specs.Reading.resolved
    Rattle.vd_rules.specs.Reading.term_of Rattle.vd_rules.specs.Reading.sorted_term Rattle.vd_rules.specs.Reading.sorted_terms
    Rattle.vd_rules.specs.Reading.terms_of Rattle.vd_rules.specs.Reading.fact_of Rattle.vd_rules.specs.Reading.label_of
    Rattle.vd_rules.specs.Reading.shown Rattle.vd_rules.specs.Reading.read_assertion Rattle.vd_rules.specs.Reading.locals_known
    Rattle.vd_rules.specs.Reading.is_declared Rattle.vd_rules.specs.Reading.predicates_declared Rattle.vd_rules.specs.Rules.step_of
    Rattle.vd_rules.specs.StatementRules.skip Rattle.vd_rules.specs.StatementRules.set_state Rattle.vd_rules.specs.StatementRules.set
    Rattle.vd_rules.specs.StatementRules.loaded Rattle.vd_rules.specs.StatementRules.load_state Rattle.vd_rules.specs.StatementRules.load
    Rattle.vd_rules.specs.StatementRules.store_owes Rattle.vd_rules.specs.StatementRules.stored_in
    Rattle.vd_rules.specs.StatementRules.stored Rattle.vd_rules.specs.StatementRules.store_state
    Rattle.vd_rules.specs.StatementRules.store Rattle.vd_rules.specs.StatementRules.branch_states
    Rattle.vd_rules.specs.StatementRules.if_children Rattle.vd_rules.specs.StatementRules.if_step
    Rattle.vd_rules.specs.StepNumbers.node_number Rattle.vd_rules.specs.StepNumbers.step_number Rattle.vd_rules.specs.Taking.taken
    Rattle.vd_rules.specs.Taking.are_all Rattle.vd_rules.specs.Taking.data_at Rattle.vd_rules.specs.Taking.lock_at
    Rattle.vd_rules.specs.Taking.holds_at Rattle.vd_rules.specs.Taking.token_at Rattle.vd_rules.specs.Taking.pred_at
    Rattle.vd_rules.specs.Tree.fits_blocks Rattle.vd_rules.specs.Tree.sized Rattle.vd_rules.specs.Tree.made Rattle.vd_rules.specs.Tree.run
    Rattle.vd_rules.specs.Values.in_range Rattle.vd_rules.specs.Values.arithmetic Rattle.vd_rules.specs.Values.division_owes
    Rattle.vd_rules.specs.Values.of_range Rattle.vd_rules.specs.Values.shift Rattle.vd_rules.specs.Values.binary_value
    Rattle.vd_rules.specs.Values.negated_value Rattle.vd_rules.specs.Values.unary_value Rattle.vd_rules.specs.Values.operand
    Rattle.vd_rules.specs.Values.result Rattle.vd_rules.specs.Values.root_term Rattle.vd_rules.specs.Values.root_and_offset
    Rattle.vd_rules.specs.Values.distance Rattle.vd_rules.specs.Values.within Rattle.vd_rules.specs.Values.cover_owes
    Rattle.vd_rules.specs.Values.covered Rattle.vd_rules.specs.Values.is_inside Rattle.vd_rules.specs.Values.address_by
    Rattle.vd_rules.specs.Values.covered_unless Rattle.vd_rules.specs.Values.taken_address Rattle.vd_rules.specs.Values.moved_by
    Rattle.vd_rules.specs.Values.indexed Rattle.vd_rules.specs.Values.address Rattle.vd_rules.specs.Values.values
    Rattle.vd_rules.specs.Values.finished Rattle.vd_rules.specs.Values.value Rattle.vd_rules.specs.Verdicts.verdict_from
    Rattle.vd_rules.specs.Verdicts.entry_locals Rattle.vd_rules.specs.Verdicts.entry_assertion Rattle.vd_rules.specs.Verdicts.entry_with
    Rattle.vd_rules.specs.Verdicts.entry_state Rattle.vd_rules.specs.Verdicts.post_of Rattle.vd_rules.specs.Verdicts.body_node
    Rattle.vd_rules.specs.Verdicts.body_from Rattle.vd_rules.specs.Verdicts.body_verdict Rattle.vd_rules.specs.Verdicts.calling
    Rattle.vd_rules.specs.Verdicts.sub_verdict Rattle.vd_rules.specs.Verdicts.initial_values Rattle.vd_rules.specs.Verdicts.raw_item
    Rattle.vd_rules.specs.Verdicts.init_node Rattle.vd_rules.specs.Verdicts.init_verdict
computing = tt

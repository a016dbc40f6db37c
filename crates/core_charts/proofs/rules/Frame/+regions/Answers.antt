use Rattle.std.proofs.lemmas.Grind.{common_steps, elements}
use Rattle.std.proofs.Common.{suc, ◌≡◌, ◌≤◌, ◌-◌, IsTrue, map, slice_get, true, false, length, count_by, subst, sym, ap, ◌∙◌, refl}
use Rattle.std.proofs.Common.{rules, arith}
use Rattle.sc_text.specs.Parts.{IsNameIn, are_distinct}
use Rattle.core_charts.specs.declared.region.Region.TheViews.{out-Region, out-State}
use Rattle.core_charts.specs.Tests.{is_join}
use Rattle.core_charts.specs.Rules.{IsTransition, IsState, IsRegion, AreRegions, IsWithin, state_limit, transition_limit}
use Rattle.sc_graph.proofs.Each.{each_more, each_of_all}
use Rattle.core_charts.proofs.rules.Frame.+regions.Goals as goal

pub are_regions-loop-region-preserved : goal.are_regions-loop-region-preserved
are_regions-loop-region-preserved t c =
    each_more (IsRegion _ _ (AreRegions _ _ (c.args.levels - 1))) _ _ _ c.loop-region-test.true c.region-item.is c.loop-region.invariant
    (c.in_ok-is_region.ensures.0 c.if-not-branch.false)

pub are_states-loop-state-preserved : goal.are_states-loop-state-preserved
are_states-loop-state-preserved t c =
    each_more (IsState _ _ (AreRegions _ _ c.args.levels) _) _ _ _ c.loop-state-test.true c.state-item.is c.loop-state.invariant
    (c.in_ok-is_state.ensures.0 c.if-not-branch.false)

pub are_states-returns : goal.are_states-returns
are_states-returns t c = (
  λ yes. each_of_all (IsState _ _ (AreRegions _ _ c.args.levels) _) _ _ c.loop-state-test.false c.loop-state.invariant,
  λ all. refl,
)

pub are_regions-returns : goal.are_regions-returns
are_regions-returns t c =
    let e : suc (c.args.levels - 1) ≡ c.args.levels = omega (arith, c.if-levels-eq0.false) in (
      λ yes.
          subst (λ n. AreRegions c.args.self.features c.args.self.variables.now n c.args.regions.now) e
          (record {
            count = omega (arith, c.if-regions-region_limit.false, c.region_limit.ensures);
            distinct = search (rules, c.if-not-are_distinct.false, c.are_distinct.ensures, c.deref.ensures.value, c.in_ok-region_names.ensures);
            each = each_of_all (IsRegion _ _ (AreRegions _ _ (c.args.levels - 1))) _ _ c.loop-region-test.false c.loop-region.invariant;
          }),
      λ all. refl,
    )

pub is_region-returns : goal.is_region-returns
is_region-returns t c =
    let e : c.as_slice-states.result.now ≡ (out-Region c.args.region.now).states = c.as_slice-states.ensures in
    let one : c.initial_count.result ≡ 1 = omega (arith, c.if-initial_count-ne1.false) in
    let names : c.are_distinct.result ≡ are_distinct (map (λ s. (out-State s).name) (out-Region c.args.region.now).states) =
    c.are_distinct.ensures
    ∙ (ap are_distinct (c.deref.ensures.value ∙ c.in_ok-state_names.ensures) ∙ ap (λ xs. are_distinct (map (λ s. (out-State s).name) xs)) e) in (
      λ yes. record {
        named = subst (λ l. IsNameIn l (out-Region c.args.region.now).name) c.language.ensures (c.takes_name.ensures.0 c.if-not-takes_name.false);
        state_count =
            subst (λ xs. IsWithin (state_limit c.args.self.features) (length xs)) e
            (subst (λ m. IsWithin m (length c.as_slice-states.result.now)) c.state_limit.ensures (c.is_within.ensures.0 c.if-not-is_within.false));
        one_initial = subst (λ xs. count_by (λ s. (out-State s).is_initial) xs ≡ 1) e (sym c.initial_count.ensures ∙ one);
        distinct = subst (λ b. IsTrue b) names c.if-not-are_distinct.false;
        states = λ i s at.
            subst (λ xs. IsState c.args.self.features c.args.self.variables.now (AreRegions c.args.self.features c.args.self.variables.now c.args.levels)
            (length xs) s) e
            (c.in_ok-all_keep.ensures.0 yes i s (ap (λ xs. slice_get xs i) e ∙ at));
      },
      λ is.
          c.in_ok-all_keep.ensures.1 (λ i s at.
          subst (λ xs. IsState c.args.self.features c.args.self.variables.now (AreRegions c.args.self.features c.args.self.variables.now c.args.levels)
          (length xs) s) (sym e)
          (is.states i s (sym (ap (λ xs. slice_get xs i) e) ∙ at))),
    )

pub is_state-returns-then-not-are_transitions : goal.is_state-returns-then-not-are_transitions
is_state-returns-then-not-are_transitions t c =
    let e : c.as_slice-transitions.result.now ≡ (out-State c.args.state.now).transitions = c.as_slice-transitions.ensures in (
      λ no. absurd cc,
      λ is.
          let all : IsTrue c.are_transitions.result =
          c.are_transitions.ensures.1 (λ i x at.
          subst (λ b. IsTransition c.args.self.features c.args.self.variables.now c.args.states b x) (sym c.is_superstate.ensures)
          (is.transitions i x (sym (ap (λ xs. slice_get xs i) e) ∙ at))) in
          let no : c.are_transitions.result ≡ false = c.if-not-are_transitions.true in
          cc,
    )

pub is_state-returns : goal.is_state-returns
is_state-returns t c =
    let e : c.as_slice-transitions.result.now ≡ (out-State c.args.state.now).transitions = c.as_slice-transitions.ensures in
    let regions : c.as_slice.result.now ≡ (out-State c.args.state.now).regions = c.as_slice.ensures in (
      λ yes. record {
        named = subst (λ l. IsNameIn l (out-State c.args.state.now).name) c.language.ensures (c.takes_name.ensures.0 c.if-not-takes_name.false);
        bare = c.is_bare_if_final.ensures.0 c.if-not-is_bare_if_final.false;
        regions =
            subst (λ xs. AreRegions c.args.self.features c.args.self.variables.now c.args.levels xs) regions (c.in_ok-inside_keeps.ensures.0 yes);
        transition_count =
            subst (λ xs. IsWithin (transition_limit c.args.self.features) (length xs)) e
            (subst (λ m. IsWithin m (length c.as_slice-transitions.result.now)) c.transition_limit.ensures (c.is_within.ensures.0 c.if-not-is_within.false));
        one_join =
            subst (λ xs. count_by (λ x. is_join x.kind) xs ≤ 1) e (omega (arith, c.join_count.ensures, c.if-join_count-gt1.false));
        transitions = λ i x at.
            subst (λ b. IsTransition c.args.self.features c.args.self.variables.now c.args.states b x) c.is_superstate.ensures
            (c.are_transitions.ensures.0 c.if-not-are_transitions.false i x (ap (λ xs. slice_get xs i) e ∙ at));
      },
      λ is. c.in_ok-inside_keeps.ensures.1 (subst (λ xs. AreRegions c.args.self.features c.args.self.variables.now c.args.levels xs) (sym regions) is.regions),
    )

pub are_regions-loop-region-init : goal.are_regions-loop-region-init
are_regions-loop-region-init t c = grind (arith, common_steps) steps 2000000

pub is_state-returns-then-not-is_bare_if_final : goal.is_state-returns-then-not-is_bare_if_final
is_state-returns-then-not-is_bare_if_final t c = grind (arith, common_steps) steps 2000000

pub is_region-returns-then-not-are_distinct : goal.is_region-returns-then-not-are_distinct
is_region-returns-then-not-are_distinct t c = grind (arith, common_steps) steps 2000000

pub is_state-returns-then-not-is_within : goal.is_state-returns-then-not-is_within
is_state-returns-then-not-is_within t c = grind (arith, common_steps) steps 2000000

pub is_state-returns-then-not-takes_name : goal.is_state-returns-then-not-takes_name
is_state-returns-then-not-takes_name t c = grind (arith, common_steps) steps 2000000

pub is_region-returns-then-not-is_within : goal.is_region-returns-then-not-is_within
is_region-returns-then-not-is_within t c = grind (arith, common_steps) steps 2000000

pub is_region-returns-then-not-takes_name : goal.is_region-returns-then-not-takes_name
is_region-returns-then-not-takes_name t c = grind (arith, common_steps) steps 2000000

pub is_state-returns-then-join_count-gt1 : goal.is_state-returns-then-join_count-gt1
is_state-returns-then-join_count-gt1 t c = grind (arith, common_steps) steps 2000000

pub are_regions-returns-then-not-branch : goal.are_regions-returns-then-not-branch
are_regions-returns-then-not-branch t c = grind (arith, elements) steps 2000000

pub are_states-returns-then-not-branch : goal.are_states-returns-then-not-branch
are_states-returns-then-not-branch t c = grind (arith, elements) steps 2000000

pub are_regions-returns-then-not-are_distinct : goal.are_regions-returns-then-not-are_distinct
are_regions-returns-then-not-are_distinct t c = grind (arith, elements) steps 2000000

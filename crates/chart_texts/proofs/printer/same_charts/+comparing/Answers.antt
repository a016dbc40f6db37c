use Rattle.std.proofs.lemmas.Grind.{common_steps}
use Rattle.std.proofs.Common.{◌≡◌, ◌↔◌, rules, arith}
use Rattle.core_charts.specs.declared.region.Region.TheViews.{out-Region}
use Rattle.chart_texts.proofs.Same.{regions_same, states_same}
use Rattle.chart_texts.proofs.printer.same_charts.+comparing.Goals as goal

pub is_same_region-returns-then-eq : goal.is_same_region-returns-then-eq
is_same_region-returns-then-eq t c =
    let names : (out-Region c.args.one.now).name ≡ (out-Region c.args.other.now).name = search rules in
    regions_same _ _ _ names (rw (c.as_slice.ensures, c.as_slice-then-eq.ensures) at c.are_same_states.ensures)

pub is_same_state-returns-then-has_same_own : goal.is_same_state-returns-then-has_same_own
is_same_state-returns-then-has_same_own t c =
    states_same _ _ _ (c.has_same_own.ensures.0 c.if-has_same_own.true)
    (rw (c.as_slice.ensures, c.as_slice-then-has_same_own.ensures) at c.are_same_regions.ensures)

pub are_same_states-loop-i-preserved : goal.are_same_states-loop-i-preserved
are_same_states-loop-i-preserved t c = grind (arith, common_steps) steps 2000000

pub are_same_regions-returns : goal.are_same_regions-returns
are_same_regions-returns t c = grind (arith, common_steps) steps 2000000

pub are_same_states-returns-then-ones-others : goal.are_same_states-returns-then-ones-others
are_same_states-returns-then-ones-others t c = grind (arith, common_steps) steps 2000000

pub are_same_regions-returns-then-ones-others : goal.are_same_regions-returns-then-ones-others
are_same_regions-returns-then-ones-others t c = grind (arith, common_steps) steps 2000000

pub are_same_regions-returns-then-not-is_same_region : goal.are_same_regions-returns-then-not-is_same_region
are_same_regions-returns-then-not-is_same_region t c = grind (arith, common_steps) steps 2000000

pub are_same_regions-loop-i-preserved : goal.are_same_regions-loop-i-preserved
are_same_regions-loop-i-preserved t c = grind (arith, common_steps) steps 2000000

pub are_same_states-returns : goal.are_same_states-returns
are_same_states-returns t c = grind (arith, common_steps) steps 2000000

pub are_same_states-returns-then-not-is_same_state : goal.are_same_states-returns-then-not-is_same_state
are_same_states-returns-then-not-is_same_state t c = grind (arith, common_steps) steps 2000000

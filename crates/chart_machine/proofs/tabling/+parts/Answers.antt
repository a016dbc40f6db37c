use Rattle.std.proofs.Common.{arith}
use Rattle.std.proofs.lemmas.Grind.{common_steps}
use Rattle.chart_machine.proofs.RegionRows.{given_by_region, row_first}
use Rattle.chart_machine.proofs.tabling.+parts.Goals as goal

pub put_region-returns-clause-states : goal.put_region-returns-clause-states
put_region-returns-clause-states t c =
    rw (given_by_region c.args.region.now c.args.at.now c.in_ok-inside.inside c.as_slice-states.result.now c.in_ok-next.next c.as_slice-states.ensures
    c.in_ok-inside.ensures c.in_ok-next.ensures)
    c.in_ok-put_states.ensures.states

pub put_region-returns-clause-entered : goal.put_region-returns-clause-entered
put_region-returns-clause-entered t c =
    rw (given_by_region c.args.region.now c.args.at.now c.in_ok-inside.inside c.as_slice-states.result.now c.in_ok-next.next c.as_slice-states.ensures
    c.in_ok-inside.ensures c.in_ok-next.ensures)
    c.in_ok-put_states.ensures.entered

pub put_region-returns-clause-regions : goal.put_region-returns-clause-regions
put_region-returns-clause-regions t c =
    rw (given_by_region c.args.region.now c.args.at.now c.in_ok-inside.inside c.as_slice-states.result.now c.in_ok-next.next c.as_slice-states.ensures
    c.in_ok-inside.ensures c.in_ok-next.ensures)
    (row_first _ _ _ _ _ _ _ _ _ c.in_ok-put_region_row.ensures c.in_ok-put_states.ensures.regions c.new-others.ensures c.in_ok-put_states.ensures.others
    c.in_ok-append.ensures)

pub put_states-loop-state-preserved : goal.put_states-loop-state-preserved
put_states-loop-state-preserved t c = grind (arith, common_steps) steps 2000000

pub put_side_by_side-loop-region-preserved : goal.put_side_by_side-loop-region-preserved
put_side_by_side-loop-region-preserved t c = grind (arith, common_steps) steps 2000000

pub put_states-returns : goal.put_states-returns
put_states-returns t c = grind (arith, common_steps) steps 2000000

use Rattle.extended_reader.proofs.Looking.{region_is}
use Rattle.std.proofs.lemmas.Grind.{common_steps, elements}
use Rattle.std.proofs.Common.{rules, arith}
use Rattle.chart_reader.proofs.Inner.{states_few}
use Rattle.extended_reader.proofs.regions.+resolving.Goals as goal

pub put_regions-put_region-requires : goal.put_regions-put_region-requires
put_regions-put_region-requires t c = (
  search rules,
  (
    c.requires.few_variables,
    states_few c.args.levels c.args.texts.now _ c.text-item.result c.requires.narrow c.if-levels-eq0.false c.loop-text-test.true
        c.text-item.is,
  ),
)

pub put_region-put_states-requires : goal.put_region-put_states-requires
put_region-put_states-requires t c = grind (arith, common_steps) steps 2000000

pub put_regions-returns-clause-made : goal.put_regions-returns-clause-made
put_regions-returns-clause-made t c = grind (arith, common_steps) steps 2000000

pub fill_state-put_regions-requires : goal.fill_state-put_regions-requires
fill_state-put_regions-requires t c = grind (arith, common_steps) steps 2000000

pub put_regions-returns-clause-left : goal.put_regions-returns-clause-left
put_regions-returns-clause-left t c = grind (arith, common_steps) steps 2000000

pub put_states-returns-clause-made : goal.put_states-returns-clause-made
put_states-returns-clause-made t c = grind (arith, common_steps) steps 2000000

pub put_regions-returns-then-levels-eq0-clause-left : goal.put_regions-returns-then-levels-eq0-clause-left
put_regions-returns-then-levels-eq0-clause-left t c = grind (arith, common_steps) steps 2000000

pub put_own_states-loop-text-preserved : goal.put_own_states-loop-text-preserved
put_own_states-loop-text-preserved t c = grind (arith, common_steps) steps 2000000

pub put_own_states-returns-clause-left : goal.put_own_states-returns-clause-left
put_own_states-returns-clause-left t c = grind (arith, common_steps) steps 2000000

pub put_own_states-returns-clause-made : goal.put_own_states-returns-clause-made
put_own_states-returns-clause-made t c = grind (arith, common_steps) steps 2000000

pub put_regions-loop-text-preserved : goal.put_regions-loop-text-preserved
put_regions-loop-text-preserved t c = grind (arith, common_steps) steps 2000000

pub put_state-returns-in-Ok-clause-left : goal.put_state-returns-in-Ok-clause-left
put_state-returns-in-Ok-clause-left t c = grind (arith, common_steps) steps 2000000

pub put_state-fill_state-requires : goal.put_state-fill_state-requires
put_state-fill_state-requires t c = grind (arith, common_steps) steps 2000000

pub put_states-put_own_states-requires : goal.put_states-put_own_states-requires
put_states-put_own_states-requires t c = grind (arith, common_steps) steps 2000000

pub put_own_states-put_state-requires : goal.put_own_states-put_state-requires
put_own_states-put_state-requires t c = grind (arith, elements) steps 2000000

pub put_region-returns-in-Ok-clause-made : goal.put_region-returns-in-Ok-clause-made
put_region-returns-in-Ok-clause-made t c = search (rules, region_is)

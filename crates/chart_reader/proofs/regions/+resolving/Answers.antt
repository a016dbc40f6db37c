use Rattle.std.proofs.lemmas.Grind.{common_steps}
use Rattle.std.proofs.Common.{rules, arith}
use Rattle.sc_text.specs.Flaws.{variable_names}
use Rattle.chart_reader.proofs.Inner.{states_few, regions_narrow, none_put}
use Rattle.chart_reader.proofs.regions.+resolving.Goals as goal

pub put_regions-put_region-requires : goal.put_regions-put_region-requires
put_regions-put_region-requires t c = (
  search rules,
  (
    c.requires.few_variables,
    states_few c.args.levels c.args.texts.now _ c.text-item.result c.requires.narrow c.if-levels-eq0.false c.loop-text-test.true
        c.text-item.is,
  ),
)

pub put_own_states-put_state-requires : goal.put_own_states-put_state-requires
put_own_states-put_state-requires t c = (
  search rules,
  (c.requires.few_variables, regions_narrow c.args.levels c.args.texts.now _ c.text-item.result c.requires.few_states c.loop-text-test.true c.text-item.is),
)

pub put_regions-returns-then-levels-eq0 : goal.put_regions-returns-then-levels-eq0
put_regions-returns-then-levels-eq0 t c =
    none_put (variable_names c.args.scope.now.variables.now) c.args.levels c.args.texts.now _ c.requires.narrow c.if-levels-eq0.true

pub put_own_states-loop-text-preserved : goal.put_own_states-loop-text-preserved
put_own_states-loop-text-preserved t c = grind (arith, common_steps) steps 2000000

pub put_regions-loop-text-preserved : goal.put_regions-loop-text-preserved
put_regions-loop-text-preserved t c = grind (arith, common_steps) steps 2000000

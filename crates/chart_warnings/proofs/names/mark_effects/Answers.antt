use Rattle.std.proofs.lemmas.Grind.{common_steps}
use Rattle.std.proofs.Common.{arith}
use Rattle.std.specs.List.{flat_map}
use Rattle.chart_warnings.specs.Inside.Marks.{by_effect, marked}
use Rattle.chart_warnings.proofs.Marking.{listed_marked}
use Rattle.chart_warnings.proofs.names.mark_effects.Goals as goal

pub loop-effect-preserved : goal.loop-effect-preserved
loop-effect-preserved c =
    listed_marked (by_effect c.args.way) c.args.effects.now c.loop-effect.effect-index c.effect-item.result c.loop-effect.marks.items
    c.mark_effect.new.marks.items (marked (flat_map (by_effect c.args.way) c.args.effects.now) c.args.marks.now.items)
    c.loop-effect-test.true c.effect-item.is c.mark_effect.ensures c.loop-effect.invariant

pub returns : goal.returns
returns c = grind (arith, common_steps) steps 2000000

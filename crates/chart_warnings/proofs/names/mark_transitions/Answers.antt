use Rattle.std.proofs.lemmas.Grind.{common_steps}
use Rattle.std.proofs.Common.{arith}
use Rattle.chart_warnings.specs.Inside.Marks.{all_by, by_transition, marked}
use Rattle.chart_warnings.proofs.Marking.{listed_marked}
use Rattle.chart_warnings.proofs.names.mark_transitions.Goals as goal

pub loop-transition-preserved : goal.loop-transition-preserved
loop-transition-preserved c =
    listed_marked (by_transition c.args.way) c.args.transitions.now c.loop-transition.transition-index c.transition-item.result
    c.loop-transition.marks.items c.mark_transition.new.marks.items (marked (all_by c.args.way c.args.transitions.now) c.args.marks.now.items)
    c.loop-transition-test.true c.transition-item.is c.mark_transition.ensures c.loop-transition.invariant

pub returns : goal.returns
returns c = grind (arith, common_steps) steps 2000000

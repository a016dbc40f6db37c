use Rattle.std.proofs.lemmas.Grind.{common_steps}
use Rattle.std.proofs.Common.{List, Bool, ap, ◌∙◌, arith}
use Rattle.core_charts.specs.Tests.{at_once}
use Rattle.chart_warnings.specs.Inside.Marks.{all_by, marked}
use Rattle.chart_warnings.proofs.Marking.{immediate_marked, delayed_marked}
use Rattle.chart_warnings.proofs.inside.mark_immediate.Goals.{then-transition, else-transition}
use Rattle.chart_warnings.proofs.inside.mark_immediate.Goals as goal

pub loop-transition-preserved : goal.loop-transition-preserved
loop-transition-preserved c =
    let done : List Bool = marked (all_by c.args.way (at_once c.args.transitions.now)) c.args.marks.now.items in
    elim c.if-transition.branch [
      | then-transition w ↦
          immediate_marked c.args.way c.args.transitions.now c.loop-transition.transition-index c.transition-item.result
          c.loop-transition.marks.items c.if-transition.marks.items done c.loop-transition-test.true c.transition-item.is
          w.if-transition.true (ap (λ v. v.items) w.marks-is ∙ w.mark_transition.ensures) c.loop-transition.invariant
      | else-transition w ↦
          delayed_marked c.args.way c.args.transitions.now c.loop-transition.transition-index c.transition-item.result
          c.loop-transition.marks.items c.if-transition.marks.items done c.loop-transition-test.true c.transition-item.is
          w.if-transition.false (ap (λ v. v.items) w.marks-is) c.loop-transition.invariant
    ]

pub returns : goal.returns
returns c = grind (arith, common_steps) steps 2000000

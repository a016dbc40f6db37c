use Rattle.std.proofs.lemmas.Grind.{elements}
use Rattle.std.proofs.Common.{refl, arith}
use Rattle.core_charts.specs.Rules.{IsTransition}
use Rattle.sc_graph.proofs.Each.{each_more, each_of_all}
use Rattle.core_charts.proofs.rules.Frame.are_transitions.Goals as goal

pub loop-transition-preserved : goal.loop-transition-preserved
loop-transition-preserved c =
    each_more (IsTransition _ _ _ _) _ _ _ c.loop-transition-test.true c.transition-item.is c.loop-transition.invariant
    (c.is_transition.ensures.0 c.if-not-is_transition.false)

pub returns : goal.returns
returns c = (
  λ yes. each_of_all (IsTransition _ _ _ _) _ _ c.loop-transition-test.false c.loop-transition.invariant,
  λ all. refl,
)

pub returns-then-not-is_transition : goal.returns-then-not-is_transition
returns-then-not-is_transition c = grind (arith, elements) steps 2000000

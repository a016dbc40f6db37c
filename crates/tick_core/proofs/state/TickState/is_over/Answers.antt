use Rattle.std.proofs.Common.{sym, subst, eqb-true}
use Rattle.sc_values.specs.Runs.{IsOver}
use Rattle.sc_graph.specs.Machine.{machine}
use Rattle.tick_core.specs.State.{InTick}
use Rattle.tick_core.proofs.LeadingThreads.{over_is, answer_no}
use Rattle.tick_core.proofs.state.TickState.is_over.Goals as goal

pub returns-then-self-eq0 : goal.returns-then-self-eq0
returns-then-self-eq0 c =
    let it = over_is _ c.self.invariant.0 c.self.inside.rows c.self.invariant.4 c.self.inside.claimed c.self.inside.level c.self.invariant.5 in (
      λ yes_empty. subst (λ (s : InTick). IsOver (machine s.image.program) s.present) c.self.view_is
          (it.0 (c.if-self-eq0.true, c.is_empty.ensures.0 yes_empty)),
      λ over. c.is_empty.ensures.1 (it.1 (subst (λ (s : InTick). IsOver (machine s.image.program) s.present) (sym c.self.view_is) over)).1,
    )

pub returns-else-self-eq0 : goal.returns-else-self-eq0
returns-else-self-eq0 c =
    answer_no _ _ (λ yes. c.if-self-eq0.false (eqb-true c.self.inside.claimed 0 yes))
    (λ over. c.if-self-eq0.false
    ((over_is _ c.self.invariant.0 c.self.inside.rows c.self.invariant.4 c.self.inside.claimed c.self.inside.level c.self.invariant.5).1
    (subst (λ (s : InTick). IsOver (machine s.image.program) s.present) (sym c.self.view_is) over)).0)

use Rattle.std.proofs.Common.{subst, sym, ap, ◌∙◌}
use Rattle.sc_graph.specs.Tick.{IsConfiguration}
use Rattle.tick_core.specs.Stepping.{code_at}
use Rattle.tick_core.specs.Inside.Work.{HasFormedCode}
use Rattle.tick_core.proofs.StateKept.{configuration}
use Rattle.tick_core.proofs.Claiming.{has_formed, is_new_at}
use Rattle.tick_core.proofs.state.TickState.new_claim.Goals as goal

pub work_at-code-requires-clause-configuration : goal.work_at-code-requires-clause-configuration
work_at-code-requires-clause-configuration c =
    subst (λ p. IsConfiguration p c.self.inside.present) (sym (c.program-program.ensures ∙ ap (λ i. i.program) c.image.ensures.value))
    (configuration _ c.self.invariant.0)

pub work_at-code-requires-clause-formed : goal.work_at-code-requires-clause-formed
work_at-code-requires-clause-formed c =
    let holds = c.self.invariant.0 in
    subst (λ p. HasFormedCode p (code_at p c.status-status.result)) (sym (c.program-program.ensures ∙ ap (λ i. i.program) c.image.ensures.value))
    (has_formed _ _ holds.valid c.status-status.result)

pub returns : goal.returns
returns c =
    is_new_at _ _ _ _ _ _ _ _ _ _ _ c.self.view_is c.requires.worker c.requires.leads
    (c.program-program.ensures ∙ ap (λ i. i.program) c.image.ensures.value) c.status-status.ensures c.node_at.ensures c.work_at-code.ensures
    c.commits.ensures c.of.ensures

use Rattle.std.proofs.Common.{◌∙◌, ap, sym, ◌++◌, ◌∷◌, []}
use Rattle.sc_graph.specs.declared.control.Status.TheVariants.{Absent}
use Rattle.sc_graph.proofs.AtRest.{absent_more}
use Rattle.sc_graph.proofs.resting.absent_statuses.Goals as goal

pub loop-thread-preserved : goal.loop-thread-preserved
loop-thread-preserved c =
    c.in_ok-push.ensures.ok ∙ ap (λ before. before ++ Absent ∷ []) c.loop-thread.invariant
    ∙ sym (absent_more _ _ c.loop-thread-test.true)

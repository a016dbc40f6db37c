use Rattle.std.proofs.Common.{arith}
use Rattle.std.proofs.lemmas.Grind.{elements, common_steps}
use Rattle.tick_core.proofs.LeadingThreads.{run_begins, run_goes_on}
use Rattle.tick_core.proofs.state.TickState.run_past.Goals as goal

pub loop-next-init : goal.loop-next-init
loop-next-init g c = run_begins _ _ _ _ c.drop_claims.ensures c.leader-next.ensures

pub loop-next-preserved : goal.loop-next-preserved
loop-next-preserved g c = run_goes_on _ _ _ _ _ _ _ c.loop-next.invariant c.step_past-next.ensures.step c.step_past-next.ensures.next

pub returns-clause-over : goal.returns-clause-over
returns-clause-over g c = grind (arith, elements) steps 2000000

pub returns-clause-by : goal.returns-clause-by
returns-clause-by g c = grind (arith, elements) steps 2000000

pub loop-next-smaller : goal.loop-next-smaller
loop-next-smaller g c = grind (arith, common_steps) steps 2000000

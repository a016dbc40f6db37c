use Rattle.std.proofs.Common.{arith}
use Rattle.chart_reduction.proofs.Handed.{handed}
use Rattle.chart_reduction.proofs.values.registers.put_handing.Goals as goal

pub loop-preserved : goal.loop-preserved
loop-preserved c =
    handed c.args.befores.now c.loop.index c.loop.before c.loop.register _ _ _ _ _ _ (omega arith) c.loop.invariant
    c.in_ok-variable.ensures c.in_ok-variable-2.ensures c.copy.ensures c.in_ok-push.ensures.ok

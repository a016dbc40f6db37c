use Rattle.std.proofs.Common.{arith}
use Rattle.verifier.proofs.Everywhere.{weights_kept}
use Rattle.verifier.proofs.weights.weight_fault.Goals as goal

pub returns : goal.returns
returns c = weights_kept c.args.program.now c.args.tables.now (λ n h. c.loop-n.invariant n (omega (arith, h)))

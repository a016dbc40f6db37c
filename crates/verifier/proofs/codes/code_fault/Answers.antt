use Rattle.std.proofs.Common.{arith}
use Rattle.verifier.proofs.Everywhere.{codes_kept}
use Rattle.verifier.proofs.codes.code_fault.Goals as goal

pub returns : goal.returns
returns c = codes_kept c.args.program.now (λ n h. c.loop-n.invariant n (omega (arith, h)))

use Rattle.std.proofs.Common.{arith}
use Rattle.std.proofs.lemmas.Grind.{elements}
use Rattle.sc_values.proofs.stack.Stack.is_full.Goals as goal

pub returns-clause-full : goal.returns-clause-full
returns-clause-full g c = grind (arith, elements) steps 2000000

pub returns-clause-within : goal.returns-clause-within
returns-clause-within g c = grind (arith, elements) steps 2000000

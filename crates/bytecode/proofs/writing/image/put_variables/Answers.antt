use Rattle.std.proofs.lemmas.Grind.{common_steps, elements}
use Rattle.std.proofs.Common.{arith}
use Rattle.bytecode.proofs.writing.image.put_variables.Goals as goal

pub returns-clause-written : goal.returns-clause-written
returns-clause-written c = grind (arith, elements) steps 2000000

pub returns-clause-fits : goal.returns-clause-fits
returns-clause-fits c = grind (arith, elements) steps 2000000

pub loop-variable-preserved : goal.loop-variable-preserved
loop-variable-preserved c = grind (arith, common_steps) steps 2000000

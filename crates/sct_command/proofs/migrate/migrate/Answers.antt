use Rattle.std.proofs.lemmas.Grind.{elements}
use Rattle.std.proofs.Common.{arith}
use Rattle.sct_command.proofs.migrate.migrate.Goals as goal

pub returns-clause-refused : goal.returns-clause-refused
returns-clause-refused g c = grind (arith, elements) steps 2000000

pub returns-clause-done : goal.returns-clause-done
returns-clause-done g c = grind (arith, elements) steps 2000000

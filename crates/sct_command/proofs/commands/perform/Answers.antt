use Rattle.std.proofs.lemmas.Grind.{elements}
use Rattle.std.proofs.Common.{arith}
use Rattle.sct_command.proofs.commands.perform.Goals as goal

pub returns-in-RunBy-clause-files : goal.returns-in-RunBy-clause-files
returns-in-RunBy-clause-files g c = grind (arith, elements) steps 2000000

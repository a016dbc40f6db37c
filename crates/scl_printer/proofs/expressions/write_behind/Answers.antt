use Rattle.std.proofs.Common.{arith}
use Rattle.std.proofs.lemmas.Grind.{common_steps}
use Rattle.scl_printer.proofs.expressions.write_behind.Goals as goal

pub returns : goal.returns
returns g c = grind (arith, common_steps) steps 2000000

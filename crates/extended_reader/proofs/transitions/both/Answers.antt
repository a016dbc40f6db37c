use Rattle.std.proofs.lemmas.Grind.{common_steps}
use Rattle.std.proofs.Common.{arith}
use Rattle.extended_reader.proofs.transitions.both.Goals as goal

pub returns-in_ok-both-in-Ok : goal.returns-in_ok-both-in-Ok
returns-in_ok-both-in-Ok c = grind (arith, common_steps) steps 2000000

use Rattle.std.proofs.Common.{arith}
use Rattle.std.proofs.lemmas.Grind.{common_steps}
use Rattle.state_traces.proofs.session.tick.Goals as goal

pub returns-clause-room : goal.returns-clause-room
returns-clause-room c = grind (arith, common_steps) steps 2000000

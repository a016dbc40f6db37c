use Rattle.std.proofs.Common.{arith}
use Rattle.std.proofs.lemmas.Grind.{common_steps, elements}
use Rattle.trace_player.proofs.session.Session.begin.Goals as goal

pub tick-requires-clause-rests : goal.tick-requires-clause-rests
tick-requires-clause-rests g c = grind (arith, common_steps) steps 2000000

pub returns-clause-ticked : goal.returns-clause-ticked
returns-clause-ticked g c = grind (arith, common_steps) steps 2000000

pub tick-requires-clause-image : goal.tick-requires-clause-image
tick-requires-clause-image g c = grind (arith, elements) steps 2000000

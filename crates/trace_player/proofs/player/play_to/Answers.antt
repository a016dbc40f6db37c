use Rattle.std.proofs.lemmas.Grind.{common_steps}
use Rattle.std.proofs.Common.{arith}
use Rattle.trace_player.proofs.player.play_to.Goals as goal

pub returns-clause-whole : goal.returns-clause-whole
returns-clause-whole g c = grind (arith, common_steps) steps 2000000

pub returns-clause-published_before : goal.returns-clause-published_before
returns-clause-published_before g c = grind (arith, common_steps) steps 2000000

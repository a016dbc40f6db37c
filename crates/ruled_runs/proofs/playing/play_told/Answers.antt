use Rattle.std.proofs.lemmas.Grind.{elements}
use Rattle.std.proofs.Common.{arith}
use Rattle.ruled_runs.proofs.playing.play_told.Goals as goal

pub returns-clause-failed : goal.returns-clause-failed
returns-clause-failed g c = grind (arith, elements) steps 2000000

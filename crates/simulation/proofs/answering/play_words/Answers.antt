use Rattle.std.proofs.Common.{arith}
use Rattle.std.proofs.lemmas.Grind.{elements}
use Rattle.simulation.proofs.answering.play_words.Goals as goal

pub returns-clause-done : goal.returns-clause-done
returns-clause-done g c = grind (arith, elements) steps 2000000

pub returns-clause-untold : goal.returns-clause-untold
returns-clause-untold g c = grind (arith, elements) steps 2000000

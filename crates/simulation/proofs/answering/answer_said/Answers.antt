use Rattle.std.proofs.Common.{arith}
use Rattle.std.proofs.lemmas.Grind.{elements}
use Rattle.simulation.proofs.answering.answer_said.Goals as goal

pub returns-in_ok-undo-in-Undo-clause-done : goal.returns-in_ok-undo-in-Undo-clause-done
returns-in_ok-undo-in-Undo-clause-done g c = grind (arith, elements) steps 2000000

pub returns-in_ok-undo-in-Undo-clause-untold : goal.returns-in_ok-undo-in-Undo-clause-untold
returns-in_ok-undo-in-Undo-clause-untold g c = grind (arith, elements) steps 2000000

pub returns-in_ok-reset-in-Reset-clause-done : goal.returns-in_ok-reset-in-Reset-clause-done
returns-in_ok-reset-in-Reset-clause-done g c = grind (arith, elements) steps 2000000

pub returns-in_ok-reset-in-Reset-clause-untold : goal.returns-in_ok-reset-in-Reset-clause-untold
returns-in_ok-reset-in-Reset-clause-untold g c = grind (arith, elements) steps 2000000

pub returns-in_ok-lines_of-in-Ticks-clause-done : goal.returns-in_ok-lines_of-in-Ticks-clause-done
returns-in_ok-lines_of-in-Ticks-clause-done g c = grind (arith, elements) steps 2000000

pub returns-in_ok-lines_of-in-Ticks-clause-untold : goal.returns-in_ok-lines_of-in-Ticks-clause-untold
returns-in_ok-lines_of-in-Ticks-clause-untold g c = grind (arith, elements) steps 2000000

pub returns-in_ok-plain-in-Help-clause-done : goal.returns-in_ok-plain-in-Help-clause-done
returns-in_ok-plain-in-Help-clause-done g c = grind (arith, elements) steps 2000000

pub returns-in_ok-plain-in-Help-clause-untold : goal.returns-in_ok-plain-in-Help-clause-untold
returns-in_ok-plain-in-Help-clause-untold g c = grind (arith, elements) steps 2000000

pub returns-in_ok-play-in-Nothing-clause-done : goal.returns-in_ok-play-in-Nothing-clause-done
returns-in_ok-play-in-Nothing-clause-done g c = grind (arith, elements) steps 2000000

pub returns-in_ok-play-in-Nothing-clause-untold : goal.returns-in_ok-play-in-Nothing-clause-untold
returns-in_ok-play-in-Nothing-clause-untold g c = grind (arith, elements) steps 2000000

pub returns-in_ok-play-in-Object-clause-done : goal.returns-in_ok-play-in-Object-clause-done
returns-in_ok-play-in-Object-clause-done g c = grind (arith, elements) steps 2000000

pub returns-in_ok-play-in-Object-clause-untold : goal.returns-in_ok-play-in-Object-clause-untold
returns-in_ok-play-in-Object-clause-untold g c = grind (arith, elements) steps 2000000

pub returns-in_ok-play_words-in-Words-clause-done : goal.returns-in_ok-play_words-in-Words-clause-done
returns-in_ok-play_words-in-Words-clause-done g c = grind (arith, elements) steps 2000000

pub returns-in_ok-play_words-in-Words-clause-untold : goal.returns-in_ok-play_words-in-Words-clause-untold
returns-in_ok-play_words-in-Words-clause-untold g c = grind (arith, elements) steps 2000000

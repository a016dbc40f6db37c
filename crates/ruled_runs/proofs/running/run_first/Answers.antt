use Rattle.std.proofs.lemmas.Grind.{common_steps, elements}
use Rattle.std.proofs.Common.{arith}
use Rattle.ruled_runs.proofs.running.run_first.Goals as goal

pub returns-clause-none_missed : goal.returns-clause-none_missed
returns-clause-none_missed g c = grind (arith, common_steps) steps 2000000

pub returns-clause-missed : goal.returns-clause-missed
returns-clause-missed g c = grind (arith, common_steps) steps 2000000

pub play_and_keep-requires : goal.play_and_keep-requires
play_and_keep-requires g c = grind (arith, common_steps) steps 2000000

pub returns-clause-done : goal.returns-clause-done
returns-clause-done g c = grind (arith, elements) steps 2000000

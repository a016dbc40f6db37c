use Rattle.std.proofs.lemmas.Grind.{common_steps}
use Rattle.std.proofs.Common.{arith}
use Rattle.controller_tests.proofs.replay.play_line.Goals as goal

pub returns-in-Err-NotJson : goal.returns-in-Err-NotJson
returns-in-Err-NotJson c = grind (arith, common_steps) steps 2000000

use Rattle.std.proofs.lemmas.Grind.{elements}
use Rattle.std.proofs.Common.{arith, rules}
use Rattle.sct_command.proofs.source_image.image_told.Goals as goal

pub returns-in_ok-new-in-Ok-clause-spelt : goal.returns-in_ok-new-in-Ok-clause-spelt
returns-in_ok-new-in-Ok-clause-spelt c = grind (arith, elements) steps 2000000

pub returns-in-Err-clause-lacks : goal.returns-in-Err-clause-lacks
returns-in-Err-clause-lacks c = search rules

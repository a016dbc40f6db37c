use Rattle.std.proofs.Common.{arith}
use Rattle.std.proofs.lemmas.Grind.{common_steps}
use Rattle.sc_text.proofs.parts.is_reserved.Goals as goal

pub returns : goal.returns
returns c = grind (arith, common_steps) steps 2000000

use Rattle.std.proofs.Common.{arith}
use Rattle.std.proofs.lemmas.Grind.{common_steps, elements}
use Rattle.abort_expansion.proofs.regions.begins_anew.Goals as goal

pub returns-then-is_none : goal.returns-then-is_none
returns-then-is_none c = grind (arith, elements) steps 2000000

pub returns : goal.returns
returns c = grind (arith, common_steps) steps 2000000

use Rattle.std.proofs.Common.{arith}
use Rattle.std.proofs.lemmas.Grind.{elements}
use Rattle.tick_core.proofs.joins.Joins.joined.Goals as goal

pub returns-in-Fork : goal.returns-in-Fork
returns-in-Fork c = grind (arith, elements) steps 2000000

pub returns-in_default : goal.returns-in_default
returns-in_default c = grind (arith, elements) steps 2000000

pub returns-in_err-children : goal.returns-in_err-children
returns-in_err-children c = grind (arith, elements) steps 2000000

pub returns-in_err-fork : goal.returns-in_err-fork
returns-in_err-fork c = grind (arith, elements) steps 2000000

pub returns-in_err-get : goal.returns-in_err-get
returns-in_err-get c = grind (arith, elements) steps 2000000

use Rattle.std.proofs.lemmas.Grind.{elements}
use Rattle.std.proofs.Common.{arith}
use Rattle.chart_machine.proofs.table.Table.step.Goals as goal

pub returns-then-not-branch : goal.returns-then-not-branch
returns-then-not-branch c = grind (arith, elements) steps 2000000

pub returns-in_default : goal.returns-in_default
returns-in_default c = grind (arith, elements) steps 2000000

pub returns-in_ok-after-in-Some-2 : goal.returns-in_ok-after-in-Some-2
returns-in_ok-after-in-Some-2 c = grind (arith, elements) steps 2000000

pub returns-in-None : goal.returns-in-None
returns-in-None c = grind (arith, elements) steps 2000000

use Rattle.std.proofs.lemmas.Grind.{common_steps}
use Rattle.std.proofs.Common.{arith, rules}
use Rattle.chart_texts.proofs.sources.reduced_of.Goals as goal

pub returns-clause-fault : goal.returns-clause-fault
returns-clause-fault c = grind (arith, common_steps) steps 2000000

pub returns-in-Some-clause-text : goal.returns-in-Some-clause-text
returns-in-Some-clause-text c = search rules

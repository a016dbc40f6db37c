use Rattle.std.proofs.lemmas.Grind.{common_steps, elements}
use Rattle.std.proofs.Common.{arith}
use Rattle.extended_reader.proofs.modules.whole.module_place.Goals as goal

pub returns-then-follows-clause-place : goal.returns-then-follows-clause-place
returns-then-follows-clause-place c = grind (arith, elements) steps 2000000

pub returns-then-follows-clause-within : goal.returns-then-follows-clause-within
returns-then-follows-clause-within c = grind (arith, elements) steps 2000000

pub returns-in_default-clause-place : goal.returns-in_default-clause-place
returns-in_default-clause-place c = grind (arith, elements) steps 2000000

pub returns-in_default-clause-within : goal.returns-in_default-clause-within
returns-in_default-clause-within c = grind (arith, elements) steps 2000000

pub returns-in_default-2-clause-place : goal.returns-in_default-2-clause-place
returns-in_default-2-clause-place c = grind (arith, elements) steps 2000000

pub returns-in_default-2-clause-within : goal.returns-in_default-2-clause-within
returns-in_default-2-clause-within c = grind (arith, elements) steps 2000000

pub loop-at-preserved : goal.loop-at-preserved
loop-at-preserved c = grind (arith, elements) steps 2000000

pub returns-clause-within : goal.returns-clause-within
returns-clause-within c = grind (arith, elements) steps 2000000

pub returns-clause-place : goal.returns-clause-place
returns-clause-place c = grind (arith, common_steps) steps 2000000

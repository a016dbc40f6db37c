use Rattle.std.proofs.Common.{arith}
use Rattle.std.proofs.lemmas.Grind.{common_steps, elements}
use Rattle.tick_core.proofs.stepping.take_own_step.Goals as goal

pub returns-in-Assign-Some-clause-alone : goal.returns-in-Assign-Some-clause-alone
returns-in-Assign-Some-clause-alone c = grind (arith, elements) steps 2000000

pub returns-in-Update-Some-clause-alone : goal.returns-in-Update-Some-clause-alone
returns-in-Update-Some-clause-alone c = grind (arith, elements) steps 2000000

pub returns-after-holds-clause-stepped : goal.returns-after-holds-clause-stepped
returns-after-holds-clause-stepped c = grind (arith, elements) steps 2000000

pub returns-after-holds-clause-alone : goal.returns-after-holds-clause-alone
returns-after-holds-clause-alone c = grind (arith, elements) steps 2000000

pub returns-in-Surf-default-clause-stepped : goal.returns-in-Surf-default-clause-stepped
returns-in-Surf-default-clause-stepped c = grind (arith, elements) steps 2000000

pub returns-in-Surf-default-clause-alone : goal.returns-in-Surf-default-clause-alone
returns-in-Surf-default-clause-alone c = grind (arith, elements) steps 2000000

pub returns-in-Depth-default-clause-stepped : goal.returns-in-Depth-default-clause-stepped
returns-in-Depth-default-clause-stepped c = grind (arith, elements) steps 2000000

pub returns-in-Depth-default-clause-alone : goal.returns-in-Depth-default-clause-alone
returns-in-Depth-default-clause-alone c = grind (arith, elements) steps 2000000

pub returns-in-Assign-Some-clause-stepped : goal.returns-in-Assign-Some-clause-stepped
returns-in-Assign-Some-clause-stepped c = grind (arith, common_steps) steps 2000000

pub returns-in-Update-Some-clause-stepped : goal.returns-in-Update-Some-clause-stepped
returns-in-Update-Some-clause-stepped c = grind (arith, common_steps) steps 2000000

use Rattle.std.proofs.lemmas.Grind.{common_steps}
use Rattle.std.proofs.Common.{arith, rules}
use Rattle.sc_graph.proofs.same.steps.is_same_step.Goals as goal

pub returns-in-Surf-matches : goal.returns-in-Surf-matches
returns-in-Surf-matches c = grind (arith, common_steps) steps 2000000

pub returns-in_default-matches-9 : goal.returns-in_default-matches-9
returns-in_default-matches-9 c = grind (arith, common_steps) steps 2000000

pub returns-in_default-matches-6 : goal.returns-in_default-matches-6
returns-in_default-matches-6 c = grind (arith, common_steps) steps 2000000

pub returns-in-Depth-matches : goal.returns-in-Depth-matches
returns-in-Depth-matches c = grind (arith, common_steps) steps 2000000

pub returns-in_default-matches : goal.returns-in_default-matches
returns-in_default-matches c = grind (arith, common_steps) steps 2000000

pub returns-in_default-matches-4 : goal.returns-in_default-matches-4
returns-in_default-matches-4 c = grind (arith, common_steps) steps 2000000

pub returns-in_default-matches-2 : goal.returns-in_default-matches-2
returns-in_default-matches-2 c = grind (arith, common_steps) steps 2000000

pub returns-in_default-3 : goal.returns-in_default-3
returns-in_default-3 c = grind (arith, common_steps) steps 2000000

pub returns-in_default-matches-10 : goal.returns-in_default-matches-10
returns-in_default-matches-10 c = grind (arith, common_steps) steps 2000000

pub returns-in-Update-matches : goal.returns-in-Update-matches
returns-in-Update-matches c = grind (arith, common_steps) steps 2000000

pub returns-in_default-matches-2-2 : goal.returns-in_default-matches-2-2
returns-in_default-matches-2-2 c = grind (arith, common_steps) steps 2000000

pub returns-in_default-matches-3 : goal.returns-in_default-matches-3
returns-in_default-matches-3 c = grind (arith, common_steps) steps 2000000

pub returns-in_default-matches-11 : goal.returns-in_default-matches-11
returns-in_default-matches-11 c = grind (arith, common_steps) steps 2000000

pub returns-in_default-4 : goal.returns-in_default-4
returns-in_default-4 c = grind (arith, common_steps) steps 2000000

pub returns-in_default-2 : goal.returns-in_default-2
returns-in_default-2 c = grind (arith, common_steps) steps 2000000

pub returns-in_default-matches-5 : goal.returns-in_default-matches-5
returns-in_default-matches-5 c = grind (arith, common_steps) steps 2000000

pub returns-in-Cond-matches : goal.returns-in-Cond-matches
returns-in-Cond-matches c = grind (arith, common_steps) steps 2000000

pub returns-in-Assign-matches : goal.returns-in-Assign-matches
returns-in-Assign-matches c = grind (arith, common_steps) steps 2000000

pub returns-in-Join-matches : goal.returns-in-Join-matches
returns-in-Join-matches c = grind (arith, common_steps) steps 2000000

pub returns-in_default : goal.returns-in_default
returns-in_default c = grind (arith, common_steps) steps 2000000

pub returns-in_default-matches-2-4 : goal.returns-in_default-matches-2-4
returns-in_default-matches-2-4 c = grind (arith, common_steps) steps 2000000

pub returns-in_default-matches-8 : goal.returns-in_default-matches-8
returns-in_default-matches-8 c = grind (arith, common_steps) steps 2000000

pub returns-in_default-matches-3-2 : goal.returns-in_default-matches-3-2
returns-in_default-matches-3-2 c = search rules

pub returns-in-Fork-matches : goal.returns-in-Fork-matches
returns-in-Fork-matches c = search rules

use Rattle.scl_graph.proofs.Tallied.{branch_part}
use Rattle.std.proofs.lemmas.Grind.{common_steps}
use Rattle.std.proofs.Common.{arith, rules}
use Rattle.scl_graph.proofs.laying.children_of.Goals as goal

pub known_counts-requires-clause-tallied : goal.known_counts-requires-clause-tallied
known_counts-requires-clause-tallied c = search (rules, branch_part)

pub known_counts-requires-clause-small : goal.known_counts-requires-clause-small
known_counts-requires-clause-small c = grind (arith, common_steps) steps 2000000

pub overflow_add-thread : goal.overflow_add-thread
overflow_add-thread c = grind (arith, common_steps) steps 2000000

pub overflow_add-thread-in-loop-place : goal.overflow_add-thread-in-loop-place
overflow_add-thread-in-loop-place c = grind (arith, common_steps) steps 2000000

pub loop-place-preserved : goal.loop-place-preserved
loop-place-preserved c = grind (arith, common_steps) steps 2000000

pub returns : goal.returns
returns c = grind (arith, common_steps) steps 2000000

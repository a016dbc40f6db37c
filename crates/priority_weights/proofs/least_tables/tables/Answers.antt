use Rattle.std.proofs.Common.{arith}
use Rattle.std.proofs.lemmas.Grind.{common_steps}
use Rattle.priority_weights.proofs.Ticking.{no_instant_loop}
use Rattle.priority_weights.proofs.least_tables.tables.Goals as goal

pub tables_in_order-requires-clause-no_loop : goal.tables_in_order-requires-clause-no_loop
tables_in_order-requires-clause-no_loop c = λ walk.
    let fallen = rw c.in-Table.is at c.in_ok-walk.ensures.in_tick in
    no_instant_loop c.args.program.now c.in-Table._ranks.items fallen.0 walk

pub tables_in_order-requires-clause-ranks : goal.tables_in_order-requires-clause-ranks
tables_in_order-requires-clause-ranks c = grind (arith, common_steps) steps 2000000

pub returns-in-Cycle-clause-instant_loop : goal.returns-in-Cycle-clause-instant_loop
returns-in-Cycle-clause-instant_loop c = grind (arith, common_steps) steps 2000000

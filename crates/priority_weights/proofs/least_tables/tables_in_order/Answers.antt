use Rattle.priority_weights.proofs.Ticking.{no_order_cycle}
use Rattle.priority_weights.proofs.least_tables.tables_in_order.Goals as goal

pub returns-in-Cycle-clause-no_loop : goal.returns-in-Cycle-clause-no_loop
returns-in-Cycle-clause-no_loop c = λ walk other e. c.requires.no_loop other

pub returns-in_ok-weighed-in-Table-clause-no_walk : goal.returns-in_ok-weighed-in-Table-clause-no_walk
returns-in_ok-weighed-in-Table-clause-no_walk c =
    let ordered = rw c.in-Table.is at c.in_ok-walk.ensures in
    record {
      no_loop = c.requires.no_loop;
      no_cycle = λ walk. no_order_cycle c.args.program.now c.in-Table.priorities.items ordered.0 walk;
    }

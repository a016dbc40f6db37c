use Rattle.tick_core.specs.Space.Joins.{FindsBelow}
use Rattle.tick_core.proofs.joins.Joins.of.Given as goal

abbrev pub invariant-loop-node : goal.invariant-loop-node
invariant-loop-node l = FindsBelow l.program l.forks.items l.node

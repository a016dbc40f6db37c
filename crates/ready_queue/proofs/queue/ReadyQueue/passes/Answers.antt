use Rattle.ready_queue.proofs.RuleKept.{forks}
use Rattle.ready_queue.proofs.queue.ReadyQueue.passes.Goals as goal

pub another-requires-clause-rule : goal.another-requires-clause-rule
another-requires-clause-rule c = forks _ _

use Rattle.ready_queue.proofs.RuleKept.{puts, learns}
use Rattle.ready_queue.proofs.queue.ReadyQueue.put.Goals as goal

pub push_as-requires-clause-rule : goal.push_as-requires-clause-rule
push_as-requires-clause-rule g c = (puts _ _ _ _, learns _ _)

use Rattle.ready_queue.proofs.RuleKept.{takes, learns}
use Rattle.ready_queue.proofs.queue.ReadyQueue.take.Goals as goal

pub pop_as-requires-clause-rule : goal.pop_as-requires-clause-rule
pop_as-requires-clause-rule g c = (takes _ _, learns _ _)

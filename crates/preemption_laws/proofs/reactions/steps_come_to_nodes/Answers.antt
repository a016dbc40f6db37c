use Rattle.preemption_laws.proofs.ReactionProved.{steps_come_to_nodes}
use Rattle.preemption_laws.proofs.reactions.steps_come_to_nodes.Goals as goal

pub returns : goal.returns
returns c = steps_come_to_nodes

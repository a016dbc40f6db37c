use Rattle.preemption_laws.proofs.ReactionProved.{priorities_order_steps}
use Rattle.preemption_laws.proofs.reactions.priorities_order_steps.Goals as goal

pub returns : goal.returns
returns c = priorities_order_steps

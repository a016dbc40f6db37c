use Rattle.preemption_laws.proofs.ReactionProved.{ticks_end}
use Rattle.preemption_laws.proofs.reactions.ticks_end.Goals as goal

pub returns : goal.returns
returns c = ticks_end

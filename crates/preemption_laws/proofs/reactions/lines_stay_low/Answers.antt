use Rattle.preemption_laws.proofs.ReactionProved.{lines_stay_low}
use Rattle.preemption_laws.proofs.reactions.lines_stay_low.Goals as goal

pub returns : goal.returns
returns c = lines_stay_low

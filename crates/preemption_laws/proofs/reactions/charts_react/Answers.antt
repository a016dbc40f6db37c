use Rattle.preemption_laws.proofs.ReactionProved.{charts_react}
use Rattle.preemption_laws.proofs.reactions.charts_react.Goals as goal

pub returns : goal.returns
returns c = charts_react

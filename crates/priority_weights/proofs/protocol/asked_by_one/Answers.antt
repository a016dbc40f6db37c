use Rattle.std.proofs.Common.{rules}
use Rattle.priority_weights.proofs.protocol.asked_by_one.Goals as goal

pub returns : goal.returns
returns c = search rules

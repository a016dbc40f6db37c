use Rattle.std.proofs.Common.{arith}
use Rattle.tick_core.proofs.state.TickSpace.park.Goals as goal

pub returns : goal.returns
returns c = grind arith steps 2000000

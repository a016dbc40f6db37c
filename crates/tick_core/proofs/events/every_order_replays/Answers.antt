use Rattle.tick_core.proofs.EveryOrder.{every_order_replays}
use Rattle.tick_core.proofs.events.every_order_replays.Goals as goal

pub returns : goal.returns
returns c = every_order_replays

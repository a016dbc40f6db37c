use Rattle.tick_core.proofs.EveryOrder.{all_ticks_end_alike}
use Rattle.tick_core.proofs.events.all_ticks_end_alike.Goals as goal

pub returns : goal.returns
returns c = all_ticks_end_alike

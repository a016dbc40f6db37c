use Rattle.tick_laws.proofs.WithinTick.{laws_within_tick}
use Rattle.tick_laws.proofs.within_tick.Goals as goal

pub returns : goal.returns
returns c = laws_within_tick

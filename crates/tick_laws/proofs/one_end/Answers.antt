use Rattle.tick_laws.proofs.Final.{one_end_of_tick}
use Rattle.tick_laws.proofs.one_end.Goals as goal

pub returns : goal.returns
returns c = one_end_of_tick

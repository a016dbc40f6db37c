use Rattle.std.proofs.lemmas.Grind.{elements}
use Rattle.std.proofs.Common.{arith}
use Rattle.tick_core.proofs.state.TickState.give_back.Goals as goal

pub close-requires : goal.close-requires
close-requires c = grind (arith, elements) steps 2000000

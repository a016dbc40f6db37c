use Rattle.std.proofs.Common.{arith}
use Rattle.std.proofs.lemmas.Grind.{elements}
use Rattle.chart_lowering.proofs.states.simple_state.Goals as goal

pub returns : goal.returns
returns c = grind (arith, elements) steps 2000000

use Rattle.std.proofs.lemmas.Grind.{elements}
use Rattle.std.proofs.Common.{arith}
use Rattle.tick_core.proofs.listed.Listed.make_whole.Goals as goal

pub returns-then-not-self-clause-covers : goal.returns-then-not-self-clause-covers
returns-then-not-self-clause-covers c = grind (arith, elements) steps 2000000

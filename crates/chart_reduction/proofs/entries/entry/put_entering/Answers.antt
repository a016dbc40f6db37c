use Rattle.std.proofs.Common.{arith}
use Rattle.std.proofs.lemmas.Grind.{common_steps}
use Rattle.chart_reduction.proofs.entries.entry.put_entering.Goals as goal

pub returns-in-Ok : goal.returns-in-Ok
returns-in-Ok c = grind (arith, common_steps) steps 2000000

pub returns-then-not-has_some : goal.returns-then-not-has_some
returns-then-not-has_some c = grind (arith, common_steps) steps 2000000

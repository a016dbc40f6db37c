use Rattle.std.proofs.lemmas.Grind.{common_steps}
use Rattle.std.proofs.Common.{arith}
use Rattle.chart_texts.proofs.printer.same_rows.TransitionSame.is_same.Goals as goal

pub returns-then-are_same_rows : goal.returns-then-are_same_rows
returns-then-are_same_rows c = grind (arith, common_steps) steps 2000000

use Rattle.std.proofs.lemmas.Grind.{common_steps}
use Rattle.std.proofs.Common.{arith}
use Rattle.chart_warnings.proofs.texts.report.of_four_lines.Goals as goal

pub returns-else-are_lines : goal.returns-else-are_lines
returns-else-are_lines c = grind (arith, common_steps) steps 2000000

use Rattle.std.proofs.Common.{arith}
use Rattle.std.proofs.lemmas.Grind.{common_steps, elements}
use Rattle.chart_texts.proofs.printer.same_rows.are_same_rows.Goals as goal

pub returns-then-ones-others : goal.returns-then-ones-others
returns-then-ones-others g c = grind (arith, elements) steps 2000000

pub returns-then-not-is_same : goal.returns-then-not-is_same
returns-then-not-is_same g c = grind (arith, elements) steps 2000000

pub returns : goal.returns
returns g c = grind (arith, elements) steps 2000000

pub loop-i-preserved : goal.loop-i-preserved
loop-i-preserved g c = grind (arith, common_steps) steps 2000000

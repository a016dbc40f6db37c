use Rattle.std.proofs.Common.{rules}
use Rattle.compiled_charts.proofs.compiling.compile_chart.Goals as goal

pub returns-in-Ok-clause-compiled : goal.returns-in-Ok-clause-compiled
returns-in-Ok-clause-compiled c = search rules

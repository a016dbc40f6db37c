use Rattle.compiled_charts.proofs.Marks.{none_more}
use Rattle.std.proofs.Common.{rules}
use Rattle.compiled_charts.proofs.marking.unmarked.Goals as goal

pub loop-state-preserved : goal.loop-state-preserved
loop-state-preserved c = search (rules, none_more)

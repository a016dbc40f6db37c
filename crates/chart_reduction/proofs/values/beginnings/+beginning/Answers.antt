use Rattle.std.proofs.Common.{arith}
use Rattle.std.proofs.lemmas.Grind.{common_steps}
use Rattle.chart_reduction.proofs.values.beginnings.+beginning.Goals as goal

pub some_at_once-returns : goal.some_at_once-returns
some_at_once-returns t c = grind (arith, common_steps) steps 2000000

pub some_at_once-returns-then-begins_so : goal.some_at_once-returns-then-begins_so
some_at_once-returns-then-begins_so t c = grind (arith, common_steps) steps 2000000

pub all_at_once-loop-region-preserved : goal.all_at_once-loop-region-preserved
all_at_once-loop-region-preserved t c = grind (arith, common_steps) steps 2000000

pub all_at_once-returns : goal.all_at_once-returns
all_at_once-returns t c = grind (arith, common_steps) steps 2000000

pub some_at_once-loop-state-preserved : goal.some_at_once-loop-state-preserved
some_at_once-loop-state-preserved t c = grind (arith, common_steps) steps 2000000

pub all_at_once-returns-then-not-ends_at_once : goal.all_at_once-returns-then-not-ends_at_once
all_at_once-returns-then-not-ends_at_once t c = grind (arith, common_steps) steps 2000000

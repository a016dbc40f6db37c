use Rattle.std.proofs.Common.{◌≡◌, ◌++◌, drop}
use Rattle.chart_reduction.specs.Histories.{recalled_by}
use Rattle.chart_reduction.proofs.entries.recalls.put_recalled_by.Given as goal

abbrev pub invariant-loop-transition : goal.invariant-loop-transition
invariant-loop-transition l =
    l.made ++ recalled_by l.count (drop l.transition-index l.transitions) ≡ l.fn.made ++ recalled_by l.count l.transitions

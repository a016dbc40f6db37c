use Rattle.std.proofs.Common.{◌≡◌, ◌++◌, drop}
use Rattle.core_charts.specs.declared.region.Region.TheViews.{out-State}
use Rattle.chart_warnings.specs.Warnings.{of_regions}
use Rattle.chart_warnings.proofs.transitions.StateContext.warn_of_regions.Given as goal

abbrev pub invariant-loop-number : goal.invariant-loop-number
invariant-loop-number l =
    l.warnings ++ of_regions l.self.number l.place l.number (drop l.number (out-State l.self.state.now).regions) ≡
    l.fn.warnings ++ of_regions l.self.number l.place 0 (out-State l.self.state.now).regions

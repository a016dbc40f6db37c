use Rattle.std.proofs.Common.{◌≡◌, ◌++◌, drop}
use Rattle.core_charts.specs.declared.region.Region.TheViews.{out-State}
use Rattle.chart_warnings.specs.Names.{within}
use Rattle.chart_warnings.specs.Warnings.{comes_with, of_outputs}
use Rattle.chart_warnings.proofs.transitions.StateContext.warn_of_outputs.Given as goal

abbrev pub invariant-loop-number : goal.invariant-loop-number
invariant-loop-number l =
    l.warnings ++ of_outputs (within (out-State l.self.state.now).regions) (comes_with l.self.states.now l.transition)
    l.self.number l.place l.number (drop l.number l.self.variables.now) ≡
    l.fn.warnings ++ of_outputs (within (out-State l.self.state.now).regions) (comes_with l.self.states.now l.transition)
    l.self.number l.place 0 l.self.variables.now

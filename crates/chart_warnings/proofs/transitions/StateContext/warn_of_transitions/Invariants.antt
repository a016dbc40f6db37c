use Rattle.std.proofs.Common.{◌≡◌, ◌++◌, drop}
use Rattle.core_charts.specs.declared.region.Region.TheViews.{out-State}
use Rattle.chart_warnings.specs.Warnings.{of_transitions}
use Rattle.chart_warnings.proofs.transitions.StateContext.warn_of_transitions.Given as goal

abbrev pub invariant-loop-place : goal.invariant-loop-place
invariant-loop-place l =
    let s = l.self.state.now in
    l.warnings ++ of_transitions l.self.variables.now l.self.states.now l.self.number l.place s (drop l.place (out-State s).transitions) ≡
    l.fn.warnings ++ of_transitions l.self.variables.now l.self.states.now l.self.number 0 s (out-State s).transitions

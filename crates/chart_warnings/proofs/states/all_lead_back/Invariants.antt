use Rattle.std.proofs.Common.{◌≡◌, drop}
use Rattle.chart_warnings.specs.Warnings.{is_none, targets_besides}
use Rattle.chart_warnings.proofs.states.all_lead_back.Given as goal

abbrev pub invariant-loop-transition : goal.invariant-loop-transition
invariant-loop-transition l =
    is_none (targets_besides l.place (drop l.transition-index l.transitions)) ≡ is_none (targets_besides l.place l.transitions)

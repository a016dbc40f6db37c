use Rattle.std.proofs.Common.{◌≡◌, drop}
use Rattle.chart_warnings.specs.Warnings.{is_forestalled}
use Rattle.chart_warnings.proofs.forestalling.is_forestalled.Given as goal

abbrev pub invariant-loop-other : goal.invariant-loop-other
invariant-loop-other l =
    is_forestalled l.other (drop l.other l.transitions) l.place l.transition ≡ is_forestalled 0 l.transitions l.place l.transition

use Rattle.std.proofs.Common.{◌≡◌, ◌++◌, Some, drop}
use Rattle.abort_expansion.specs.Transitions.{raising}
use Rattle.abort_expansion.specs.Inside.Sorts.{aborts_of, is_told_at_once}
use Rattle.abort_expansion.proofs.checks.put_raising.Given as goal

abbrev pub invariant-loop-transition : goal.invariant-loop-transition
invariant-loop-transition l =
    l.made ++ raising (is_told_at_once l.sort) l.left (Some l.variable) l.number (aborts_of l.sort (drop l.transition-index l.own)) ≡
    l.fn.made ++ raising (is_told_at_once l.sort) l.left (Some l.variable) 1 (aborts_of l.sort l.own)

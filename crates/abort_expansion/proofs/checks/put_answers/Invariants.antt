use Rattle.std.proofs.Common.{◌≡◌, ◌++◌, Some, drop}
use Rattle.abort_expansion.specs.Transitions.{answers}
use Rattle.abort_expansion.specs.Inside.Sorts.{aborts_of}
use Rattle.abort_expansion.proofs.checks.put_answers.Given as goal

abbrev pub invariant-loop-transition : goal.invariant-loop-transition
invariant-loop-transition l =
    l.made ++ answers l.at (Some l.variable) l.number (aborts_of l.sort (drop l.transition-index l.own)) ≡
    l.fn.made ++ answers l.at (Some l.variable) 1 (aborts_of l.sort l.own)

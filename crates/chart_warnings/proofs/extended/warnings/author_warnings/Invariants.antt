use Rattle.std.proofs.Common.{◌≡◌, ◌++◌, drop}
use Rattle.chart_warnings.specs.Author.{author_warnings}
use Rattle.chart_warnings.proofs.extended.warnings.author_warnings.Given as goal

abbrev pub invariant-loop-warning : goal.invariant-loop-warning
invariant-loop-warning l =
    l.all ++ author_warnings l.states l.places (drop l.warning-index l.warnings) ≡ author_warnings l.states l.places l.warnings

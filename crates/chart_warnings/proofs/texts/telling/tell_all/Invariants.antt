use Rattle.std.proofs.Common.{drop, string_bytes}
use Rattle.chart_warnings.specs.Reports.{heads_of}
use Rattle.chart_warnings.proofs.Joining.{Goes}
use Rattle.chart_warnings.proofs.texts.telling.tell_all.Given as goal

abbrev pub invariant-loop-warning : goal.invariant-loop-warning
invariant-loop-warning l =
    Goes l.warned.name.now (heads_of l.warned.text.now l.warned.places.now (drop l.warning-index l.warnings))
    (heads_of l.warned.text.now l.warned.places.now l.warnings) (string_bytes l.told)

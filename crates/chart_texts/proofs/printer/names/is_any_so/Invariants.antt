use Rattle.std.proofs.Common.{◌≡◌, drop}
use Rattle.std.specs.List.{list_any}
use Rattle.chart_texts.specs.Renaming.{begins_with}
use Rattle.chart_texts.proofs.printer.names.is_any_so.Given as goal

abbrev pub invariant-loop-name : goal.invariant-loop-name
invariant-loop-name l =
    list_any (begins_with l.start) (drop l.name-index l.names) ≡ list_any (begins_with l.start) l.names

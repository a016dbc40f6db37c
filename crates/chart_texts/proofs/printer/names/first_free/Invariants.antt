use Rattle.std.proofs.Common.{◌≡◌, drop}
use Rattle.chart_texts.specs.Renaming.{free_from}
use Rattle.chart_texts.proofs.printer.names.first_free.Given as goal

abbrev pub invariant-loop-number : goal.invariant-loop-number
invariant-loop-number l = free_from l.names (drop l.number l.names) l.number ≡ free_from l.names l.names 0

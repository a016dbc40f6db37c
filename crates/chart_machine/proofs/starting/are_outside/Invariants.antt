use Rattle.std.proofs.Common.{◌≡◌, drop}
use Rattle.std.specs.List.{list_all}
use Rattle.chart_machine.specs.Machine.{is_outside}
use Rattle.chart_machine.proofs.starting.are_outside.Given as goal

abbrev pub invariant-loop-standing : goal.invariant-loop-standing
invariant-loop-standing l = list_all is_outside (drop l.standing-index l.regions) ≡ list_all is_outside l.regions

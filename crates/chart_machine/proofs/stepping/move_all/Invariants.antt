use Rattle.std.proofs.Common.{◌≡◌, drop}
use Rattle.chart_machine.specs.Steps.{moved}
use Rattle.chart_machine.proofs.stepping.move_all.Given as goal

abbrev pub invariant-loop-one : goal.invariant-loop-one
invariant-loop-one l = moved (drop l.one-index l.moves) l.regions ≡ moved l.moves l.initial.regions

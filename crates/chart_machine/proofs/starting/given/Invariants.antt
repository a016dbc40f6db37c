use Rattle.std.proofs.Common.{◌≡◌, drop}
use Rattle.sc_graph.specs.Tick.{given}
use Rattle.chart_machine.proofs.starting.given.Given as goal

abbrev pub invariant-loop-input : goal.invariant-loop-input
invariant-loop-input l = given (drop l.input-index l.inputs) l.name ≡ given l.inputs l.name

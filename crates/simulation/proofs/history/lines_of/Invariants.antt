use Rattle.std.proofs.Common.{◌≡◌, ◌++◌, drop}
use Rattle.simulation.specs.History.{lines_text}
use Rattle.simulation.proofs.history.lines_of.Given as goal

abbrev pub invariant-loop-tick : goal.invariant-loop-tick
invariant-loop-tick l = l.text.items ++ lines_text (drop l.tick-index l.ticks) ≡ lines_text l.ticks

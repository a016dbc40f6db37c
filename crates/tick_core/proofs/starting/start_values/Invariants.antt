use Rattle.std.proofs.Common.{◌≡◌, length}
use Rattle.sc_graph.specs.Tick.{Inputs, values_at_start}
use Rattle.tick_core.specs.Space.Given.{Gives}
use Rattle.tick_core.proofs.Starts.{values_from}
use Rattle.tick_core.proofs.starting.start_values.Given as goal

abbrev pub invariant-loop-x : goal.invariant-loop-x
invariant-loop-x l = record {
  long : length l.values ≡ length l.variables;
  started : (inputs : Inputs) → Gives l.variables inputs l.given → values_from inputs l.variables l.values l.x
      ≡ values_at_start inputs l.variables l.initial.values;
}

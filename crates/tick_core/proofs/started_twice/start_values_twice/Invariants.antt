use Rattle.std.proofs.Common.{◌≡◌, length, take}
use Rattle.sc_graph.specs.Tick.{Inputs, values_at_start}
use Rattle.tick_core.specs.Space.Given.{Gives}
use Rattle.tick_core.proofs.Starts.{values_from}
use Rattle.tick_core.proofs.started_twice.start_values_twice.Given as goal

abbrev pub invariant-loop-x : goal.invariant-loop-x
invariant-loop-x l = record {
  long : length l.values ≡ length l.variables;
  started : (inputs : Inputs) → Gives l.variables inputs l.given → values_from inputs l.variables l.values l.x
      ≡ values_at_start inputs l.variables l.initial.values;
  others : length l.others ≡ length l.variables;
  same : take l.x l.others ≡ take l.x l.values;
}

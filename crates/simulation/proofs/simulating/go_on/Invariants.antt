use Rattle.std.proofs.Common.{◌≡◌, ◌-◌}
use Rattle.sc_values.specs.Streams.{StaysOpen}
use Rattle.trace_lines.specs.Lines.{ahead}
use Rattle.simulation.proofs.Turns.{HasLed}
use Rattle.simulation.proofs.simulating.go_on.Given as goal

abbrev pub invariant-loop-turn : goal.invariant-loop-turn
invariant-loop-turn g l = record {
  led : HasLed l.fn.session l.session (ahead l.fn.lines (g.S.Source.to_come l.fn.source)) (ahead l.lines (g.S.Source.to_come l.source)) l.number
      (g.K.Sink.taken l.fn.sink) (g.K.Sink.taken l.sink);
  none_read : g.S.Source.failures l.source ≡ g.S.Source.failures l.fn.source;
  none_write : g.K.Sink.failures l.sink ≡ g.K.Sink.failures l.fn.sink;
  going : StaysOpen (g.S.Source.progress l.fn.source) (g.S.Source.progress l.source);
}

abbrev pub decreases-loop-turn : goal.decreases-loop-turn
decreases-loop-turn g l = 340282366920938463463374607431768211455 - l._turn

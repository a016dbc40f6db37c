use Rattle.std.proofs.Common.{◌-◌, length}
use Rattle.sc_values.proofs.Writing.{Wrote}
use Rattle.sc_values.proofs.streams.write_all.Given as goal

abbrev pub invariant-loop-from : goal.invariant-loop-from
invariant-loop-from g l = Wrote (g.S.Sink.taken l.initial.sink) (g.S.Sink.taken l.sink) (g.S.Sink.failures l.initial.sink) (g.S.Sink.failures l.sink) l.bytes
    l.from

abbrev pub decreases-loop-from : goal.decreases-loop-from
decreases-loop-from g l = length l.bytes - l.from

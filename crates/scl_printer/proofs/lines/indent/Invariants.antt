use Rattle.scl_printer.specs.Layout.{indentation}
use Rattle.scl_printer.specs.Inside.Writing.{Writes, page}
use Rattle.scl_printer.proofs.lines.indent.Given as goal

abbrev pub invariant-loop : goal.invariant-loop
invariant-loop g l = Writes (page (g.W.Sink.taken l.initial.sink) (g.W.Sink.failures l.initial.sink) l.initial.buffered)
    (page (g.W.Sink.taken l.sink) (g.W.Sink.failures l.sink) l.buffered) (indentation l.counter)

use Rattle.std.proofs.Common.{drop}
use Rattle.scl_printer.specs.Layout.{declarations_text}
use Rattle.scl_printer.specs.Inside.Writing.{Page, Writes, page}
use Rattle.scl_printer.proofs.program.write_declarations.Given as goal

abbrev pub invariant-loop-variable : goal.invariant-loop-variable
invariant-loop-variable g l = (new : Page) → Writes (page (g.W.Sink.taken l.sink) (g.W.Sink.failures l.sink) l.buffered) new
    (declarations_text (drop l.variable-index l.variables))
    → Writes (page (g.W.Sink.taken l.initial.sink) (g.W.Sink.failures l.initial.sink) l.initial.buffered) new (declarations_text l.variables)

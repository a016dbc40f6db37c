use Rattle.scl_printer.proofs.Written.{follows, written_as}
use Rattle.scl_printer.proofs.Shown.{deeper}
use Rattle.scl_printer.proofs.lines.indent.Goals as goal

pub loop-preserved : goal.loop-preserved
loop-preserved g c = written_as _ _ _ _ (deeper c.loop.counter) (follows _ _ _ _ _ c.loop.invariant c.put_text.ensures)

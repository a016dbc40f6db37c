use Rattle.std.proofs.Common.{refl}
use Rattle.scl_printer.proofs.Written.{follows}
use Rattle.scl_printer.proofs.Lined.{as_line}
use Rattle.scl_printer.proofs.lines.write_line.Goals as goal

pub returns : goal.returns
returns g c = as_line _ _ _ c.args.level c.args.text.now _ refl c.indent.ensures (follows _ _ _ _ _ c.put_text.ensures c.put_text-2.ensures)

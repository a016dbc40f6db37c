use Rattle.std.proofs.Common.{◌++◌, codes}
use Rattle.scl_printer.proofs.Written.{follows, written_as}
use Rattle.scl_printer.proofs.Lined.{as_line, ends_second}
use Rattle.scl_printer.proofs.lines.write_label.Goals as goal

pub returns : goal.returns
returns g c =
    as_line _ _ _ c.args.level (c.args.name.now ++ codes ":") _ (ends_second c.args.name.now (codes ":")) c.indent.ensures
    (follows _ _ _ _ _ (written_as _ _ _ _ c.as_bytes.ensures.value c.put.ensures) c.put_text.ensures)

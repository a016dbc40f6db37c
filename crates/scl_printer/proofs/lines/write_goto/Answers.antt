use Rattle.std.proofs.Common.{◌++◌, codes}
use Rattle.scl_printer.proofs.Written.{follows, written_as}
use Rattle.scl_printer.proofs.Lined.{as_line, ends_third}
use Rattle.scl_printer.proofs.lines.write_goto.Goals as goal

pub returns : goal.returns
returns g c =
    as_line _ _ _ c.args.level (codes "goto " ++ (c.args.name.now ++ codes ";")) _ (ends_third (codes "goto ") c.args.name.now (codes ";")) c.indent.ensures
    (follows _ _ _ _ _ c.put_text.ensures (follows _ _ _ _ _ (written_as _ _ _ _ c.as_bytes.ensures.value c.put.ensures) c.put_text-2.ensures))

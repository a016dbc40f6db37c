use Rattle.std.proofs.Common.{ℕ, List, ◌++◌, codes}
use Rattle.scl_printer.specs.Expressions.{expression_text}
use Rattle.scl_printer.proofs.Written.{follows}
use Rattle.scl_printer.proofs.Lined.{as_line, ends_third}
use Rattle.scl_printer.proofs.lines.write_test.Goals as goal

pub returns : goal.returns
returns g c =
    let value : List ℕ = expression_text c.args.variables.now c.args.test.now in
    as_line _ _ _ c.args.level (codes "if (" ++ (value ++ codes ") {")) _ (ends_third (codes "if (") value (codes ") {")) c.indent.ensures
    (follows _ _ _ _ _ c.put_text.ensures (follows _ _ _ _ _ c.write_expression.ensures c.put_text-2.ensures))

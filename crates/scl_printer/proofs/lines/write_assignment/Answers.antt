use Rattle.std.proofs.Common.{ℕ, List, ◌++◌, codes}
use Rattle.scl_printer.specs.Expressions.{variable_text, expression_text}
use Rattle.scl_printer.proofs.Written.{follows, written_as}
use Rattle.scl_printer.proofs.Lined.{as_line, ends_fourth}
use Rattle.scl_printer.proofs.lines.write_assignment.Goals as goal

pub returns : goal.returns
returns g c =
    let name : List ℕ = variable_text c.args.variables.now c.args.variable in
    let value : List ℕ = expression_text c.args.variables.now c.args.value.now in
    as_line _ _ _ c.args.level (name ++ (codes " = " ++ (value ++ codes ";"))) _ (ends_fourth name (codes " = ") value (codes ";")) c.indent.ensures
    (follows _ _ _ _ _ (written_as _ _ _ _ c.variable_text.ensures c.put_text.ensures)
    (follows _ _ _ _ _ c.put_text-2.ensures (follows _ _ _ _ _ c.write_expression.ensures c.put_text-3.ensures)))

use Rattle.std.proofs.Common.{◌≡◌, Bool, List, ap, sym, ◌∙◌}
use Rattle.sc_graph.specs.declared.program.Variable.{Variable}
use Rattle.sc_values.specs.declared.expression.Expr.{Expr}
use Rattle.scl_printer.specs.declared.parentheses.Parentheses.{Parentheses}
use Rattle.scl_printer.specs.Expressions.{shown, is_enclosed, unary_takes_not, binary_takes_not}
use Rattle.scl_printer.proofs.Written.{follows, written_as}
use Rattle.scl_printer.proofs.ShownTrees.{shown_unary, shown_binary}
use Rattle.scl_printer.proofs.Shown.{operand_written}
use Rattle.scl_printer.proofs.expressions.+write_tree.Goals as goal

pub returns-in-Unary : goal.returns-in-Unary
returns-in-Unary g t c =
    let p : Parentheses = c.args.parentheses in
    let vs : List Variable = c.args.variables.now in
    let a : Expr = c.in-Unary.operand in
    let takes : Bool = unary_takes_not c.in-Unary.operator in
    let inner : c.stands_enclosed-is_inner.result ≡ is_enclosed p takes (shown p vs a).form =
    c.stands_enclosed-is_inner.ensures vs
    ∙ ap (λ n. is_enclosed p n (shown p vs c.get-operand.result.now).form) c.unary_takes_not.ensures
    ∙ ap (λ e. is_enclosed p takes (shown p vs e).form) c.get-operand.ensures in
    let whole : (shown p vs c.args.expression.now).text ≡ _ = ap (λ e. (shown p vs e).text) c.in-Unary.is ∙ ap (λ s. s.text)
    (shown_unary p vs c.in-Unary.operator a) in
    written_as _ _ _ _ (sym whole)
    (follows _ _ _ _ _ (written_as _ _ _ _ c.prefix_text.ensures c.put_text-in-Unary.ensures)
    (follows _ _ _ _ _
    (operand_written p takes (shown p vs a) _ _ _ _ _ inner c.put_if.ensures (written_as _ _ _ _ (ap (λ e.
    (shown p vs e).text) c.get-operand.ensures) c.write_tree.ensures) c.put_if-in-Unary.ensures)
    c.write_divisor.ensures))

pub returns-in-Binary : goal.returns-in-Binary
returns-in-Binary g t c =
    let p : Parentheses = c.args.parentheses in
    let vs : List Variable = c.args.variables.now in
    let a : Expr = c.in-Binary.left in
    let b : Expr = c.in-Binary.right in
    let takes : Bool = binary_takes_not c.in-Binary.operator in
    let left : c.stands_enclosed-is_left.result ≡ is_enclosed p takes (shown p vs a).form =
    c.stands_enclosed-is_left.ensures vs
    ∙ ap (λ n. is_enclosed p n (shown p vs c.get-left.result.now).form) c.binary_takes_not-takes_not.ensures
    ∙ ap (λ e. is_enclosed p takes (shown p vs e).form) c.get-left.ensures in
    let right : c.stands_enclosed-is_right.result ≡ is_enclosed p takes (shown p vs b).form =
    c.stands_enclosed-is_right.ensures vs
    ∙ ap (λ n. is_enclosed p n (shown p vs c.get-right.result.now).form) c.binary_takes_not-takes_not.ensures
    ∙ ap (λ e. is_enclosed p takes (shown p vs e).form) c.get-right.ensures in
    let whole : (shown p vs c.args.expression.now).text ≡ _ = ap (λ e. (shown p vs e).text) c.in-Binary.is ∙ ap (λ s. s.text)
    (shown_binary p vs c.in-Binary.operator a b) in
    written_as _ _ _ _ (sym whole)
    (follows _ _ _ _ _ (written_as _ _ _ _ c.opening_text.ensures c.put_text-in-Binary.ensures)
    (follows _ _ _ _ _
    (operand_written p takes (shown p vs a) _ _ _ _ _ left c.put_if-in-Binary.ensures (written_as _ _ _ _ (ap (λ e.
    (shown p vs e).text) c.get-left.ensures) c.write_tree-in-Binary.ensures) c.put_if-in-Binary-2.ensures)
    (follows _ _ _ _ _ (written_as _ _ _ _ c.infix_text.ensures c.put_text-in-Binary-2.ensures)
    (follows _ _ _ _ _
    (operand_written p takes (shown p vs b) _ _ _ _ _ right c.put_if-in-Binary-3.ensures (written_as _ _ _ _ (ap (λ e.
    (shown p vs e).text) c.get-right.ensures) c.write_tree-in-Binary-2.ensures) c.put_if-in-Binary-4.ensures)
    (written_as _ _ _ _ c.closing_text.ensures c.put_text-in-Binary-3.ensures)))))

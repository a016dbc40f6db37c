use Rattle.std.proofs.Common.{List, ap, sym, ◌∙◌}
use Rattle.drawing.specs.declared.symbols.Symbol.{Symbol}
use Rattle.drawing.specs.Expressions.{written}
use Rattle.drawing.proofs.Putting.{follows, put_as, put_operand}
use Rattle.drawing.proofs.WrittenTrees.{written_literal, written_load, written_unary, written_binary}
use Rattle.drawing.proofs.expressions.+put_expression.Goals as goal

pub returns-in-Literal : goal.returns-in-Literal
returns-in-Literal t c =
    let vs : List Symbol = c.args.symbols.now in
    put_as _ _ _ _
    (sym (ap (λ e. (written vs e).text) c.in-Literal.is ∙ ap (λ w. w.text) (written_literal vs c.in-Literal.value)))
    c.put_value.ensures

pub returns-in-Load : goal.returns-in-Load
returns-in-Load t c =
    let vs : List Symbol = c.args.symbols.now in
    put_as _ _ _ _
    (sym (ap (λ e. (written vs e).text) c.in-Load.is ∙ ap (λ w. w.text) (written_load vs c.in-Load.variable)))
    c.put_symbol.ensures

pub returns-in-Unary : goal.returns-in-Unary
returns-in-Unary t c =
    let vs : List Symbol = c.args.symbols.now in
    put_as _ _ _ _
    (sym (ap (λ e. (written vs e).text) c.in-Unary.is ∙ ap (λ w. w.text) (written_unary vs c.in-Unary.operator c.in-Unary.operand)))
    (follows _ _ _ _ _ (put_as _ _ _ _ c.prefix_text.ensures c.put.ensures)
    (follows _ _ _ _ _
    (put_operand _ _ _ _ vs _ _ _ _ _ c.unary_level.ensures c.get-operand.ensures (c.stands_enclosed-is_inner.ensures vs)
    c.put_if.ensures c.put_expression.ensures c.put_if-in-Unary.ensures)
    c.put_divisor.ensures))

pub returns-in-Binary : goal.returns-in-Binary
returns-in-Binary t c =
    let vs : List Symbol = c.args.symbols.now in
    put_as _ _ _ _
    (sym (ap (λ e. (written vs e).text) c.in-Binary.is
    ∙ ap (λ w. w.text) (written_binary vs c.in-Binary.operator c.in-Binary.left c.in-Binary.right)))
    (follows _ _ _ _ _ (put_as _ _ _ _ c.opening_text.ensures c.put-in-Binary.ensures)
    (follows _ _ _ _ _
    (put_operand _ _ _ _ vs _ _ _ _ _ c.left_level.ensures c.get-left.ensures (c.stands_enclosed-is_left.ensures vs)
    c.put_if-in-Binary.ensures c.put_expression-in-Binary.ensures c.put_if-in-Binary-2.ensures)
    (follows _ _ _ _ _ (put_as _ _ _ _ c.infix_text.ensures c.put-in-Binary-2.ensures)
    (follows _ _ _ _ _
    (put_operand _ _ _ _ vs _ _ _ _ _ c.right_level.ensures c.get-right.ensures (c.stands_enclosed-is_right.ensures vs)
    c.put_if-in-Binary-3.ensures c.put_expression-in-Binary-2.ensures c.put_if-in-Binary-4.ensures)
    (put_as _ _ _ _ c.closing_text.ensures c.put-in-Binary-3.ensures)))))

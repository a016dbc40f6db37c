use Rattle.std.proofs.Common.{◌≡◌, List, ap, sym, ◌∙◌}
use Rattle.sc_graph.specs.declared.program.Variable.{Variable}
use Rattle.sc_values.specs.declared.expression.Expr.TheOpen as tree
use Rattle.scl_printer.specs.declared.parentheses.Parentheses.{Parentheses}
use Rattle.scl_printer.specs.Expressions.{shown, shown_step}
use Rattle.scl_printer.specs.Inside.Seen.{seen}
use Rattle.scl_printer.proofs.ShownTrees.{shown_literal, shown_load, shown_unary, shown_binary}
use Rattle.scl_printer.proofs.tree_texts.+shown.Goals as goal

pub returns-in_ok-literal-in-Literal : goal.returns-in_ok-literal-in-Literal
returns-in_ok-literal-in-Literal t c =
    let p : Parentheses = c.args.parentheses in
    let vs : List Variable = c.args.variables.now in
    c.in_ok-literal-in-Literal.ensures p vs ∙ sym (shown_literal p vs c.in-Literal.value) ∙ ap (shown p vs) (sym c.in-Literal.is)

pub returns-in_ok-unary-in-Unary : goal.returns-in_ok-unary-in-Unary
returns-in_ok-unary-in-Unary t c =
    let p : Parentheses = c.args.parentheses in
    let vs : List Variable = c.args.variables.now in
    let inner : seen c.in_ok-inner-in-Unary.inner ≡ shown p vs c.in-Unary.inner = c.in_ok-inner-in-Unary.ensures ∙ ap (shown p vs) c.get.ensures in
    c.in_ok-unary-in-Unary.ensures vs
    ∙ ap (λ a. shown_step p vs (tree.Unary c.in-Unary.operator a)) inner
    ∙ sym (shown_unary p vs c.in-Unary.operator c.in-Unary.inner)
    ∙ ap (shown p vs) (sym c.in-Unary.is)

pub returns-in_ok-binary-in-Binary : goal.returns-in_ok-binary-in-Binary
returns-in_ok-binary-in-Binary t c =
    let p : Parentheses = c.args.parentheses in
    let vs : List Variable = c.args.variables.now in
    let left : seen c.in_ok-left-in-Binary.left ≡ shown p vs c.in-Binary.left = c.in_ok-left-in-Binary.ensures ∙ ap (shown p vs) c.get-in-Binary.ensures in
    let right : seen c.in_ok-right-in-Binary.right ≡ shown p vs c.in-Binary.right = c.in_ok-right-in-Binary.ensures ∙ ap
    (shown p vs) c.get-in-Binary-2.ensures in
    c.in_ok-binary-in-Binary.ensures vs
    ∙ ap (λ a. shown_step p vs (tree.Binary c.in-Binary.operator a (seen c.in_ok-right-in-Binary.right))) left
    ∙ ap (λ b. shown_step p vs (tree.Binary c.in-Binary.operator (shown p vs c.in-Binary.left) b)) right
    ∙ sym (shown_binary p vs c.in-Binary.operator c.in-Binary.left c.in-Binary.right)
    ∙ ap (shown p vs) (sym c.in-Binary.is)

pub returns-in_ok-load-in-Load : goal.returns-in_ok-load-in-Load
returns-in_ok-load-in-Load t c =
    let p : Parentheses = c.args.parentheses in
    let vs : List Variable = c.args.variables.now in
    c.in_ok-load-in-Load.ensures p ∙ sym (shown_load p vs c.in-Load.variable) ∙ ap (shown p vs) (sym c.in-Load.is)

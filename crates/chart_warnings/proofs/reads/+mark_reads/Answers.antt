use Rattle.std.proofs.Common.{ℕ, Bool, List, ap, sym, ◌∙◌}
use Rattle.std.specs.List.{filter}
use Rattle.sc_values.specs.declared.expression.Expr.{Expr}
use Rattle.chart_warnings.specs.Inside.Marks.{marked, is_besides, variables_of}
use Rattle.chart_warnings.proofs.Marking.{binary_marked}
use Rattle.chart_warnings.proofs.reads.+mark_reads.Goals as goal

pub returns-in-Binary : goal.returns-in-Binary
returns-in-Binary t c =
    let p : ℕ → Bool = is_besides c.args.besides in
    let old : List Bool = c.args.marks.now.items in
    let at : Expr → List Bool → List Bool = λ e m. marked (filter p (variables_of e)) m in
    c.mark_reads-in-Binary-2.ensures
    ∙ ap (λ e. at e c.mark_reads-in-Binary.new.marks.items) c.get-in-Binary-2.ensures
    ∙ ap (λ m. at c.in-Binary.right m) (c.mark_reads-in-Binary.ensures ∙ ap (λ e. at e old) c.get-in-Binary.ensures)
    ∙ sym (binary_marked p c.in-Binary.field-0 c.in-Binary.left c.in-Binary.right old)
    ∙ ap (λ e. at e old) (sym c.in-Binary.is)

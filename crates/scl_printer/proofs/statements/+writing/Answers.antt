use Rattle.std.proofs.Common.{◌≡◌, ℕ, ◌+◌, List, [], ◌∷◌, codes, map, drop, ap, sym, subst, ◌∙◌, rules}
use Rattle.std.proofs.lemmas.List.{drop_all}
use Rattle.sc_graph.specs.declared.program.Variable.{Variable}
use Rattle.scl.specs.declared.statement.Statement.{Statement}
use Rattle.scl.specs.Rules.{in_row, part_of, side_by_side, forked}
use Rattle.scl_printer.specs.Layout.{branches_text, line, statement_text, statements_text}
use Rattle.scl_printer.specs.Inside.Levels.{HasLevels}
use Rattle.scl_printer.specs.Inside.Writing.{when, has_any}
use Rattle.scl_printer.proofs.Written.{follows, nothing, written_as, split_at}
use Rattle.scl_printer.proofs.Shown.{else_is, inner_row, text_of_assign, text_of_if, text_of_fork}
use Rattle.scl_printer.proofs.Nested.{second_levels, later_branches}
use Rattle.scl_printer.proofs.statements.+writing.Goals as goal

pub write_statements-loop-statement-preserved : goal.write_statements-loop-statement-preserved
write_statements-loop-statement-preserved g t c =
    let vs : List Variable = c.args.variables.now in
    let xs : List Statement = c.args.statements.now in
    let s : Statement = c.statement-item.result in
    let i : ℕ = c.loop-statement.statement-index in
    let rest : List Statement = drop (i + 1) xs in
    let split : drop i xs ≡ s ∷ rest = split_at xs i s c.loop-statement-test.true c.statement-item.is in
    let Levels : List Statement → Type 0 = λ ys. HasLevels c.args.level (in_row (map part_of ys)) in
    record {
      levels = second_levels c.args.level (part_of s) (in_row (map part_of rest)) (subst Levels split c.loop-statement.invariant.levels);
      written = λ new h. c.loop-statement.invariant.written new
          (written_as _ _ _ _ (sym (ap (λ ys. statements_text vs ys c.args.level) split)) (follows _ _ _ _ _ c.write_statement.ensures h));
    }

pub write_statements-returns : goal.write_statements-returns
write_statements-returns g t c =
    let vs : List Variable = c.args.variables.now in
    let xs : List Statement = c.args.statements.now in
    let none : drop c.loop-statement.statement-index xs ≡ [] = drop_all c.loop-statement.statement-index xs c.loop-statement-test.false in
    c.loop-statement.invariant.written _ (written_as _ _ _ _ (sym (ap (λ ys. statements_text vs ys c.args.level) none)) (nothing _))

pub write_statement-returns-in-Assign : goal.write_statement-returns-in-Assign
write_statement-returns-in-Assign g t c =
    let vs : List Variable = c.args.variables.now in
    let level : ℕ = c.args.level in
    let whole : statement_text vs c.args.statement.now level ≡ _ =
    ap (λ s. statement_text vs s level) c.in-Assign.is ∙ ap (λ f. f level) (text_of_assign vs c.in-Assign.variable c.in-Assign.value) in
    written_as _ _ _ _ (sym whole) c.write_assignment.ensures

pub write_statement-returns-in-If : goal.write_statement-returns-in-If
write_statement-returns-in-If g t c =
    let vs : List Variable = c.args.variables.now in
    let level : ℕ = c.args.level in
    let a : List Statement = c.in-If.first in
    let b : List Statement = c.in-If.second in
    let whole : statement_text vs c.args.statement.now level ≡ _ = ap (λ s. statement_text vs s level) c.in-If.is
    ∙ ap (λ f. f level) (text_of_if vs c.in-If.test a b) in
    let some : c.has_any.result ≡ has_any b = c.has_any.ensures ∙ ap has_any c.as_slice-in-If.ensures in
    written_as _ _ _ _ (sym whole)
    (follows _ _ _ _ _ c.write_test.ensures
    (follows _ _ _ _ _ (written_as _ _ _ _ (inner_row vs a _ level c.as_slice.ensures) c.write_statements.ensures)
    (follows _ _ _ _ _
    (written_as _ _ _ _ (else_is vs b level)
    (follows _ _ _ _ _
    (written_as _ _ _ _ (ap (λ i. when i (line (codes "} else {") level)) some) c.write_line_if.ensures)
    (written_as _ _ _ _ (inner_row vs b _ level c.as_slice-in-If-2.ensures) c.write_statements-in-If.ensures)))
    c.write_line-in-If.ensures)))

pub write_statement-loop-branch-preserved : goal.write_statement-loop-branch-preserved
write_statement-loop-branch-preserved g t c =
    let vs : List Variable = c.args.variables.now in
    let level : ℕ = c.args.level in
    let items : List (List Statement) = c.as_slice-branch-items.result.now in
    let b : List Statement = c.branch-item.result in
    let i : ℕ = c.loop-branch.branch-index in
    let rest : List (List Statement) = drop (i + 1) items in
    let split : drop i items ≡ b ∷ rest = split_at items i b c.loop-branch-test.true c.branch-item.is in
    let Levels : List (List Statement) → Type 0 = λ bs. HasLevels level (forked 0 (side_by_side (map (map part_of) bs))) in
    record {
      utf8 = search rules;
      levels = later_branches level 0 (map part_of b) (map (map part_of) rest) (subst Levels split c.loop-branch.invariant.levels);
      written = λ new h.
          c.loop-branch.invariant.written new
          (written_as _ _ _ _ (sym (ap (λ bs. branches_text c.loop-branch.opening.now (map (map (statement_text vs)) bs) level) split))
          (follows _ _ _ _ _ c.write_line-in-loop-branch.ensures
          (follows _ _ _ _ _ (written_as _ _ _ _ (inner_row vs b _ level c.as_slice-in-loop-branch.ensures) c.write_statements-in-loop-branch.ensures) h)));
    }

pub write_statement-returns-after-loop-branch : goal.write_statement-returns-after-loop-branch
write_statement-returns-after-loop-branch g t c =
    let vs : List Variable = c.args.variables.now in
    let level : ℕ = c.args.level in
    let items : List (List Statement) = c.as_slice-branch-items.result.now in
    let branches : List (List Statement) = c.in-Fork.branches in
    let whole : statement_text vs c.args.statement.now level ≡ _ = ap (λ s. statement_text vs s level) c.in-Fork.is
    ∙ ap (λ f. f level) (text_of_fork vs branches) in
    let none : drop c.loop-branch.branch-index items ≡ [] = drop_all c.loop-branch.branch-index items c.loop-branch-test.false in
    written_as _ _ _ _ (sym whole)
    (follows _ _ _ _ _
    (written_as _ _ _ _ (ap (λ bs. branches_text (codes "fork {") (map (map (statement_text vs)) bs) level) c.as_slice-branch-items.ensures)
    (c.loop-branch.invariant.written _
    (written_as _ _ _ _ (sym (ap (λ bs. branches_text c.loop-branch.opening.now (map (map (statement_text vs)) bs) level) none)) (nothing _))))
    c.write_line-in-Fork.ensures)

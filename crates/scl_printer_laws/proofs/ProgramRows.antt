-- A program that a text can write, and the text that reads as it.
use Rattle.std.proofs.Common.{◌≡◌, ℕ, true, List, [], ◌∷◌, ◌++◌, codes, refl, sym, ◌∙◌, ap, subst}
use Rattle.std.specs.Prelude.{IsTrue}
use Rattle.grammar.proofs.Each.{Every, every_at}
use Rattle.sc_values.specs.Name.{is_name}
use Rattle.sc_values.specs.declared.value.Value.TheVariants as value
use Rattle.sc_values.specs.declared.value.Kind.TheVariants as kind
use Rattle.sc_values.specs.declared.expression.Expr.{Expr}
use Rattle.sc_values.specs.declared.expression.Expr.TheOpen as tree
use Rattle.sc_values.specs.declared.expression.Expr.TheViews.{roll-Expr}
use Rattle.sc_values.specs.declared.expression.Expr.TheFolds.{fold-roll-Expr}
use Rattle.sc_graph.specs.declared.program.Role.TheVariants as role
use Rattle.sc_graph.specs.declared.program.Variable.{Variable}
use Rattle.scl.specs.declared.program.Scl.{Scl}
use Rattle.scl.specs.declared.statement.Statement.{Statement}
use Rattle.scl.specs.declared.statement.Statement.TheOpen as open_statement
use Rattle.scl.specs.declared.statement.Statement.TheVariants as statement
use Rattle.scl.specs.declared.statement.Statement.TheVariants.{rolls-Assign, rolls-Label, rolls-Goto}
use Rattle.scl.specs.declared.statement.Statement.TheFolds.{fold-roll-Statement}
use Rattle.scl.specs.Rules.{Part, KeepsRules, part, part_of, in_row, thread, root}
use Rattle.scl_printer.specs.Expressions.{Shown, shown_step, parentheses_of, expression_text}
use Rattle.scl_printer.specs.Layout.{line, statement_text, text_of}
use Rattle.scl_reader.specs.Read.{IsRead}
use Rattle.scl_printer_laws.specs.Programs.{HasNumbers, of_literal, CanWriteProgram}
use Rattle.scl_printer_laws.proofs.StatementTexts.{text_of_assign, text_of_label, text_of_goto}
use Rattle.scl_printer_laws.proofs.ReadBack.{read}

abbrev variables : List Variable
variables = record { name = codes "a"; kind = kind.Bool; role = role.Local } ∷ []

abbrev truth : Expr
truth = roll-Expr (tree.Literal (value.Bool true))

abbrev body : List Statement
body = statement.Label (codes "L") ∷ statement.Assign 0 truth ∷ statement.Goto (codes "L") ∷ []

abbrev program : ∥ KeepsRules (codes "P") variables body ∥₁ → Scl
program kept = record { name = codes "P"; variables = variables; body = body; kept = kept }

-- ---- what its rules gather

abbrev parts : Part → Part → Part → Part
parts p q r = thread (in_row (p ∷ q ∷ r ∷ []))

root_is : root body
    ≡ parts (part (open_statement.Label (codes "L"))) (part (open_statement.Assign 0 truth)) (part (open_statement.Goto (codes "L")))
root_is =
    ap (λ p. parts p (part_of (statement.Assign 0 truth)) (part_of (statement.Goto (codes "L"))))
    (ap part_of (sym (rolls-Label (codes "L"))) ∙ fold-roll-Statement Part part (open_statement.Label (codes "L")))
    ∙ ap (λ p. parts (part (open_statement.Label (codes "L"))) p (part_of (statement.Goto (codes "L"))))
    (ap part_of (sym (rolls-Assign 0 truth)) ∙ fold-roll-Statement Part part (open_statement.Assign 0 truth))
    ∙ ap (parts (part (open_statement.Label (codes "L"))) (part (open_statement.Assign 0 truth)))
    (ap part_of (sym (rolls-Goto (codes "L"))) ∙ fold-roll-Statement Part part (open_statement.Goto (codes "L")))

can_write : (kept : ∥ KeepsRules (codes "P") variables body ∥₁) → CanWriteProgram (program kept)
can_write kept = record {
  named = refl;
  declared = every_at (λ (x : Variable). IsTrue (is_name x.name)) variables (refl, tt);
  labels = every_at (λ (name : List ℕ). IsTrue (is_name name)) (root body).lower
      (subst (λ (p : Part). Every (λ (name : List ℕ). IsTrue (is_name name)) p.lower) (sym root_is) (refl, tt));
  assigned = λ n x e at. every_at (λ (a : ℕ × Expr). HasNumbers a.1) (root body).assigned
      (subst (λ (p : Part). Every (λ (a : ℕ × Expr). HasNumbers a.1) p.assigned) (sym root_is) (of_literal (value.Bool true) tt, tt)) n (x, e) at;
  tests = every_at HasNumbers (root body).tests (subst (λ (p : Part). Every HasNumbers p.tests) (sym root_is) tt);
}

-- ---- its text

truth_text : expression_text variables truth ≡ codes "true"
truth_text = ap (λ (s : Shown). s.text) (fold-roll-Expr Shown (shown_step (parentheses_of truth) variables) (tree.Literal (value.Bool true)))

abbrev lines : List ℕ → List ℕ → List ℕ → List ℕ
lines a b c = codes "scl P {\n  local bool a;\n" ++ ((a ++ (b ++ (c ++ []))) ++ codes "}\n")

text_is : (kept : ∥ KeepsRules (codes "P") variables body ∥₁)
    → text_of (program kept) ≡ codes "scl P {\n  local bool a;\n  L:\n  a = true;\n  goto L;\n}\n"
text_is kept =
    ap (λ f. lines (f 1) (statement_text variables (statement.Assign 0 truth) 1) (statement_text variables (statement.Goto (codes "L")) 1))
    (text_of_label variables (codes "L"))
    ∙ ap (λ f. lines (codes "  L:\n") (f 1) (statement_text variables (statement.Goto (codes "L")) 1)) (text_of_assign variables 0 truth)
    ∙ ap (λ t. lines (codes "  L:\n") (line (codes "a = " ++ (t ++ codes ";")) 1) (statement_text variables (statement.Goto (codes "L")) 1)) truth_text
    ∙ ap (λ f. lines (codes "  L:\n") (codes "  a = true;\n") (f 1)) (text_of_goto variables (codes "L"))

reads : (kept : ∥ KeepsRules (codes "P") variables body ∥₁)
    → IsRead (codes "scl P {\n  local bool a;\n  L:\n  a = true;\n  goto L;\n}\n") (program kept)
reads kept = subst (λ t. IsRead t (program kept)) (text_is kept) (read (program kept) (can_write kept))

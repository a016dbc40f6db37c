-- How each form of a statement is printed.
use Rattle.std.proofs.Common.{◌≡◌, ℕ, List, [], ◌∷◌, ◌++◌, map, refl, sym, ◌∙◌, ap}
use Rattle.sc_values.specs.declared.expression.Expr.{Expr}
use Rattle.sc_graph.specs.declared.program.Variable.{Variable}
use Rattle.scl.specs.declared.statement.Statement.{Statement}
use Rattle.scl.specs.declared.statement.Statement.TheOpen as text
use Rattle.scl.specs.declared.statement.Statement.TheVariants as statement
use Rattle.scl.specs.declared.statement.Statement.TheVariants.{rolls-Assign, rolls-Label, rolls-Goto, rolls-Pause, rolls-If, rolls-Fork}
use Rattle.scl.specs.declared.statement.Statement.TheFolds.{fold-roll-Statement}
use Rattle.scl_printer.specs.Layout.{Piece, in_row, statement_step, statement_text, statements_text}

module _ (variables : List Variable) where
  pub text_of_assign : (x : ℕ) (e : Expr) → statement_text variables (statement.Assign x e) ≡ statement_step variables (text.Assign x e)
  text_of_assign x e =
      ap (statement_text variables) (sym (rolls-Assign x e)) ∙ fold-roll-Statement Piece (statement_step variables) (text.Assign x e)

  pub text_of_label : (name : List ℕ) → statement_text variables (statement.Label name) ≡ statement_step variables (text.Label name)
  text_of_label name =
      ap (statement_text variables) (sym (rolls-Label name)) ∙ fold-roll-Statement Piece (statement_step variables) (text.Label name)

  pub text_of_goto : (name : List ℕ) → statement_text variables (statement.Goto name) ≡ statement_step variables (text.Goto name)
  text_of_goto name =
      ap (statement_text variables) (sym (rolls-Goto name)) ∙ fold-roll-Statement Piece (statement_step variables) (text.Goto name)

  pub text_of_pause : statement_text variables statement.Pause ≡ statement_step variables text.Pause
  text_of_pause = ap (statement_text variables) (sym rolls-Pause) ∙ fold-roll-Statement Piece (statement_step variables) text.Pause

  pub text_of_if : (e : Expr) (a b : List Statement)
      → statement_text variables (statement.If e a b)
      ≡ statement_step variables (text.If e (map (statement_text variables) a) (map (statement_text variables) b))
  text_of_if e a b =
      ap (statement_text variables) (sym (rolls-If e a b)) ∙ fold-roll-Statement Piece (statement_step variables) (text.If e a b)

  pub text_of_fork : (branches : List (List Statement))
      → statement_text variables (statement.Fork branches) ≡ statement_step variables (text.Fork (map (map (statement_text variables)) branches))
  text_of_fork branches =
      ap (statement_text variables) (sym (rolls-Fork branches)) ∙ fold-roll-Statement Piece (statement_step variables) (text.Fork branches)

  pub text_of_row : (statements : List Statement) (level : ℕ)
      → statements_text variables statements level ≡ in_row (map (statement_text variables) statements) level
  text_of_row [] level = refl
  text_of_row (s ∷ statements) level = ap (λ xs. statement_text variables s level ++ xs) (text_of_row statements level)

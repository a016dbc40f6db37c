-- What each statement of a draft is, its names looked up.
use Rattle.std.proofs.Common.{◌≡◌, ◌≤◌, ℕ, List, [], ◌∷◌, ◌++◌, drop, length, map, refl, sym, ap, ◌∙◌}
use Rattle.std.proofs.lemmas.List.{append-nil}
use Rattle.sc_text.proofs.PartsInOrder.{drop_past}
use Rattle.sc_text.specs.declared.drafts.parts.Named.{Named}
use Rattle.sc_text.specs.declared.drafts.parts.TextExpression.{TextExpression}
use Rattle.sc_text.specs.Resolved.{number_of, expression_of}
use Rattle.scl.specs.declared.statement.Statement.{Statement}
use Rattle.scl.specs.declared.statement.Statement.TheVariants as statement
use Rattle.scl_reader.specs.declared.text_drafts.statement.TextStatement.{TextStatement}
use Rattle.scl_reader.specs.declared.text_drafts.statement.TextStatement.TheOpen as text
use Rattle.scl_reader.specs.declared.text_drafts.statement.TextStatement.TheVariants as written
use Rattle.scl_reader.specs.declared.text_drafts.statement.TextStatement.TheVariants.{rolls-Assign, rolls-Label, rolls-Goto, rolls-Pause, rolls-If, rolls-Fork}
use Rattle.scl_reader.specs.declared.text_drafts.statement.TextStatement.TheFolds.{fold-roll-TextStatement}
use Rattle.scl_reader.specs.Resolved.{resolved, statement_of, statements_of, branches_of}

module _ (names : List (List ℕ)) where
  pub of_assign : (target : Named) (e : TextExpression) → statement_of names (written.Assign target e)
      ≡ statement.Assign (number_of names target.name) (expression_of names e.operations)
  of_assign target e = ap (statement_of names) (sym (rolls-Assign target e)) ∙ fold-roll-TextStatement Statement (resolved names) (text.Assign target e)

  pub of_label : (label : Named) → statement_of names (written.Label label) ≡ statement.Label label.name
  of_label label = ap (statement_of names) (sym (rolls-Label label)) ∙ fold-roll-TextStatement Statement (resolved names) (text.Label label)

  pub of_goto : (label : Named) → statement_of names (written.Goto label) ≡ statement.Goto label.name
  of_goto label = ap (statement_of names) (sym (rolls-Goto label)) ∙ fold-roll-TextStatement Statement (resolved names) (text.Goto label)

  pub of_pause : (at : ℕ) → statement_of names (written.Pause at) ≡ statement.Pause
  of_pause at = ap (statement_of names) (sym (rolls-Pause at)) ∙ fold-roll-TextStatement Statement (resolved names) (text.Pause at)

  pub of_if : (at : ℕ) (e : TextExpression) (first second : List TextStatement) → statement_of names (written.If at e first second)
      ≡ statement.If (expression_of names e.operations) (statements_of names first) (statements_of names second)
  of_if at e first second =
      ap (statement_of names) (sym (rolls-If at e first second)) ∙ fold-roll-TextStatement Statement (resolved names) (text.If at e first second)

  rows : (branches : List (ℕ × List TextStatement))
      → map (λ (b : ℕ × List Statement). b.1) (map (λ (b : ℕ × List TextStatement). (b.0, map (statement_of names) b.1)) branches) ≡ branches_of names branches
  rows [] = refl
  rows (b ∷ branches) = ap (λ more. statements_of names b.1 ∷ more) (rows branches)

  pub of_fork : (branches : List (ℕ × List TextStatement)) (join : ℕ)
      → statement_of names (written.Fork branches join) ≡ statement.Fork (branches_of names branches)
  of_fork branches join =
      ap (statement_of names) (sym (rolls-Fork branches join)) ∙ fold-roll-TextStatement Statement (resolved names) (text.Fork branches join)
      ∙ ap statement.Fork (rows branches)

  -- all branches were looked up, of a statement that forks them
  pub fork_looked : (items branches : List (ℕ × List TextStatement)) (join i : ℕ) (all : List (List Statement)) (s : TextStatement) → length items ≤ i
      → all ++ branches_of names (drop i items) ≡ branches_of names items → items ≡ branches → s ≡ written.Fork branches join → statement.Fork all
      ≡ statement_of names s
  fork_looked items branches join i all s past done same is =
      ap statement.Fork
      (sym (append-nil all) ∙ sym (ap (λ rest. all ++ branches_of names rest) (drop_past items i past)) ∙ done ∙ ap (branches_of names) same)
      ∙ sym (of_fork branches join) ∙ sym (ap (statement_of names) is)

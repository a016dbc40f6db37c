use Rattle.sc_text.proofs.ToldFlaws.{expression_told}
use Rattle.sc_text.proofs.drafts.scope.Scope.tell_expression.Goals as goal

pub returns : goal.returns
returns c =
    expression_told _ _ _ _ _ _ _ _ _ _ c.as_slice-operations.ensures c.in_ok-tell_unknown_names.ensures c.in_ok-is_other.ensures
    c.in_ok-note_told.ensures c.passes_limits-is_past.ensures c.in_ok-note_told-2.ensures

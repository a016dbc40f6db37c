use mathlib.Core.Bool.{true≢false}
use Rattle.std.proofs.Common.{◌≡◌, ◌∙◌, true, sym}
use Rattle.sc_graph.proofs.program.Program.is_fit_thread.Goals as goal
use Rattle.sc_graph.proofs.program.Program.is_fit_thread.Goals.{then-parent_fits, else-parent_fits}

pub returns-then-has_few_ancestors : goal.returns-then-has_few_ancestors
returns-then-has_few_ancestors c = (
  λ owned. elim c.if-parent_fits.branch [
    | then-parent_fits w ↦
        let few : w.has_few_ancestors.result ≡ true = sym w.value-is ∙ c.if-has_few_ancestors.true in
        record {
          parent = c.parent_fits.ensures.0 w.if-parent_fits.true;
          ancestors = (w.has_few_ancestors.ensures.0 few).none;
          entry = c.is_owner.ensures.0 owned;
        }
    | else-parent_fits w ↦ absurd (true≢false (sym c.if-has_few_ancestors.true ∙ w.value-is ∙ w.if-parent_fits.false))
  ],
  λ fits. c.is_owner.ensures.1 fits.entry,
)

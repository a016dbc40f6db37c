use mathlib.Core.Bool.{true≢false}
use Rattle.std.proofs.lemmas.Grind.{common_steps}
use Rattle.std.proofs.Common.{◌≡◌, ◌∙◌, true, sym, subst, arith}
use Rattle.sc_graph.specs.declared.program.Step.{Step}
use Rattle.sc_graph.specs.Size.{StepFits}
use Rattle.sc_graph.proofs.program.Program.step_fits.Goals as goal
use Rattle.sc_graph.proofs.program.Program.step_fits.Goals.{then-has_variable, else-has_variable, then-has_variable-2, else-has_variable-2}

pub returns-else-loads_fit : goal.returns-else-loads_fit
returns-else-loads_fit c = (
  λ yes. absurd (true≢false (sym yes ∙ c.if-loads_fit.false)),
  λ fits.
      let parts = subst (λ (s : Step). StepFits c.args.self.now s) c.in-Assign.is fits in
      elim c.if-has_variable.branch [
        | then-has_variable w ↦
            let e : w.loads_fit.result ≡ true = w.loads_fit.ensures.1 parts.1 in
            absurd (true≢false (sym (w.value-is ∙ e) ∙ c.if-loads_fit.false))
        | else-has_variable w ↦
            let e : c.has_variable.result ≡ true = c.has_variable.ensures.1 parts.0 in
            absurd (true≢false (sym e ∙ w.if-has_variable.false))
      ],
)

pub returns-else-loads_fit-2 : goal.returns-else-loads_fit-2
returns-else-loads_fit-2 c = (
  λ yes. absurd (true≢false (sym yes ∙ c.if-loads_fit-2.false)),
  λ fits.
      let parts = subst (λ (s : Step). StepFits c.args.self.now s) c.in-Update.is fits in
      elim c.if-has_variable-2.branch [
        | then-has_variable-2 w ↦
            let e : w.loads_fit-then-has_variable-2.result ≡ true = w.loads_fit-then-has_variable-2.ensures.1 parts.1 in
            absurd (true≢false (sym (w.value-is ∙ e) ∙ c.if-loads_fit-2.false))
        | else-has_variable-2 w ↦
            let e : c.has_variable-in-Update.result ≡ true = c.has_variable-in-Update.ensures.1 parts.0 in
            absurd (true≢false (sym e ∙ w.if-has_variable-2.false))
      ],
)

pub returns-then-children_fit : goal.returns-then-children_fit
returns-then-children_fit c = grind (arith, common_steps) steps 2000000

pub returns-then-loads_fit : goal.returns-then-loads_fit
returns-then-loads_fit c = grind (arith, common_steps) steps 2000000

pub returns-then-loads_fit-2 : goal.returns-then-loads_fit-2
returns-then-loads_fit-2 c = grind (arith, common_steps) steps 2000000

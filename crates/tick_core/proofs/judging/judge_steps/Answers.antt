use Rattle.std.proofs.lemmas.Grind.{common_steps}
use Rattle.std.proofs.Common.{◌≡◌, ap, subst, refl, ◌∙◌, arith}
use Rattle.sc_values.specs.Runs.{IsOver, IsOrdered}
use Rattle.sc_graph.specs.Program.{Program}
use Rattle.sc_graph.specs.Machine.{machine}
use Rattle.sc_graph.specs.Threads.{ForkedApart}
use Rattle.sc_graph.specs.Control.{IsEnabled}
use Rattle.bytecode.specs.Image.{Image}
use Rattle.tick_core.specs.Inside.Judging.{acts_at}
use Rattle.tick_core.proofs.judging.judge_steps.Goals as goal

pub returns-in-Some-leader : goal.returns-in-Some-leader
returns-in-Some-leader c =
    let same : c.program-program.result.now ≡ c.args.verified.now.program =
    c.program-program.ensures ∙ ap (λ (i : Image). i.program) c.image-image.ensures.value in
    record {
      admissible = subst (λ (p : Program). IsOrdered (ForkedApart p) (acts_at p c.args.steps.now)) same c.in_default.ensures;
      someone = c.in-Some-leader.field-0;
      enabled = subst (λ (p : Program). IsEnabled p c.args.reached c.in-Some-leader.field-0) same c.in-Some-leader.ensures.enabled;
    }

pub returns-in-None : goal.returns-in-None
returns-in-None c =
    let same : c.program-program.result.now ≡ c.args.verified.now.program =
    c.program-program.ensures ∙ ap (λ (i : Image). i.program) c.image-image.ensures.value in
    record {
      admissible = subst (λ (p : Program). IsOrdered (ForkedApart p) (acts_at p c.args.steps.now)) same c.in_default.ensures;
      over = subst (λ (p : Program). IsOver (machine p) c.args.reached) same c.in-None.ensures;
      same = refl;
    }

pub leader-requires-clause-length : goal.leader-requires-clause-length
leader-requires-clause-length c = grind (arith, common_steps) steps 2000000

pub returns-in-Some : goal.returns-in-Some
returns-in-Some c = grind (arith, common_steps) steps 2000000

use Rattle.std.proofs.lemmas.Grind.{common_steps}
use Rattle.std.proofs.Common.{eqb-true, eq-eqb, arith}
use Rattle.sc_graph.proofs.Clashing.{init_same, same_init}
use Rattle.sc_graph.proofs.program.Step.initializes.Goals as goal

pub returns-in-Assign : goal.returns-in-Assign
returns-in-Assign c =
    let w = c.in-Assign in (
      λ e. init_same c.args.self.now w.own c.args.variable w.next w.code w.is (eqb-true w.own c.args.variable e),
      λ i. eq-eqb w.own c.args.variable (same_init c.args.self.now w.own c.args.variable w.next w.code w.is i),
    )

pub returns-in_default : goal.returns-in_default
returns-in_default c = grind (arith, common_steps) steps 2000000

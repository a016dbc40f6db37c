use Rattle.std.proofs.Common.{arith, rules}
use Rattle.sc_graph.specs.Costs.{BudgetHolds}
use Rattle.verifier.proofs.Covering.{bounds_kept}
use Rattle.verifier.proofs.bounds.bound_fault.Goals as goal

pub returns-then-budget_holds : goal.returns-then-budget_holds
returns-then-budget_holds c =
    let b : BudgetHolds c.args.program.now c.args.tables.now = search rules in
    bounds_kept c.args.program.now c.args.tables.now b (λ n h. c.loop-n.invariant n (omega (arith, h)))

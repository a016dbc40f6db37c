use Rattle.std.proofs.Common.{ℕ, get_or, arith, below_more}
use Rattle.std.specs.Prelude.{Contains}
use Rattle.program_edges.specs.AlongVariables.{FallsTo}
use Rattle.program_edges.proofs.Variables.{of_each}
use Rattle.priority_weights.proofs.kept.all_fall.Goals as goal

pub loop-m-preserved : goal.loop-m-preserved
loop-m-preserved c =
    let P : ℕ → Type 0 = λ k. (n : ℕ) → Contains c.args.seconds.now n → FallsTo c.args.edges.now c.args.table.now (get_or c.args.firsts.now k 0) n in
    below_more P _ c.loop-m.invariant (c.falls_to_all.ensures c.if-not-falls_to_all.false)

pub returns : goal.returns
returns c =
    let P : ℕ → Type 0 = λ m. (n : ℕ) → Contains c.args.seconds.now n → FallsTo c.args.edges.now c.args.table.now m n in
    let end = c.loop-m-test.false in
    λ yes m n a b. of_each c.args.firsts.now P (λ k h. c.loop-m.invariant k (omega (arith, h, end))) m a n b

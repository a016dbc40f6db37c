use Rattle.std.proofs.Common.{ℕ, get_or, arith, below_more}
use Rattle.std.specs.Prelude.{Contains}
use Rattle.sc_graph.specs.Protocol.{WriteConflict}
use Rattle.program_edges.proofs.Variables.{of_each}
use Rattle.program_edges.proofs.conflicts.conflict_among.Goals as goal

pub loop-m-preserved : goal.loop-m-preserved
loop-m-preserved c =
    let P : ℕ → Type 0 = λ k. (n : ℕ) → Contains c.args.nodes.now n → ¬ WriteConflict c.args.program.now (get_or c.args.nodes.now k 0) n in
    below_more P _ c.loop-m.invariant c.in_default.ensures

pub returns : goal.returns
returns c =
    let P : ℕ → Type 0 = λ m. (n : ℕ) → Contains c.args.nodes.now n → ¬ WriteConflict c.args.program.now m n in
    λ m n a b. of_each c.args.nodes.now P (λ k h. c.loop-m.invariant k (omega (arith, h))) m a n b

use Rattle.std.proofs.Common.{ℕ, ◌≤◌, arith, below_more}
use Rattle.std.specs.Prelude.{slice_index}
use Rattle.sc_graph.specs.Protocol.{Instant}
use Rattle.priority_weights.proofs.kept.instants_kept.Goals as goal

pub loop-node-preserved : goal.loop-node-preserved
loop-node-preserved c =
    let table = c.args.table.now in
    let P : ℕ → Type 0 = λ m. (n : ℕ) → Instant c.args.program.now m n → slice_index table n ≤ slice_index table m in
    below_more P _ c.loop-node.invariant (λ n edge.
    let asked = c.asked_by_instants-asked.ensures.covers n edge in
    let number = c.from-number.ensures in
    let entry = c.entry.ensures in
    let less = c.if-number-asked.false in
    omega (arith, asked, number, entry, less))

pub returns : goal.returns
returns c =
    let end = c.loop-node-test.false in
    λ yes m lt n edge. c.loop-node.invariant m (omega (arith, lt, end)) n edge

use Rattle.std.proofs.Common.{sym, arith}
use Rattle.std.specs.Prelude.{slice_index}
use Rattle.sc_graph.proofs.Nodes.{step_within}
use Rattle.program_edges.proofs.Instantly.{owner_within}
use Rattle.priority_weights.proofs.Rooms.{step_placed}
use Rattle.priority_weights.proofs.Bounding.{cost_small, bound_raised}
use Rattle.priority_weights.proofs.bounds.cover.Goals as goal

pub step_cost-cost-requires : goal.step_cost-cost-requires
step_cost-cost-requires c = (step_placed c.args.program.now c.requires.formed c.args.node c.in-Some-Some.step.now (sym c.in-Some-Some.ensures')).3

pub bounds-bounds-thread : goal.bounds-bounds-thread
bounds-bounds-thread c =
    let lt = owner_within c.args.program.now c.requires.formed c.args.node c.in-Some-Some.thread (sym c.in-Some-Some.ensures) in
    let long = c.requires.under.long in
    omega (arith, lt, long)

pub overflow_cast-bounds : goal.overflow_cast-bounds
overflow_cast-bounds c =
    let p = c.args.program.now in
    let at = sym c.in-Some-Some.ensures' in
    let small = cost_small p c.requires.formed (slice_index c.args.weights.now) c.requires.within c.args.bounds.now c.requires.under c.args.node
    c.in-Some-Some.thread c.in-Some-Some.step.now (step_within p c.args.node c.in-Some-Some.step.now at) (sym c.in-Some-Some.ensures) at in
    let is = c.step_cost-cost.ensures in
    omega (arith, small, is)

pub bounds-bounds-thread-then-from-cost : goal.bounds-bounds-thread-then-from-cost
bounds-bounds-thread-then-from-cost c =
    let lt = owner_within c.args.program.now c.requires.formed c.args.node c.in-Some-Some.thread (sym c.in-Some-Some.ensures) in
    let long = c.requires.under.long in
    omega (arith, lt, long)

pub returns-then-from-cost : goal.returns-then-from-cost
returns-then-from-cost c =
    let p = c.args.program.now in
    let at = sym c.in-Some-Some.ensures' in
    let lt = owner_within p c.requires.formed c.args.node c.in-Some-Some.thread (sym c.in-Some-Some.ensures) in
    let long = c.requires.under.long in
    let less = c.if-from-cost.true in
    let from = c.from.ensures in
    bound_raised p (slice_index c.args.weights.now) c.args.bounds.now c.requires.under c.args.node c.in-Some-Some.thread c.in-Some-Some.step.now
    (step_within p c.args.node c.in-Some-Some.step.now at) (omega (arith, lt, long))
    (sym c.in-Some-Some.ensures) at c.step_cost-cost.result c.step_cost-cost.ensures (omega (arith, less, from))

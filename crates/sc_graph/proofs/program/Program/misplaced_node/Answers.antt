use Rattle.std.proofs.Common.{below_more, arith, ◌<◌, length}
use Rattle.std.proofs.lemmas.Option.{slice_get_within}
use Rattle.sc_graph.proofs.program.Program.misplaced_node.Goals as goal

pub loop-node-preserved : goal.loop-node-preserved
loop-node-preserved c = below_more _ _ c.loop-node.invariant (c.node_stands.ensures.0 c.if-not-node_stands.false)

pub returns : goal.returns
returns c = λ x a there.
    let within : x < length c.args.self.now.nodes = slice_get_within _ x a there in
    c.loop-node.invariant x (omega arith) a there

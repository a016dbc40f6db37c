use Rattle.std.proofs.lemmas.Grind.{elements}
use Rattle.std.proofs.Common.{◌<◌, arith}
use Rattle.least_or_cycle.proofs.Cutting.{cuts_none, cuts_more}
use Rattle.least_or_cycle.proofs.cycles.cycle.Goals as goal

pub loop-node-2-init : goal.loop-node-2-init
loop-node-2-init g c = cuts_none (g.G.Graph.leads c.args.graph.now) c.args.count

pub loop-node-2-preserved : goal.loop-node-2-preserved
loop-node-2-preserved g c =
    let cut = rw c.in-None-2.is at c.in_ok-walk-2.ensures in
    let lt : c.loop-node-2.node < c.args.count = omega arith in
    cuts_more (g.G.Graph.leads c.args.graph.now) c.args.count c.loop-node-2.node lt c.loop-node-2.invariant cut

pub returns-in-Some : goal.returns-in-Some
returns-in-Some g c = grind (arith, elements) steps 2000000

pub loop-node-preserved : goal.loop-node-preserved
loop-node-preserved g c = grind (arith, elements) steps 2000000

pub returns-in-Some-2 : goal.returns-in-Some-2
returns-in-Some-2 g c = grind (arith, elements) steps 2000000

pub returns : goal.returns
returns g c = grind (arith, elements) steps 2000000

use Rattle.sc_graph.proofs.Climbs.{ancestor_decides}
use Rattle.sc_graph.proofs.program.Program.has_few_ancestors.Goals as goal

pub returns : goal.returns
returns c = ancestor_decides c.args.self.now 33 c.args.thread c.ancestor.result c.is_none.result c.is_none.ensures c.ancestor.ensures

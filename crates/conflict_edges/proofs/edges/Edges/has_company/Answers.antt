use Rattle.std.proofs.Common.{sym, subst}
use Rattle.sc_graph.specs.Program.{Program}
use Rattle.sc_graph.specs.Threads.{ConcurrentNodes}
use Rattle.conflict_edges.proofs.edges.Edges.has_company.Goals as goal

pub returns : goal.returns
returns c = λ other together.
    let P : Program → Type 0 = λ q. ConcurrentNodes q c.args.node other in
    c.has_company.ensures other (subst P (sym c.self.view_is) together)

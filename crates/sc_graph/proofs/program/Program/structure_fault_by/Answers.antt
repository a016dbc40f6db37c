use Rattle.sc_graph.proofs.Places.{stands_everywhere}
use Rattle.sc_graph.proofs.program.Program.structure_fault_by.Goals as goal

pub returns-in-None : goal.returns-in-None
returns-in-None c = stands_everywhere c.args.self.now c.in_default.ensures c.in-None.ensures

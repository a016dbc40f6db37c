use Rattle.std.proofs.Common.{rules}
use Rattle.sc_graph.proofs.program.Program.of.Goals as goal

pub invariant_of-result : goal.invariant_of-result
invariant_of-result c = search rules

use Rattle.std.proofs.Common.{rules}
use Rattle.sc_graph.proofs.program.Program.formed_with.Goals as goal

pub returns-then-is_none : goal.returns-then-is_none
returns-then-is_none c = search rules

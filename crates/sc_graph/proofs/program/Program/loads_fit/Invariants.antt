use Rattle.std.proofs.Common.{◌↔◌, drop}
use Rattle.sc_graph.specs.Size.{LoadsFit}
use Rattle.sc_graph.proofs.program.Program.loads_fit.Given as goal

abbrev pub invariant-loop-operation : goal.invariant-loop-operation
invariant-loop-operation l = LoadsFit l.self l.code ↔ LoadsFit l.self (drop l.operation-index l.operation-items)

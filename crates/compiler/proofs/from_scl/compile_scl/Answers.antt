use Rattle.compiler.proofs.Texts.{graph_refused, image_of_graph}
use Rattle.std.proofs.Common.{rules}
use Rattle.compiler.proofs.from_scl.compile_scl.Goals as goal

pub returns-clause-compiled : goal.returns-clause-compiled
returns-clause-compiled c = search (rules, image_of_graph)

pub returns-clause-refused : goal.returns-clause-refused
returns-clause-refused c = search (rules, graph_refused)

pub returns-in_err-tables-clause-refused : goal.returns-in_err-tables-clause-refused
returns-in_err-tables-clause-refused c = search (rules, graph_refused)

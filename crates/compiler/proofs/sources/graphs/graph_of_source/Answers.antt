use Rattle.std.proofs.Common.{IfOk, MatchOption, subst}
use Rattle.scl_graph.specs.Answers.{IsGraph}
use Rattle.compiler.specs.Graphs.{IsGraphless}
use Rattle.compiler.proofs.Making.{made_of}
use Rattle.compiler.proofs.sources.graphs.graph_of_source.Goals as goal

pub returns-clause-made : goal.returns-clause-made
returns-clause-made c =
    made_of c.args.source.now.text c.args.source.now.scl c.reading-reading.result.now c.graph.result c.reading-reading.ensures
    (subst (λ s. IfOk c.graph.result (λ p. MatchOption p (IsGraphless s) (IsGraph s))) c.scl.ensures c.graph.ensures)

use Rattle.std.proofs.Common.{rules}
use Rattle.sc_graph.proofs.AtRest.{rests_as_initial}
use Rattle.sc_graph.proofs.control.Control.initial.Goals as goal

pub returns-clause-rests : goal.returns-clause-rests
returns-clause-rests c = rests_as_initial _ _ (search rules)

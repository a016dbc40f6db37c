use Rattle.scl_graph.proofs.Tallied.{tally_totals}
use Rattle.std.proofs.Common.{rules}
use Rattle.scl_graph.proofs.tallies.known_statement_totals.Goals as goal

pub returns : goal.returns
returns c = search (rules, tally_totals)

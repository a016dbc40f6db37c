use Rattle.scl_graph.proofs.Tallied.{tally_totals}
use Rattle.std.proofs.Common.{rules}
use Rattle.scl_graph.proofs.tallies.known_statement_counts.Goals as goal

pub of-requires : goal.of-requires
of-requires c = search (rules, tally_totals)

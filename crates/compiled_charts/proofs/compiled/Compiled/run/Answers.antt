use Rattle.compiled_charts.proofs.Kept.{run_shows}
use Rattle.std.proofs.Common.{rules}
use Rattle.compiled_charts.proofs.compiled.Compiled.run.Goals as goal

pub returns-clause-reaction : goal.returns-clause-reaction
returns-clause-reaction g c = search (rules, run_shows)

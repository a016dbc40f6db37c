use Rattle.ruled_runs.proofs.Accepted.{gives_inputs}
use Rattle.std.proofs.Common.{rules}
use Rattle.ruled_runs.proofs.traces.session.said_by.Goals as goal

pub returns-then-not-all_named : goal.returns-then-not-all_named
returns-then-not-all_named c = search (rules, gives_inputs)

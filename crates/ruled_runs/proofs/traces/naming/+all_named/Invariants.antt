use Rattle.std.proofs.Common.{length}
use Rattle.ruled_runs.proofs.traces.naming.+all_named.Given as goal

abbrev pub decreases-all_named : goal.decreases-all_named
decreases-all_named l = length l.variables.now

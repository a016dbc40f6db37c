use Rattle.std.proofs.Common.{length}
use Rattle.ruled_runs.proofs.traces.naming.+is_given.Given as goal

abbrev pub decreases-is_given : goal.decreases-is_given
decreases-is_given l = length l.inputs.now

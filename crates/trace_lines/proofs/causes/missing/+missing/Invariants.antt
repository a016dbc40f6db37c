use Rattle.std.proofs.Common.{length}
use Rattle.trace_lines.proofs.causes.missing.+missing.Given as goal

abbrev pub decreases-missing : goal.decreases-missing
decreases-missing l = length l.variables.now

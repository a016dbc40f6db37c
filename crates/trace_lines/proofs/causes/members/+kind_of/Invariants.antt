use Rattle.std.proofs.Common.{length}
use Rattle.trace_lines.proofs.causes.members.+kind_of.Given as goal

abbrev pub decreases-kind_of : goal.decreases-kind_of
decreases-kind_of l = length l.variables.now

use Rattle.trace_lines.proofs.causes.tail.+behind.Given as goal

abbrev pub decreases-behind : goal.decreases-behind
decreases-behind l = l.lines

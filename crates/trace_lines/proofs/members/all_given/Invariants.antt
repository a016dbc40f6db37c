use Rattle.std.proofs.Common.{length}
use Rattle.trace_lines.specs.Inside.Members.{Stands}
use Rattle.trace_lines.specs.Inside.Expected.{AreBehind}
use Rattle.trace_lines.proofs.members.all_given.Given as goal

abbrev pub invariant-members : goal.invariant-members
invariant-members l = record {
  stands : Stands l.variables l.initial.reader l.reader l.found.items;
  behind : AreBehind l.expected.inputs.items l.from l.found.items;
}

abbrev pub decreases-members : goal.decreases-members
decreases-members l = length l.reader

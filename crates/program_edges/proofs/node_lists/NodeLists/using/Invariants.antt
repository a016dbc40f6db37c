use Rattle.std.proofs.Common.{length}
use Rattle.program_edges.specs.Users.{UsesAt}
use Rattle.program_edges.proofs.Gaining.{ListsUpTo}
use Rattle.program_edges.proofs.node_lists.NodeLists.using.Given as goal

abbrev pub invariant-loop-n : goal.invariant-loop-n
invariant-loop-n l = ListsUpTo (length l.program.variables) (UsesAt l.program l.way) l.users l.n

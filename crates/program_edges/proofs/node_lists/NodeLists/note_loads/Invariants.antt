use Rattle.std.proofs.Common.{ℕ, List, drop}
use Rattle.std.specs.Prelude.{Contains}
use Rattle.sc_values.specs.Code.{loads}
use Rattle.program_edges.specs.Users.{Gains}
use Rattle.program_edges.proofs.node_lists.NodeLists.note_loads.Given as goal

abbrev pub invariant-loop-operation : goal.invariant-loop-operation
invariant-loop-operation l =
    (new : List (List ℕ)) → Gains l.self new l.n (Contains (loads (drop l.operation-index l.operation-items))) →
    Gains l.initial.self new l.n (Contains (loads l.operation-items))

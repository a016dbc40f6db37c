-- What is printed of a fault: its number, and the label, the nodes or the place that it names.
use Rattle.std.specs.Prelude.{ℕ, List, ◌++◌, codes}
use Rattle.std.specs.Fmt.{decimal}
use Rattle.abort_expansion.specs.FaultText as expansions
use Rattle.scl_graph.specs.declared.fault.GraphFault.{GraphFault}
use Rattle.scl_graph.specs.declared.fault.GraphFault.TheVariants as graph
use Rattle.conflict_edges.specs.declared.fault.ConflictFault.{ConflictFault}
use Rattle.conflict_edges.specs.declared.fault.ConflictFault.TheVariants as conflict
use Rattle.priority_weights.specs.FaultText as walks
use Rattle.verifier.specs.FaultText as rules
use Rattle.compiler.specs.declared.fault.CompileFault.{CompileFault}
use Rattle.compiler.specs.declared.fault.CompileFault.TheVariants as fault

-- of a text that has no graph
abbrev pub graph_text : GraphFault → List ℕ
graph_text (graph.EmptyLoop label) = codes "E14 " ++ label
graph_text graph.Limit = codes "E07 limit"
graph_text graph.Memory = codes "E52"

-- of two nodes that conflict
abbrev pub conflict_text : ConflictFault → List ℕ
conflict_text (conflict.WriteWrite m n) = codes "E11 " ++ (decimal m ++ (codes " " ++ decimal n))
conflict_text conflict.Memory = codes "E52"

abbrev pub fault_text : CompileFault → List ℕ
fault_text (fault.Expansion f) = expansions.fault_text f
fault_text (fault.Graph f) = graph_text f
fault_text (fault.Conflict f) = conflict_text f
fault_text (fault.Tables f) = walks.fault_text f
fault_text (fault.Rule r) = rules.refusal_text r

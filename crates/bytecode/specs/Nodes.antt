-- Threads and nodes as bytes, each with its entries in the tables.
use Rattle.std.specs.Prelude.{ℕ, Option, Some, None, List, [], ◌∷◌, ◌++◌, length}
use Rattle.std.specs.List.{flat_map}
use Rattle.sc_graph.specs.declared.program.Step.{Step}
use Rattle.sc_graph.specs.declared.program.Step.TheVariants as step
use Rattle.sc_graph.specs.Limits.{no_parent}
use Rattle.bytecode.specs.declared.rows.ThreadRow.{ThreadRow}
use Rattle.bytecode.specs.declared.rows.NodeRow.{NodeRow}
use Rattle.bytecode.specs.Fields.{u16_bytes, u32_bytes, flag_number, combination_number}
use Rattle.bytecode.specs.Codes.{code_bytes}

abbrev pub parent_number : Option ℕ → ℕ
parent_number None = no_parent
parent_number (Some t) = t

-- a thread: its parent, its entry and its bound
unfoldable pub thread_bytes : ThreadRow → List ℕ
thread_bytes t = u16_bytes (parent_number t.thread.parent) ++ u16_bytes t.thread.entry ++ u32_bytes t.bound

-- the tag of a step, and its body
unfoldable pub step_bytes : Step → List ℕ
step_bytes step.Exit = 0 ∷ []
step_bytes (step.Assign variable code next) = 1 ∷ u16_bytes variable ++ u16_bytes next ++ code_bytes code
step_bytes (step.Update variable combine code next) =
    2 ∷ u16_bytes variable ++ combination_number combine ∷ u16_bytes next ++ code_bytes code
step_bytes (step.Cond code target other) = 3 ∷ u16_bytes target ++ u16_bytes other ++ code_bytes code
step_bytes (step.Fork children join) = 4 ∷ u16_bytes join ++ length children ∷ flat_map u16_bytes children
step_bytes (step.Join next) = 5 ∷ u16_bytes next
step_bytes (step.Surf depth) = 6 ∷ u16_bytes depth
step_bytes (step.Depth next) = 7 ∷ u16_bytes next

-- a node: its owner, its priority, its weight, its end bit and its step
unfoldable pub node_bytes : NodeRow → List ℕ
node_bytes n =
    u16_bytes n.node.owner ++ u16_bytes n.priority ++ u16_bytes n.weight
    ++ flag_number n.end_bit ∷ step_bytes n.node.step

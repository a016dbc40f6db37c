-- The layout of an image, field after field, with no gaps.
use Rattle.std.specs.Prelude.{ℕ, ◌≡◌, Bool, List, [], ◌∷◌, ◌++◌, length}
use Rattle.std.specs.List.{flat_map}
use Rattle.sc_graph.specs.declared.program.Thread.{Thread}
use Rattle.sc_graph.specs.declared.program.Node.{Node}
use Rattle.bytecode.specs.Image.{Image}
use Rattle.bytecode.specs.Fields.{u16_bytes, u32_bytes, variable_bytes}
use Rattle.bytecode.specs.declared.rows.ThreadRow.{ThreadRow}
use Rattle.bytecode.specs.declared.rows.NodeRow.{NodeRow}
use Rattle.bytecode.specs.Nodes.{thread_bytes, node_bytes}

-- each thread with its bound
abbrev pub thread_rows : List Thread → List ℕ → List ThreadRow
thread_rows (t ∷ threads) (b ∷ bounds) = record { thread = t; bound = b } ∷ thread_rows threads bounds
thread_rows threads bounds = []

-- each node with its priority, its weight and its end bit
abbrev pub node_rows : List Node → List ℕ → List ℕ → List Bool → List NodeRow
node_rows (n ∷ nodes) (p ∷ priorities) (w ∷ weights) (e ∷ end_bits) =
    record { node = n; priority = p; weight = w; end_bit = e } ∷ node_rows nodes priorities weights end_bits
node_rows nodes priorities weights end_bits = []

abbrev pub rows_of_threads : Image → List ThreadRow
rows_of_threads i = thread_rows i.program.threads i.tables.bounds

abbrev pub rows_of_nodes : Image → List NodeRow
rows_of_nodes i = node_rows i.program.nodes i.tables.priorities i.tables.weights i.tables.end_bits

-- `SCCB`
abbrev pub magic : List ℕ
magic = 83 ∷ 67 ∷ 67 ∷ 66 ∷ []

-- the bytes begin with the magic and this version
abbrev pub HasHeader : ℕ → List ℕ → Type 0
HasHeader version bytes = (rest : List ℕ) × (bytes ≡ magic ++ version ∷ rest)

-- what stands behind the version
unfoldable pub body_bytes : Image → List ℕ
body_bytes i =
    u16_bytes (length i.program.variables) ++ flat_map variable_bytes i.program.variables
    ++ u16_bytes (length i.program.threads) ++ flat_map thread_bytes (rows_of_threads i)
    ++ u16_bytes (length i.program.nodes) ++ flat_map node_bytes (rows_of_nodes i)
    ++ u32_bytes i.tables.budget

-- the bytes of an image in this version of the layout
unfoldable pub spelling : ℕ → Image → List ℕ
spelling version i = magic ++ version ∷ body_bytes i

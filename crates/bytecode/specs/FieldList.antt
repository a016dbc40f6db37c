-- The fields of an image from the left, each by its bytes.
use Rattle.std.specs.Prelude.{ℕ, List, [], ◌∷◌, ◌++◌, length}
use Rattle.std.specs.List.{flat_map}
use Rattle.std.specs.Int.{w32, cast_unsigned}
use Rattle.sc_values.specs.declared.value.Value.TheVariants as value
use Rattle.sc_values.specs.declared.operation.Operation.{Operation}
use Rattle.sc_values.specs.declared.operation.Operation.TheVariants as op
use Rattle.sc_values.specs.declared.operator.UnaryOperator.{UnaryOperator}
use Rattle.sc_values.specs.declared.operator.UnaryOperator.TheVariants as unary
use Rattle.sc_graph.specs.declared.program.Variable.{Variable}
use Rattle.sc_graph.specs.declared.program.Step.{Step}
use Rattle.sc_graph.specs.declared.program.Step.TheVariants as step
use Rattle.bytecode.specs.declared.rows.ThreadRow.{ThreadRow}
use Rattle.bytecode.specs.declared.rows.NodeRow.{NodeRow}
use Rattle.bytecode.specs.Image.{Image}
use Rattle.bytecode.specs.Fields.{u16_bytes, u32_bytes, flag_number, role_number, kind_number, combination_number}
use Rattle.bytecode.specs.Codes.{unary_number, binary_number, divisor_bytes}
use Rattle.bytecode.specs.Nodes.{parent_number}
use Rattle.bytecode.specs.Layout.{magic, rows_of_threads, rows_of_nodes}

-- a field of one byte
abbrev pub byte : ℕ → List ℕ
byte n = n ∷ []

abbrev pub variable_fields : Variable → List (List ℕ)
variable_fields v = byte (role_number v.role) ∷ byte (kind_number v.kind) ∷ byte (length v.name) ∷ v.name ∷ []

abbrev pub thread_fields : ThreadRow → List (List ℕ)
thread_fields t = u16_bytes (parent_number t.thread.parent) ∷ u16_bytes t.thread.entry ∷ u32_bytes t.bound ∷ []

abbrev pub divisor_fields : UnaryOperator → List (List ℕ)
divisor_fields (unary.Divide d) = divisor_bytes d ∷ []
divisor_fields (unary.Remainder d) = divisor_bytes d ∷ []
divisor_fields f = []

abbrev pub operation_fields : Operation → List (List ℕ)
operation_fields (op.Literal (value.Bool b)) = byte 0 ∷ byte (flag_number b) ∷ []
operation_fields (op.Literal (value.Int n)) = byte 1 ∷ u32_bytes (cast_unsigned w32 n) ∷ []
operation_fields (op.Load x) = byte 2 ∷ u16_bytes x ∷ []
operation_fields (op.Unary f) = byte (unary_number f) ∷ divisor_fields f
operation_fields (op.Binary f) = byte (binary_number f) ∷ []

abbrev pub code_fields : List Operation → List (List ℕ)
code_fields code = byte (length code) ∷ flat_map operation_fields code

abbrev pub step_fields : Step → List (List ℕ)
step_fields step.Exit = byte 0 ∷ []
step_fields (step.Assign variable code next) = byte 1 ∷ u16_bytes variable ∷ u16_bytes next ∷ code_fields code
step_fields (step.Update variable combine code next) =
    byte 2 ∷ u16_bytes variable ∷ byte (combination_number combine) ∷ u16_bytes next ∷ code_fields code
step_fields (step.Cond code target other) = byte 3 ∷ u16_bytes target ∷ u16_bytes other ∷ code_fields code
step_fields (step.Fork children join) =
    byte 4 ∷ u16_bytes join ∷ byte (length children) ∷ flat_map (λ t. u16_bytes t ∷ []) children
step_fields (step.Join next) = byte 5 ∷ u16_bytes next ∷ []
step_fields (step.Surf depth) = byte 6 ∷ u16_bytes depth ∷ []
step_fields (step.Depth next) = byte 7 ∷ u16_bytes next ∷ []

abbrev pub node_fields : NodeRow → List (List ℕ)
node_fields n =
    u16_bytes n.node.owner ∷ u16_bytes n.priority ∷ u16_bytes n.weight ∷ byte (flag_number n.end_bit)
    ∷ step_fields n.node.step

-- all fields of an image
abbrev pub fields : ℕ → Image → List (List ℕ)
fields version i =
    magic ∷ byte version
    ∷ u16_bytes (length i.program.variables) ∷ flat_map variable_fields i.program.variables
    ++ u16_bytes (length i.program.threads) ∷ flat_map thread_fields (rows_of_threads i)
    ++ u16_bytes (length i.program.nodes) ∷ flat_map node_fields (rows_of_nodes i)
    ++ u32_bytes i.tables.budget ∷ []

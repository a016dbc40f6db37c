-- The fields of an image. A number has two or four bytes, the lowest first. A choice is one byte.
use Rattle.std.specs.Prelude.{ℕ, Bool, true, false, List, ◌∷◌, length}
use Rattle.std.specs.Int.{w16, w32, to_le_bytes}
use Rattle.sc_values.specs.declared.value.Kind.{Kind}
use Rattle.sc_values.specs.declared.value.Kind.TheVariants as kind
use Rattle.sc_values.specs.declared.operator.Combination.{Combination}
use Rattle.sc_values.specs.declared.operator.Combination.TheVariants as combine
use Rattle.sc_graph.specs.declared.program.Role.{Role}
use Rattle.sc_graph.specs.declared.program.Role.TheVariants as role
use Rattle.sc_graph.specs.declared.program.Variable.{Variable}

unfoldable pub u16_bytes : ℕ → List ℕ
u16_bytes n = to_le_bytes w16 n

unfoldable pub u32_bytes : ℕ → List ℕ
u32_bytes n = to_le_bytes w32 n

abbrev pub flag_number : Bool → ℕ
flag_number false = 0
flag_number true = 1

abbrev pub role_number : Role → ℕ
role_number role.Input = 0
role_number role.Output = 1
role_number role.Local = 2

abbrev pub kind_number : Kind → ℕ
kind_number kind.Bool = 0
kind_number kind.Int = 1

abbrev pub combination_number : Combination → ℕ
combination_number combine.Add = 0
combination_number combine.Multiply = 1
combination_number combine.Min = 2
combination_number combine.Max = 3
combination_number combine.And = 4
combination_number combine.Or = 5

-- a name: its length in one byte, and its bytes
unfoldable pub name_bytes : List ℕ → List ℕ
name_bytes name = length name ∷ name

-- a variable: role, kind and name
unfoldable pub variable_bytes : Variable → List ℕ
variable_bytes v = role_number v.role ∷ kind_number v.kind ∷ name_bytes v.name

-- Variables as rows of numbers.
use Rattle.std.specs.Prelude.{ℕ, length}
use Rattle.sc_values.specs.declared.value.Kind.{Kind}
use Rattle.sc_values.specs.declared.value.Kind.TheVariants as kind
use Rattle.sc_graph.specs.declared.program.Variable.{Variable}
use Rattle.sc_graph.specs.declared.program.Role.{Role}
use Rattle.sc_graph.specs.declared.program.Role.TheVariants as role
use Rattle.embedded_machine.specs.declared.rows.VariableRow.{VariableRow}

abbrev pub kind_cell : Kind → ℕ
kind_cell kind.Bool = 0
kind_cell kind.Int = 1

abbrev pub role_cell : Role → ℕ
role_cell role.Input = 0
role_cell role.Output = 1
role_cell role.Local = 2

abbrev pub row_of : Variable → VariableRow
row_of x = record { kind = kind_cell x.kind; role = role_cell x.role; name_length = length x.name }

-- The words of a variable's kind and role.
use Rattle.std.specs.Prelude.{ℕ, List, codes}
use Rattle.sc_values.specs.declared.value.Kind.{Kind}
use Rattle.sc_values.specs.declared.value.Kind.TheVariants as kind
use Rattle.sc_graph.specs.declared.program.Role.{Role}
use Rattle.sc_graph.specs.declared.program.Role.TheVariants as role

abbrev pub kind_text : Kind → List ℕ
kind_text kind.Bool = codes "bool"
kind_text kind.Int = codes "int"

abbrev pub role_text : Role → List ℕ
role_text role.Input = codes "input"
role_text role.Output = codes "output"
role_text role.Local = codes "local"

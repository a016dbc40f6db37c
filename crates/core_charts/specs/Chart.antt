-- What contracts see of a chart.
use Rattle.std.specs.Prelude.{ℕ, List}
use Rattle.sc_graph.specs.declared.program.Variable.{Variable}
use Rattle.core_charts.specs.declared.region.Region.{Region}

pub record Chart : Type 0 where
  pub name : List ℕ
  pub variables : List Variable
  pub regions : List Region

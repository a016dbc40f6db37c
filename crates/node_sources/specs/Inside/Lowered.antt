-- What the extended chart of a text is reduced to, on its way to a program.
use Rattle.std.specs.Prelude.{ℕ, ◌≡◌, List}
use Rattle.core_charts.specs.declared.features.Features.TheVariants as features
use Rattle.core_charts.specs.Rules.{IsChart}
use Rattle.abort_expansion.specs.Expansion.{expanded}
use Rattle.compiler.specs.Charts.{IsSclOf}
use Rattle.node_sources.specs.ExtendedRead.{IsAuthorPlaced}
use Rattle.node_sources.specs.declared.extended.lowered.Lowered.{Lowered}

pub record IsLowered (text : List ℕ) (l : Lowered) : Type 0 where
  pub placed : IsAuthorPlaced text l.placed.chart l.placed.origins l.placed.places
  pub rules : IsChart features.Extended l.placed.chart
  pub core : l.core ≡ expanded l.placed.chart
  pub lowers : IsSclOf l.placed.chart l.scl

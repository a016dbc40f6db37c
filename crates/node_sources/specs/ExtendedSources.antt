-- The program of the chart to which the extended chart of a text is reduced, and where its nodes come from in that text.
use Rattle.std.specs.Prelude.{ℕ, ◌≡◌, Option, List}
use Rattle.sc_graph.specs.Program.{Program}
use Rattle.scl.specs.declared.program.Scl.{Scl}
use Rattle.scl_graph.specs.Answers.{IsGraph}
use Rattle.core_charts.specs.declared.features.Features.TheVariants as features
use Rattle.core_charts.specs.Chart.{Chart}
use Rattle.core_charts.specs.Rules.{IsChart}
use Rattle.node_sources.specs.declared.chart_places.places.Places.{Places}
use Rattle.compiler.specs.Charts.{IsSclOf}
use Rattle.node_sources.specs.declared.extended.text_places.origins.AuthorOrigins.{AuthorOrigins}
use Rattle.node_sources.specs.ExtendedRead.{IsAuthorPlaced}
use Rattle.node_sources.specs.declared.extended.node.AuthorNode.{AuthorNode}
use Rattle.node_sources.specs.Nodes.{author_nodes}

-- the extended chart of the text is reduced to a chart, whose program this is, and each node has its place among the author's elements
pub record AreAuthorSources (text : List ℕ) (p : Program) (nodes : List (Option AuthorNode)) : Type 0 where
  pub chart : Chart
  pub origins : AuthorOrigins
  pub places : Places
  pub placed : IsAuthorPlaced text chart origins places
  pub rules : IsChart features.Extended chart
  pub scl : Scl
  pub lowers : IsSclOf chart scl
  pub graph : IsGraph scl p
  pub each : nodes ≡ author_nodes chart origins places p

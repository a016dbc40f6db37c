-- Where a label of the SCL program of a reduced chart comes from in the author's text: the lowering makes it for an element of the
-- reduced chart, and that comes from one of the author's.
use Rattle.std.specs.Prelude.{ℕ, ◌≡◌, Option, Some, None, List, map, slice_get}
use Rattle.scl.specs.declared.program.Scl.{Scl}
use Rattle.core_charts.specs.Chart.{Chart}
use Rattle.core_charts.specs.declared.elements.element.Element.{Element}
use Rattle.node_sources.specs.declared.chart_places.places.Places.{Places}
use Rattle.abort_expansion.specs.Expansion.{expanded}
use Rattle.compiler.specs.Charts.{IsSclOf}
use Rattle.node_elements.specs.LoweringOrigins.{point_origins}
use Rattle.node_elements.specs.ExpansionOrigins.{expansion_origins}
use Rattle.node_elements.specs.Origins.{through}
use Rattle.node_sources.specs.Labels.{IsLabel, label_part}
use Rattle.node_sources.specs.declared.extended.text_places.origins.AuthorOrigins.{AuthorOrigins}
use Rattle.node_sources.specs.Origins.{origin_of}
use Rattle.node_sources.specs.ExtendedRead.{IsAuthorPlaced}
use Rattle.node_sources.specs.declared.extended.node.AuthorNode.{AuthorNode}
use Rattle.node_sources.specs.Nodes.{in_author}

-- a label that is made for an element of the reduced chart
abbrev pub author_label : AuthorOrigins → Places → Option (Option Element) → Option AuthorNode
author_label os p (Some (Some e)) = in_author p (label_part e) (origin_of os e)
author_label os p (Some None) = None
author_label os p None = None

-- the extended chart of the text is reduced to a chart, in whose SCL program a label of this name comes from there
pub record IsAuthorLabel (text name : List ℕ) (node : AuthorNode) : Type 0 where
  pub chart : Chart
  pub origins : AuthorOrigins
  pub places : Places
  pub placed : IsAuthorPlaced text chart origins places
  pub scl : Scl
  pub lowers : IsSclOf chart scl
  pub number : ℕ
  pub label : IsLabel scl name number
  pub is :
      author_label origins places (slice_get (map (through (expansion_origins chart)) (point_origins (expanded chart))) number) ≡ Some node

-- When a chart is lowered so, a program has these sources, and a label this place.
use Rattle.std.proofs.Common.{◌≡◌, ℕ, Option, Some, None, IfSome, List, map, slice_get, sym, ap, ◌∙◌}
use Rattle.sc_graph.specs.Program.{Program}
use Rattle.core_charts.specs.declared.features.Features.TheVariants as features
use Rattle.core_charts.specs.Rules.{IsChart}
use Rattle.abort_expansion.specs.Expansion.{expanded}
use Rattle.compiler.specs.Charts.{IsSclOf}
use Rattle.node_sources.specs.ExtendedRead.{IsAuthorPlaced}
use Rattle.scl_graph.specs.Answers.{IsGraph}
use Rattle.core_charts.specs.declared.elements.element.Element.{Element}
use Rattle.node_elements.specs.LoweringOrigins.{point_origins}
use Rattle.node_elements.specs.ExpansionOrigins.{expansion_origins}
use Rattle.node_elements.specs.Origins.{through}
use Rattle.node_sources.specs.Labels.{IsLabel}
use Rattle.node_sources.specs.declared.extended.lowered.Lowered.{Lowered}
use Rattle.node_sources.specs.declared.extended.node.AuthorNode.{AuthorNode}
use Rattle.node_sources.specs.Inside.Lowered.{IsLowered}
use Rattle.node_sources.specs.ExtendedLabels.{IsAuthorLabel, author_label}
use Rattle.node_sources.specs.Nodes.{author_nodes}
use Rattle.node_sources.specs.ExtendedSources.{AreAuthorSources}

pub is_lowered : (text : List ℕ) (l : Lowered) → IsAuthorPlaced text l.placed.chart l.placed.origins l.placed.places
    → IsChart features.Extended l.placed.chart → l.core ≡ expanded l.placed.chart → IsSclOf l.placed.chart l.scl → IsLowered text l
is_lowered text l placed rules core lowers = record { placed = placed; rules = rules; core = core; lowers = lowers }

pub are_sources : (text : List ℕ) (l : Lowered) (p : Program) (nodes : List (Option AuthorNode)) → IsLowered text l → IsGraph l.scl p
    → nodes ≡ author_nodes l.placed.chart l.placed.origins l.placed.places p → AreAuthorSources text p nodes
are_sources text l p nodes is graph each = record {
  chart = l.placed.chart;
  origins = l.placed.origins;
  places = l.placed.places;
  placed = is.placed;
  rules = is.rules;
  scl = l.scl;
  lowers = is.lowers;
  graph = graph;
  each = each;
}

pub is_label : (text name : List ℕ) (l : Lowered) (k : ℕ) (elements : List (Option Element)) (r : Option AuthorNode) → IsLowered text l
    → IsLabel l.scl name k → elements ≡ map (through (expansion_origins l.placed.chart)) (point_origins l.core)
    → r ≡ author_label l.placed.origins l.placed.places (slice_get elements k) → IfSome r (IsAuthorLabel text name)
is_label text name l k elements None is label made told = tt
is_label text name l k elements (Some node) is label made told = record {
  chart = l.placed.chart;
  origins = l.placed.origins;
  places = l.placed.places;
  placed = is.placed;
  scl = l.scl;
  lowers = is.lowers;
  number = k;
  label = label;
  is =
      ap (λ core. author_label l.placed.origins l.placed.places (slice_get (map (through (expansion_origins l.placed.chart)) (point_origins core)) k))
      (sym is.core)
      ∙ ap (λ es. author_label l.placed.origins l.placed.places (slice_get es k)) (sym made) ∙ sym told;
}

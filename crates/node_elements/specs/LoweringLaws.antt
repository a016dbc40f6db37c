-- What the origins of a lowering tell: from the element of its origin each point comes that does what it does.
use Rattle.std.specs.Prelude.{ℕ, ◌≡◌, ◌<◌, Some, length, slice_get}
use Rattle.core_charts.specs.declared.features.Features.TheVariants as features
use Rattle.core_charts.specs.declared.region.Transition.{Transition}
use Rattle.core_charts.specs.Chart.{Chart}
use Rattle.core_charts.specs.Rules.{IsChart}
use Rattle.chart_lowering.specs.Lowering.{lowered}
use Rattle.node_elements.specs.Points.{Point, Assigns, Marks, Jumps, Pauses, Tests, Forks, Ends, text_points}
use Rattle.core_charts.specs.declared.elements.element.Element.{Element}
use Rattle.core_charts.specs.declared.elements.element.Element.TheVariants as element
use Rattle.core_charts.specs.Elements.{Contents, all_effects, contents}
use Rattle.node_elements.specs.LoweringOrigins.{point_origins}

-- ---- origins

-- an assignment comes from the effect that makes it, a test from the transition with this trigger, a goto from a transition
-- or a state, a label from a state or a region, a pause from a state, a fork from a state or the chart, and the end of a
-- thread from a region or the chart; each of these is there
abbrev pub IsFrom : Contents → Element → Point → Type 0
IsFrom all (element.Effect n) (Assigns x e) = slice_get (all_effects all.transitions) n ≡ Some (record { variable = x; value = e })
IsFrom all (element.Transition n) (Tests e) = (t : Transition) × (slice_get all.transitions n ≡ Some t) × (t.trigger ≡ Some e)
IsFrom all (element.Transition n) (Jumps name) = n < length all.transitions
IsFrom all (element.State n) (Jumps name) = n < length all.states
IsFrom all (element.State n) (Marks name) = n < length all.states
IsFrom all (element.State n) Pauses = n < length all.states
IsFrom all (element.State n) Forks = n < length all.states
IsFrom all (element.Region n) (Marks name) = n < length all.regions
IsFrom all (element.Region n) Ends = n < length all.regions
IsFrom all element.Chart Forks = Unit {0}
IsFrom all element.Chart Ends = Unit {0}
IsFrom all o p = ⊥

-- there are as many origins as points of the lowering, and each point comes from its origin
pub record TellsPoints (c : Chart) : Type 0 where
  pub each : length (point_origins c) ≡ length (text_points (lowered c))
  pub comes : (k : ℕ) (o : Element) (p : Point) → slice_get (point_origins c) k ≡ Some o →
      slice_get (text_points (lowered c)) k ≡ Some p → IsFrom (contents c) o p

abbrev pub OriginsTellPoints : Type 0
OriginsTellPoints = (c : Chart) → IsChart features.Core c → TellsPoints c

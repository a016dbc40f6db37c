-- What the origins of an expansion tell: there are as many as elements of the core chart, each is an element of the chart,
-- and what it becomes keeps its name, or makes its assignment.
use Rattle.std.specs.Prelude.{ℕ, ◌≡◌, ◌<◌, Bool, false, true, Option, Some, None, List, [], ◌∷◌, map, length, slice_get, ◌==◌}
use Rattle.core_charts.specs.declared.features.Features.TheVariants as features
use Rattle.core_charts.specs.declared.region.Effect.{Effect}
use Rattle.core_charts.specs.declared.region.Transition.{Transition}
use Rattle.core_charts.specs.Chart.{Chart}
use Rattle.core_charts.specs.Rules.{IsChart}
use Rattle.core_charts.specs.declared.elements.element.Element.{Element}
use Rattle.core_charts.specs.declared.elements.element.Element.TheVariants as element
use Rattle.core_charts.specs.Elements.{Contents, all_effects, all_transitions, contents, region_names, state_names}
use Rattle.abort_expansion.specs.Expansion.{expanded, state_map}
use Rattle.abort_expansion.specs.StateMap.{chart_state}
use Rattle.node_elements.specs.ExpansionOrigins.{expansion_origins}

-- a name that expansion adds: it begins with `_`, as none of a text does
abbrev pub is_added : List ℕ → Bool
is_added [] = false
is_added (first ∷ rest) = first == 95

-- ---- what comes from what, in a chart with these elements

-- a region: one of the chart of the same name, or from an abort, whose monitor it is
abbrev pub RegionFrom : Contents → Element → List ℕ → Type 0
RegionFrom all (element.Region n) name = slice_get all.regions n ≡ Some name
RegionFrom all (element.Transition n) name = (is_added name ≡ true) × (n < length all.transitions)
RegionFrom all other name = ⊥

-- a state: from one of the chart, of the same name if none was added; or from an abort, whose monitor it is in; or from a
-- region, which it ends where that is left
abbrev pub StateFrom : Contents → Element → List ℕ → Type 0
StateFrom all (element.State n) name = (n < length all.states) × (is_added name ≡ false → slice_get all.states n ≡ Some name)
StateFrom all (element.Transition n) name = (is_added name ≡ true) × (n < length all.transitions)
StateFrom all (element.Region n) name = (is_added name ≡ true) × (n < length all.regions)
StateFrom all other name = ⊥

-- a transition: from one of the chart, or from a state
abbrev pub TransitionFrom : Contents → Element → Transition → Type 0
TransitionFrom all (element.Transition n) t = n < length all.transitions
TransitionFrom all (element.State n) t = n < length all.states
TransitionFrom all other t = ⊥

-- an effect: from the one that makes the same assignment, or an assignment to a flag or a counter, from a transition or a
-- state
abbrev pub EffectFrom : Contents → Element → Effect → Type 0
EffectFrom all (element.Effect n) e = slice_get (all_effects all.transitions) n ≡ Some e
EffectFrom all (element.Transition n) e = n < length all.transitions
EffectFrom all (element.State n) e = n < length all.states
EffectFrom all other e = ⊥

-- ---- the law

-- there are as many origins as these, and each comes from its own
pub record Tells {A : Type 0} (From : Element → A → Type 0) (origins : List Element) (those : List A) : Type 0 where
  pub each : length origins ≡ length those
  pub comes : (k : ℕ) (o : Element) (x : A) → slice_get origins k ≡ Some o → slice_get those k ≡ Some x → From o x

-- the state of the chart from which a state comes
abbrev pub state_of : Element → Option ℕ
state_of (element.State n) = Some n
state_of other = None

-- a core state of this number stands for the chart's state of this name
pub record StandsForNamed (c : Chart) (core : ℕ) (name : List ℕ) : Type 0 where
  pub state : ℕ
  pub stands : chart_state (state_map c) core ≡ Some state
  pub named : slice_get (state_names c) state ≡ Some name

pub record TellsExpansion (c : Chart) : Type 0 where
  pub regions : Tells (RegionFrom (contents c)) (expansion_origins c).regions (region_names (expanded c))
  pub states : Tells (StateFrom (contents c)) (expansion_origins c).states (state_names (expanded c))
  pub transitions : Tells (TransitionFrom (contents c)) (expansion_origins c).transitions (all_transitions (expanded c))
  pub effects : Tells (EffectFrom (contents c)) (expansion_origins c).effects (all_effects (all_transitions (expanded c)))
  -- the states from which those of the core chart come are those for which they stand
  pub stand : state_map c ≡ map state_of (expansion_origins c).states
  pub named : (k : ℕ) (name : List ℕ) → slice_get (state_names (expanded c)) k ≡ Some name → is_added name ≡ false →
      StandsForNamed c k name

abbrev pub OriginsTellExpansion : Type 0
OriginsTellExpansion = (c : Chart) → IsChart features.Extended c → TellsExpansion c

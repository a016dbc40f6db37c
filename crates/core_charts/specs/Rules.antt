-- The rules and limits of charts: of those that texts spell, and of those that the expansion of aborts leaves.
use Rattle.std.specs.Prelude.{ℕ, zero, suc, ◌≡◌, ◌≢◌, ◌≤◌, ◌<◌, Bool, true, false, not, IsTrue, Option, Some, None, List, [], ◌∷◌, map, slice_get, length}
use Rattle.std.specs.Prelude.{count_by}
use Rattle.sc_values.specs.declared.value.Kind.{Kind}
use Rattle.sc_values.specs.declared.value.Kind.TheVariants as of_kind
use Rattle.sc_graph.specs.declared.program.Variable.{Variable}
use Rattle.sc_graph.specs.declared.program.Role.TheVariants as role
use Rattle.sc_text.specs.declared.language.Language.{Language}
use Rattle.sc_text.specs.declared.language.Language.TheVariants as languages
use Rattle.sc_text.specs.Parts.{IsNameIn, IsExpression, AreVariables, are_distinct}
use Rattle.sc_values.specs.declared.expression.Expr.{Expr}
use Rattle.core_charts.specs.declared.features.Features.{Features}
use Rattle.core_charts.specs.declared.features.Features.TheVariants as features
use Rattle.core_charts.specs.declared.region.Effect.{Effect}
use Rattle.core_charts.specs.declared.region.Transition.{Transition}
use Rattle.core_charts.specs.declared.region.TransitionKind.{TransitionKind}
use Rattle.core_charts.specs.declared.region.TransitionKind.TheVariants as kind
use Rattle.core_charts.specs.declared.region.Region.{Region}
use Rattle.core_charts.specs.declared.region.State.{State}
use Rattle.core_charts.specs.declared.region.Region.TheViews.{out-Region, out-State}
use Rattle.core_charts.specs.Chart.{Chart}
use Rattle.core_charts.specs.Tests.{is_join}

-- charts that expansion leaves have names of its own, which begin with `_` as those of SCL may
abbrev pub language : Features → Language
language features.Extended = languages.Chart
language features.Core = languages.Scl

-- what a text may have: regions of a superstate, states of a region, transitions of a state, effects of a transition
abbrev pub region_text_limit : ℕ
region_text_limit = 63

abbrev pub state_text_limit : ℕ
state_text_limit = 256

abbrev pub transition_text_limit : ℕ
transition_text_limit = 64

abbrev pub effect_text_limit : ℕ
effect_text_limit = 16

-- the regions of a superstate, as which the chart counts
abbrev pub region_limit : Features → ℕ
region_limit features.Extended = region_text_limit
region_limit features.Core = 64

-- the states of a region
abbrev pub state_limit : Features → Option ℕ
state_limit features.Extended = Some state_text_limit
state_limit features.Core = None

-- the transitions of a state
abbrev pub transition_limit : Features → Option ℕ
transition_limit features.Extended = Some transition_text_limit
transition_limit features.Core = None

-- the effects of a transition
abbrev pub effect_limit : Features → Option ℕ
effect_limit features.Extended = Some effect_text_limit
effect_limit features.Core = None

-- how deep regions nest; a region of the chart is 1 deep
abbrev pub depth_limit : ℕ
depth_limit = 32

-- how deep they nest inside a region of the chart
abbrev pub inner_depth_limit : ℕ
inner_depth_limit = 31

-- the expansion leaves no aborts
abbrev pub allows : Features → TransitionKind → Bool
allows features.Core kind.Strong = false
allows features.Core kind.Weak = false
allows f other = true

abbrev pub IsWithin : Option ℕ → ℕ → Type 0
IsWithin None n = Unit {0}
IsWithin (Some limit) n = n ≤ limit

abbrev pub kinds_of : List Variable → List Kind
kinds_of variables = map (λ x. x.kind) variables

-- an assignment to a variable that is no input, of a value of its kind
pub record IsEffect (variables : List Variable) (e : Effect) : Type 0 where
  pub target : Variable
  pub is_target : slice_get variables e.variable ≡ Some target
  pub no_input : target.role ≢ role.Input
  pub value : IsExpression (kinds_of variables) target.kind e.value

-- simple states have transitions by `go`, superstates aborts and terminations
abbrev pub fits_state : Bool → TransitionKind → Bool
fits_state is_superstate kind.Go = not is_superstate
fits_state is_superstate other = is_superstate

-- a transition of a state, simple or not, of a region with this many states. A termination is tested with nothing
-- but the end of all regions
pub record IsTransition (f : Features) (variables : List Variable) (states : ℕ) (is_superstate : Bool)
    (t : Transition) : Type 0 where
  pub allowed : IsTrue (allows f t.kind)
  pub fits : IsTrue (fits_state is_superstate t.kind)
  pub plain_join : t.kind ≡ kind.Join → (t.immediate ≡ false) × (t.trigger ≡ None)
  pub trigger : (e : Expr) → t.trigger ≡ Some e → IsExpression (kinds_of variables) of_kind.Bool e
  pub effect_count : IsWithin (effect_limit f) (length t.effects)
  pub effects : (i : ℕ) (e : Effect) → slice_get t.effects i ≡ Some e → IsEffect variables e
  pub target : t.target < states

abbrev pub has_regions : List Region → Bool
has_regions [] = false
has_regions (r ∷ regions) = true

-- a final state has neither regions nor transitions
abbrev pub IsBareIfFinal : State → Type 0
IsBareIfFinal s = (out-State s).is_final ≡ true → ((out-State s).regions ≡ []) × ((out-State s).transitions ≡ [])

-- a state of a region with this many states, whose own regions keep their rules
pub record IsState (f : Features) (variables : List Variable) (AreInside : List Region → Type 0) (states : ℕ)
    (s : State) : Type 0 where
  pub named : IsNameIn (language f) (out-State s).name
  pub bare : IsBareIfFinal s
  pub regions : AreInside (out-State s).regions
  pub transition_count : IsWithin (transition_limit f) (length (out-State s).transitions)
  pub one_join : count_by (λ t. is_join t.kind) (out-State s).transitions ≤ 1
  pub transitions : (i : ℕ) (t : Transition) → slice_get (out-State s).transitions i ≡ Some t →
      IsTransition f variables states (has_regions (out-State s).regions) t

-- a region, of whose states the own regions keep their rules: exactly one of its states is initial
pub record IsRegion (f : Features) (variables : List Variable) (AreInside : List Region → Type 0)
    (r : Region) : Type 0 where
  pub named : IsNameIn (language f) (out-Region r).name
  pub state_count : IsWithin (state_limit f) (length (out-Region r).states)
  pub one_initial : count_by (λ s. (out-State s).is_initial) (out-Region r).states ≡ 1
  pub distinct : IsTrue (are_distinct (map (λ s. (out-State s).name) (out-Region r).states))
  pub states : (i : ℕ) (s : State) → slice_get (out-Region r).states i ≡ Some s →
      IsState f variables AreInside (length (out-Region r).states) s

-- the regions of one superstate
pub record AreSideBySide (f : Features) (variables : List Variable) (AreInside : List Region → Type 0)
    (regions : List Region) : Type 0 where
  pub count : length regions ≤ region_limit f
  pub distinct : IsTrue (are_distinct (map (λ r. (out-Region r).name) regions))
  pub each : (i : ℕ) (r : Region) → slice_get regions i ≡ Some r → IsRegion f variables AreInside r

-- regions of one superstate that nest this many levels deep at most
abbrev pub AreRegions : Features → List Variable → ℕ → List Region → Type 0
AreRegions f variables zero regions = regions ≡ []
AreRegions f variables (suc levels) regions = AreSideBySide f variables (AreRegions f variables levels) regions

pub record IsChart (f : Features) (c : Chart) : Type 0 where
  pub named : IsNameIn (language f) c.name
  pub variables : AreVariables (language f) c.variables
  pub some_region : c.regions ≢ []
  pub regions : AreRegions f c.variables depth_limit c.regions

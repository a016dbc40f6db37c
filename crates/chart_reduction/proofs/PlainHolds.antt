-- In a chart no termination has a trigger: each superstate keeps its regions.
use Rattle.std.proofs.Common.{◌≡◌, ℕ, Option, None, List, [], ◌∷◌, map, length, refl, sym, ap, ◌∙◌, if◌then◌else◌}
use Rattle.sc_graph.specs.declared.program.Variable.{Variable}
use Rattle.sc_values.specs.declared.expression.Expr.{Expr}
use Rattle.sc_text.proofs.EachItem.{Each, each_more}
use Rattle.core_charts.specs.Tests.{is_join}
use Rattle.core_charts.specs.declared.region.Transition.{Transition}
use Rattle.core_charts.specs.declared.region.TransitionKind.{TransitionKind}
use Rattle.core_charts.specs.declared.region.TransitionKind.TheVariants as kind
use Rattle.core_charts.specs.declared.region.Region.{Region}
use Rattle.core_charts.specs.declared.region.State.{State}
use Rattle.core_charts.specs.declared.region.Region.TheViews.{out-Region, out-State}
use Rattle.extended_charts.specs.declared.extended.ExtendedRegion.{ExtendedRegion}
use Rattle.extended_charts.specs.declared.extended.ExtendedState.{ExtendedState}
use Rattle.extended_charts.specs.declared.extended.ExtendedRegion.TheViews.{roll-ExtendedRegion, roll-ExtendedState}
use Rattle.extended_charts.specs.Holds.{condition, untested, held, state_step, held_region, held_state}
use Rattle.chart_reduction.specs.Laws.{of_region, of_state}
use Rattle.chart_reduction.proofs.ByRules.{Cases, Keeps}
use Rattle.chart_reduction.proofs.PlainParts.{all_same, both_same, over_state, over_region, state_is, region_is, state_folded, region_folded}

-- ---- transitions

join_none : (k : TransitionKind) (trigger rest : Option Expr) → (k ≡ kind.Join → trigger ≡ None) → rest ≡ None →
    (if is_join k then trigger else rest) ≡ None
join_none kind.Go trigger rest h none = none
join_none kind.Strong trigger rest h none = none
join_none kind.Weak trigger rest h none = none
join_none kind.Join trigger rest h none = h refl

join_same : (k : TransitionKind) (trigger : Option Expr) → (k ≡ kind.Join → trigger ≡ None) → (if is_join k then None else trigger) ≡ trigger
join_same kind.Go trigger h = refl
join_same kind.Strong trigger h = refl
join_same kind.Weak trigger h = refl
join_same kind.Join trigger h = sym (h refl)

no_condition : (variables : List Variable) (count : ℕ) (s : State) (transitions : List Transition) → Each (Keeps variables count s) transitions →
    condition transitions ≡ None
no_condition variables count s [] rules = refl
no_condition variables count s (t ∷ transitions) rules =
    join_none t.kind t.trigger (condition transitions) (λ is. (rules.0.plain_join is).1) (no_condition variables count s transitions rules.1)

untested_same : (variables : List Variable) (count : ℕ) (s : State) (t : Transition) → Keeps variables count s t → untested t ≡ t
untested_same variables count s t rules = ap (λ e. record t { trigger = e }) (join_same t.kind t.trigger (λ is. (rules.plain_join is).1))

-- ---- states and regions

abbrev pub RegionHeld : Region → Type 0
RegionHeld r = held_region (of_region r) ≡ of_region r

abbrev pub StateHeld : ℕ → State → Type 0
StateHeld count s = held_state (of_state s) ≡ of_state s

state_held : (variables : List Variable) (count : ℕ) (s : State) → Each (Keeps variables count s) (out-State s).transitions →
    Each RegionHeld (out-State s).regions → StateHeld count s
state_held variables count s rules inner =
    let regions : List Region = (out-State s).regions in
    let transitions : List Transition = (out-State s).transitions in
    state_folded ExtendedRegion ExtendedState roll-ExtendedRegion state_step s
    ∙ ap (λ o. roll-ExtendedState (record (over_state s (held o (map held_region (map of_region regions)))) { transitions = map untested transitions }))
    (no_condition variables count s transitions rules)
    ∙ ap (λ rs. roll-ExtendedState (record (over_state s rs) { transitions = map untested transitions })) (both_same held_region of_region regions inner)
    ∙ ap (λ ts. roll-ExtendedState (record (over_state s (map of_region regions)) { transitions = ts }))
    (all_same untested transitions
    (each_more (Keeps variables count s) (λ t. untested t ≡ t) transitions (λ t keeps. untested_same variables count s t keeps) rules))
    ∙ sym (state_is s)

region_held : (r : Region) → Each (StateHeld (length (out-Region r).states)) (out-Region r).states → RegionHeld r
region_held r inner =
    region_folded ExtendedRegion ExtendedState roll-ExtendedRegion state_step r
    ∙ ap (λ ss. roll-ExtendedRegion (over_region r ss)) (both_same held_state of_state (out-Region r).states inner)
    ∙ sym (region_is r)

pub nothing_held : (variables : List Variable) → Cases variables RegionHeld StateHeld
nothing_held variables = record { of_state = state_held variables; of_region = region_held }

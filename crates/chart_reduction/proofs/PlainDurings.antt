-- A chart without during actions gets no region for them.
use Rattle.std.proofs.Common.{◌≡◌, ℕ, List, length, sym, ap, ◌∙◌}
use Rattle.sc_graph.specs.declared.program.Variable.{Variable}
use Rattle.sc_text.proofs.EachItem.{Each}
use Rattle.core_charts.specs.declared.region.Region.{Region}
use Rattle.core_charts.specs.declared.region.State.{State}
use Rattle.core_charts.specs.declared.region.Region.TheViews.{out-Region, out-State}
use Rattle.extended_charts.specs.declared.extended.ExtendedRegion.{ExtendedRegion}
use Rattle.extended_charts.specs.declared.extended.ExtendedState.{ExtendedState}
use Rattle.extended_charts.specs.declared.extended.ExtendedRegion.TheViews.{roll-ExtendedRegion, roll-ExtendedState}
use Rattle.extended_charts.specs.Durings.{state_step, acting_region, acting_state}
use Rattle.chart_reduction.specs.Laws.{of_region, of_state}
use Rattle.chart_reduction.proofs.ByRules.{Cases}
use Rattle.chart_reduction.proofs.PlainParts.{both_same, over_state, over_region, state_is, region_is, state_folded, region_folded}

abbrev pub RegionActs : Region → Type 0
RegionActs r = acting_region (of_region r) ≡ of_region r

abbrev pub StateActs : ℕ → State → Type 0
StateActs count s = acting_state (of_state s) ≡ of_state s

state_stays : (s : State) → Each RegionActs (out-State s).regions → acting_state (of_state s) ≡ of_state s
state_stays s inner =
    state_folded ExtendedRegion ExtendedState roll-ExtendedRegion state_step s
    ∙ ap (λ rs. roll-ExtendedState (over_state s rs)) (both_same acting_region of_region (out-State s).regions inner)
    ∙ sym (state_is s)

region_stays : (r : Region) → Each (StateActs (length (out-Region r).states)) (out-Region r).states → RegionActs r
region_stays r inner =
    region_folded ExtendedRegion ExtendedState roll-ExtendedRegion state_step r
    ∙ ap (λ ss. roll-ExtendedRegion (over_region r ss)) (both_same acting_state of_state (out-Region r).states inner)
    ∙ sym (region_is r)

pub nothing_acts : (variables : List Variable) → Cases variables RegionActs StateActs
nothing_acts variables = record { of_state = λ count s rules inner. state_stays s inner; of_region = λ r inner. region_stays r inner }

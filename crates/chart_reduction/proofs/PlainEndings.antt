-- A chart without during actions has none that end.
use Rattle.std.proofs.Common.{◌≡◌, ℕ, List, map, length, ap, ◌∙◌}
use Rattle.sc_graph.specs.declared.program.Variable.{Variable}
use Rattle.sc_text.proofs.EachItem.{Each, each_map}
use Rattle.core_charts.specs.declared.region.Region.{Region}
use Rattle.core_charts.specs.declared.region.State.{State}
use Rattle.core_charts.specs.declared.region.Region.TheViews.{out-Region, out-State}
use Rattle.chart_reduction.specs.Endings.{EndingRegion, EndingState, endings_in, endings_among, region_step, state_step, ending_in_region, ending_in_state}
use Rattle.chart_reduction.specs.Laws.{of_region, of_state}
use Rattle.chart_reduction.proofs.ByRules.{Cases}
use Rattle.extended_charts.proofs.Walks.{none_counted}
use Rattle.chart_reduction.proofs.PlainParts.{state_folded, region_folded, from_zero}

abbrev pub RegionUnended : Region → Type 0
RegionUnended r = (ending_in_region (of_region r)).endings ≡ 0

abbrev pub StateUnended : ℕ → State → Type 0
StateUnended count s = (ending_in_state (of_state s)).endings ≡ 0

pub no_endings_in : (regions : List Region) → Each RegionUnended regions → endings_in (map ending_in_region (map of_region regions)) ≡ 0
no_endings_in regions h =
    none_counted ending_in_region (λ r. r.endings) (map of_region regions) (each_map (λ r. (ending_in_region r).endings ≡ 0) of_region regions h)

no_endings_among : (count : ℕ) (states : List State) → Each (StateUnended count) states → endings_among (map ending_in_state (map of_state states)) ≡ 0
no_endings_among count states h =
    none_counted ending_in_state (λ s. s.endings) (map of_state states) (each_map (λ s. (ending_in_state s).endings ≡ 0) of_state states h)

pub nothing_ends : (variables : List Variable) → Cases variables RegionUnended StateUnended
nothing_ends variables = record {
  of_state = λ count s rules inside.
      ap (λ e. e.endings) (state_folded EndingRegion EndingState region_step state_step s)
      ∙ from_zero (endings_in (map ending_in_region (map of_region (out-State s).regions))) ∙ no_endings_in (out-State s).regions inside;
  of_region = λ r inside.
      ap (λ e. e.endings) (region_folded EndingRegion EndingState region_step state_step r)
      ∙ no_endings_among (length (out-Region r).states) (out-Region r).states inside;
}

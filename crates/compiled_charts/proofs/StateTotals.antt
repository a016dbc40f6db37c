-- A chart has as many states as its table.
use Rattle.std.proofs.Common.{◌≡◌, ℕ, zero, suc, List, [], ◌∷◌, map, length, refl, sym, ap, subst, ◌∙◌, arith}
use Rattle.sc_text.proofs.EachItem.{Each, each_of}
use Rattle.sc_graph.specs.declared.program.Variable.{Variable}
use Rattle.core_charts.specs.declared.features.Features.{Features}
use Rattle.core_charts.specs.declared.region.Region.{Region}
use Rattle.core_charts.specs.declared.region.State.{State}
use Rattle.core_charts.specs.declared.region.Region.TheOpen.{Region-F, State-F}
use Rattle.core_charts.specs.declared.region.Region.TheViews.{out-Region, out-State}
use Rattle.core_charts.specs.declared.region.Region.TheFolds.{fold_out-Region, fold_out-State}
use Rattle.core_charts.specs.Chart.{Chart}
use Rattle.core_charts.specs.Rules.{IsChart, AreRegions, IsRegion, depth_limit}
use Rattle.chart_machine.specs.Table as table
use Rattle.chart_machine_laws.proofs.RowsOfSubtrees.{IsSized, AllSized, state_sized, region_sized, side_states}
use Rattle.node_states.specs.Nodes as row

-- so many rows stand in its table, and so many states are counted
record RegionCounts (r : Region) : Type 0 where
  sized : IsSized (table.subtree_of_region r)
  states : (row.piece_of_region r).states ≡ (table.subtree_of_region r).states

record StateCounts (x : State) : Type 0 where
  sized : IsSized (table.subtree_of_state x)
  states : (row.piece_of_state x).states ≡ (table.subtree_of_state x).states

sized_regions : (regions : List Region) → Each RegionCounts regions → AllSized (map table.subtree_of_region regions)
sized_regions [] each = tt
sized_regions (r ∷ regions) each = (each.0.sized, sized_regions regions each.1)

sized_states : (states : List State) → Each StateCounts states → AllSized (map table.subtree_of_state states)
sized_states [] each = tt
sized_states (x ∷ states) each = (each.0.sized, sized_states states each.1)

same_beside : (regions : List Region) → Each RegionCounts regions →
    row.states_in (map row.piece_of_region regions) ≡ table.states_in (map table.subtree_of_region regions)
same_beside [] each = refl
same_beside (r ∷ regions) each = omega (arith, each.0.states, same_beside regions each.1)

same_among : (states : List State) → Each StateCounts states →
    row.states_among (map row.piece_of_state states) ≡ table.states_in (map table.subtree_of_state states)
same_among [] each = refl
same_among (x ∷ states) each = omega (arith, each.0.states, same_among states each.1)

abbrev layer_of_state : State → State-F table.Subtree table.Subtree
layer_of_state x = record {
  name = (out-State x).name;
  is_initial = (out-State x).is_initial;
  is_final = (out-State x).is_final;
  regions = map table.subtree_of_region (out-State x).regions;
  transitions = (out-State x).transitions;
}

abbrev layer_of_region : Region → Region-F table.Subtree table.Subtree
layer_of_region r = record { name = (out-Region r).name; states = map table.subtree_of_state (out-Region r).states }

state_counts : (x : State) → Each RegionCounts (out-State x).regions → StateCounts x
state_counts x each = record {
  sized = subst IsSized (sym (fold_out-State table.Subtree table.Subtree table.region_subtree table.state_subtree x))
      (state_sized (layer_of_state x) (sized_regions (out-State x).regions each));
  states =
      ap (λ (p : row.StatePiece). p.states) (fold_out-State row.RegionPiece row.StatePiece row.region_piece row.state_piece x)
      ∙ ap suc (same_beside (out-State x).regions each)
      ∙ sym (ap (λ (p : table.Subtree). p.states) (fold_out-State table.Subtree table.Subtree table.region_subtree table.state_subtree x));
}

region_counts : (r : Region) → Each StateCounts (out-Region r).states → RegionCounts r
region_counts r each = record {
  sized = subst IsSized (sym (fold_out-Region table.Subtree table.Subtree table.region_subtree table.state_subtree r))
      (region_sized (layer_of_region r) (sized_states (out-Region r).states each));
  states =
      ap (λ (p : row.RegionPiece). p.states) (fold_out-Region row.RegionPiece row.StatePiece row.region_piece row.state_piece r)
      ∙ same_among (out-Region r).states each
      ∙ sym (ap (λ (p : table.Subtree). p.states) (fold_out-Region table.Subtree table.Subtree table.region_subtree table.state_subtree r));
}

regions_count : (f : Features) (variables : List Variable) (levels : ℕ) (regions : List Region) → AreRegions f variables levels regions →
    Each RegionCounts regions
regions_count f variables zero regions rules = subst (Each RegionCounts) (sym rules) tt
regions_count f variables (suc levels) regions rules =
    each_of RegionCounts regions (λ i r is. one r (rules.each i r is) (λ rs inner. regions_count f variables levels rs inner))
  where
    one : (r : Region) → IsRegion f variables (AreRegions f variables levels) r →
        ((rs : List Region) → AreRegions f variables levels rs → Each RegionCounts rs) → RegionCounts r
    one r region inner =
        region_counts r (each_of StateCounts (out-Region r).states
        (λ j x is. state_counts x (inner (out-State x).regions (region.states j x is).regions)))

-- of each chart that keeps its rules
pub as_many_states : (f : Features) (c : Chart) → IsChart f c → row.state_count c ≡ length (table.table c).states
as_many_states f c rules =
    let each : Each RegionCounts c.regions = regions_count f c.variables depth_limit c.regions rules.regions in
    same_beside c.regions each ∙ sym (side_states (map table.subtree_of_region c.regions) table.whole (sized_regions c.regions each))

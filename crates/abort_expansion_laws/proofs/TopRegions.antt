-- The regions of a chart itself: nothing is around them.
use Rattle.std.proofs.Common.{◌≡◌, ℕ, suc, ◌+◌, ◌<◌, ◌≤◌, ⊎_elim, List, [], ◌∷◌, map, length, Contains, ap, subst, arith}
use Rattle.core_charts.specs.declared.features.Features.TheVariants as features
use Rattle.core_charts.specs.declared.region.Region.{Region}
use Rattle.core_charts.specs.declared.region.Region.TheFolds.{fold_out-Region}
use Rattle.core_charts.specs.Chart.{Chart}
use Rattle.core_charts.specs.Rules.{IsChart, depth_limit}
use Rattle.chart_machine.specs.declared.table.Table.{Table}
use Rattle.chart_machine.specs.declared.table.TablePosition.{TablePosition}
use Rattle.chart_machine.specs.Table.{Subtree, table, whole, side_by_side, behind, regions_in, region_numbers, subtree_of_region, region_subtree, state_subtree}
use Rattle.chart_machine_laws.specs.Tree.{IsThere, around}
use Rattle.chart_machine_laws.proofs.LyingIn.{none_in, head_or_tail}
use Rattle.chart_machine_laws.proofs.RowsOfSubtrees.{Holds, AllSized, side_regions}
use Rattle.chart_machine_laws.proofs.ChartTables.{holds_whole}
use Rattle.abort_expansion_laws.proofs.SideRows.{side_head, side_tail}
use Rattle.abort_expansion_laws.proofs.RowsOfForks.{region_around}
use Rattle.abort_expansion_laws.proofs.WalkSide.{sized_side}
use Rattle.abort_expansion_laws.proofs.ChartWalk.{regions_walk}

has_itself : (r : Region) → 0 < (subtree_of_region r).regions
has_itself r = let is = ap (λ p. p.regions) (fold_out-Region Subtree Subtree region_subtree state_subtree r) in omega (is, arith)

side_there : (k : Table) (regions : List Region) (here : TablePosition) → AllSized (map subtree_of_region regions) →
    Holds k here (side_by_side (map subtree_of_region regions) here) → 0 < here.region →
    here.region + regions_in (map subtree_of_region regions) ≤ suc (length k.regions) →
    (r : ℕ) → Contains (region_numbers (map subtree_of_region regions) here.region) r → IsThere k r × (around k r ≡ here.around)
side_there k [] here sized holds low high r h = absurd (none_in r h)
side_there k (p ∷ regions) here sized holds low high r h =
    ⊎_elim
    (λ first.
    subst (λ q. IsThere k q × (around k q ≡ here.around)) first (
      (low, (let own = has_itself p in omega (own, high, arith))),
      region_around k p here (side_head k (subtree_of_region p) (map subtree_of_region regions) here holds),
    ))
    (λ later.
    side_there k regions (behind (subtree_of_region p) here) sized.1
    (side_tail k (subtree_of_region p) (map subtree_of_region regions) here sized.0 holds) (omega (low, arith)) (omega (high, arith)) r later)
    (head_or_tail here.region r (region_numbers (map subtree_of_region regions) (here.region + (subtree_of_region p).regions)) h)

module _ (c : Chart) (rules : IsChart features.Extended c) where
  abbrev pub tops : List ℕ
  tops = region_numbers (map subtree_of_region c.regions) 1

  sized : AllSized (map subtree_of_region c.regions)
  sized = sized_side c.regions (regions_walk features.Extended c.variables depth_limit c.regions rules.regions)

  pub top_there : (r : ℕ) → Contains tops r → IsThere (table c) r × (around (table c) r ≡ [])
  top_there r h =
      let size = side_regions (map subtree_of_region c.regions) whole sized in
      side_there (table c) c.regions whole sized (holds_whole c.variables c.regions) (omega arith) (omega (size, arith)) r h

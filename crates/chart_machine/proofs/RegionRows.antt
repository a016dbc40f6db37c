-- What a region gives, by what its states give.
use Rattle.std.proofs.Common.{ℕ, ◌≡◌, ◌+◌, List, [], ◌∷◌, ◌++◌, map, ap, append_assoc}
use Rattle.core_charts.specs.declared.region.Region.{Region}
use Rattle.core_charts.specs.declared.region.State.{State}
use Rattle.core_charts.specs.declared.region.Region.TheViews.{out-Region}
use Rattle.core_charts.specs.declared.region.Region.TheFolds.{fold_out-Region}
use Rattle.chart_machine.specs.declared.table.TablePosition.{TablePosition}
use Rattle.chart_machine.specs.Table.{Subtree, region_subtree, state_subtree, subtree_of_region, subtree_of_state, region_over}
use Rattle.chart_machine.specs.Table.{state_numbers, in_region, inside_region, regions_in_initial}

pub given_by_region : (r : Region) (at inside : TablePosition) (states : List State) (next : ℕ) → states ≡ (out-Region r).states → inside ≡ inside_region at →
    next ≡ inside.region + regions_in_initial (map subtree_of_state states) →
    (subtree_of_region r).parts at ≡ region_over (state_numbers (map subtree_of_state states) at.state) at (in_region (map subtree_of_state states) next inside)
given_by_region r at inside states next own within from =
    rw (from, within, own) (ap (λ (s : Subtree). s.parts at) (fold_out-Region Subtree Subtree region_subtree state_subtree r))

pub row_first : {A : Type 0} (old first others rows more none beside all : List A) (row : A) → rows ≡ old ++ row ∷ [] → more ≡ rows ++ first → none ≡ [] →
    beside ≡ none ++ others → all ≡ more ++ beside → all ≡ old ++ (row ∷ (first ++ others))
row_first old first others rows more none beside all row put led empty aside joined =
    rw (joined, led, put, aside, empty) (simp append_assoc)

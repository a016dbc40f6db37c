-- The rows of a chart's table, as many as its pieces say.
use Rattle.std.proofs.Common.{◌≡◌, ℕ, zero, suc, ◌+◌, Bool, true, false, List, [], ◌∷◌, ◌++◌, map, length, length-append, refl, sym, ap, subst, ◌∙◌, arith}
use Rattle.sc_graph.specs.declared.program.Variable.{Variable}
use Rattle.sc_text.proofs.EachItem.{Each, each_of, each_map}
use Rattle.core_charts.specs.declared.features.Features.TheVariants as features
use Rattle.core_charts.specs.declared.region.Region.{Region}
use Rattle.core_charts.specs.declared.region.State.{State}
use Rattle.core_charts.specs.declared.region.Region.TheOpen.{Region-F, State-F}
use Rattle.core_charts.specs.declared.region.Region.TheViews.{out-Region, out-State}
use Rattle.core_charts.specs.declared.region.Region.TheFolds.{fold_out-Region, fold_out-State}
use Rattle.core_charts.specs.Rules.{IsState, IsRegion, AreRegions}
use Rattle.chart_machine.specs.declared.table.TablePosition.{TablePosition}
use Rattle.chart_machine.specs.Table.{Subtree, states_in, regions_in, side_by_side, behind, within, rows_of_state_at, alone, next_behind, in_region, StatesRows}
use Rattle.chart_machine.specs.Table.{past_states, with_region, region_subtree, state_subtree, subtree_of_region, subtree_of_state}

-- a piece gives as many rows as it has states and regions
pub record Rowed (p : Subtree) : Type 0 where
  pub states : (at : TablePosition) → length (p.parts at).states ≡ p.states
  pub regions : (at : TablePosition) → length (p.parts at).regions ≡ p.regions

pub side_states : (ps : List Subtree) → Each Rowed ps → (at : TablePosition) → length (side_by_side ps at).states ≡ states_in ps
side_states [] each at = refl
side_states (p ∷ ps) each at =
    let here : length (p.parts at).states ≡ p.states = each.0.states at in
    let rest : length (side_by_side ps (behind p at)).states ≡ states_in ps = side_states ps each.1 (behind p at) in
    let both : length ((p.parts at).states ++ (side_by_side ps (behind p at)).states) ≡ length (p.parts at).states + length
    (side_by_side ps (behind p at)).states = length-append (p.parts at).states (side_by_side ps (behind p at)).states in
    omega (arith, here, rest, both)

pub side_regions : (ps : List Subtree) → Each Rowed ps → (at : TablePosition) → length (side_by_side ps at).regions ≡ regions_in ps
side_regions [] each at = refl
side_regions (p ∷ ps) each at =
    let here : length (p.parts at).regions ≡ p.regions = each.0.regions at in
    let rest : length (side_by_side ps (behind p at)).regions ≡ regions_in ps = side_regions ps each.1 (behind p at) in
    let both : length ((p.parts at).regions ++ (side_by_side ps (behind p at)).regions) ≡ length (p.parts at).regions + length
    (side_by_side ps (behind p at)).regions = length-append (p.parts at).regions (side_by_side ps (behind p at)).regions in
    omega (arith, here, rest, both)

-- the states of a region
alone_states : (b : Bool) (p : Subtree) → Rowed p → (next : ℕ) (at : TablePosition) → length (rows_of_state_at b p.parts next at).states ≡ p.states
alone_states true p h next at = h.states at
alone_states false p h next at = h.states (with_region next at)

alone_regions : (b : Bool) (p : Subtree) → Rowed p → (next : ℕ) (at : TablePosition) → length (rows_of_state_at b p.parts next at).first + length
    (rows_of_state_at b p.parts next at).others ≡ p.regions
alone_regions true p h next at = let i : length (p.parts at).regions ≡ p.regions = h.regions at in omega (arith, i)
alone_regions false p h next at = let i : length (p.parts (with_region next at)).regions ≡ p.regions = h.regions (with_region next at) in omega (arith, i)

inner_states : (ps : List Subtree) → Each Rowed ps → (next : ℕ) (at : TablePosition) → length (in_region ps next at).states ≡ states_in ps
inner_states [] each next at = refl
inner_states (p ∷ ps) each next at =
    let a : StatesRows = alone p next at in
    let b : StatesRows = in_region ps (next_behind p next) (past_states p.states at) in
    let here : length a.states ≡ p.states = alone_states p.is_initial p each.0 next at in
    let rest : length b.states ≡ states_in ps = inner_states ps each.1 (next_behind p next) (past_states p.states at) in
    let both : length (a.states ++ b.states) ≡ length a.states + length b.states = length-append a.states b.states in
    omega (arith, here, rest, both)

inner_regions : (ps : List Subtree) → Each Rowed ps → (next : ℕ) (at : TablePosition) → length ((in_region ps next at).first ++ (in_region ps next at).others)
    ≡ regions_in ps
inner_regions ps each next at = length-append (in_region ps next at).first (in_region ps next at).others ∙ sum ps each next at
  where
    sum : (ps : List Subtree) → Each Rowed ps → (next : ℕ) (at : TablePosition) → length (in_region ps next at).first + length (in_region ps next at).others
        ≡ regions_in ps
    sum [] each next at = refl
    sum (p ∷ ps) each next at =
        let a : StatesRows = alone p next at in
        let b : StatesRows = in_region ps (next_behind p next) (past_states p.states at) in
        let here : length a.first + length a.others ≡ p.regions = alone_regions p.is_initial p each.0 next at in
        let rest : length b.first + length b.others ≡ regions_in ps = sum ps each.1 (next_behind p next) (past_states p.states at) in
        let one : length (a.first ++ b.first) ≡ length a.first + length b.first = length-append a.first b.first in
        let two : length (a.others ++ b.others) ≡ length a.others + length b.others = length-append a.others b.others in
        omega (arith, here, rest, one, two)

state_rowed : (s : State-F Subtree Subtree) → Each Rowed s.regions → Rowed (state_subtree s)
state_rowed s each = record {
  states = λ at. ap suc (side_states s.regions each (within at));
  regions = λ at. side_regions s.regions each (within at);
}

region_rowed : (r : Region-F Subtree Subtree) → Each Rowed r.states → Rowed (region_subtree r)
region_rowed r each = record {
  states = λ at. inner_states r.states each (suc at.region + Rattle.chart_machine.specs.Table.regions_in_initial r.states)
      (Rattle.chart_machine.specs.Table.inside_region at);
  regions = λ at. ap suc (inner_regions r.states each (suc at.region + Rattle.chart_machine.specs.Table.regions_in_initial r.states)
      (Rattle.chart_machine.specs.Table.inside_region at));
}

abbrev pub RegionRowed : Region → Type 0
RegionRowed r = Rowed (subtree_of_region r)

abbrev pub StateRowed : State → Type 0
StateRowed s = Rowed (subtree_of_state s)

-- a state with the pieces of its regions, and a region with those of its states
abbrev pub open_state : State → State-F Subtree Subtree
open_state s = record {
  name = (out-State s).name;
  is_initial = (out-State s).is_initial;
  is_final = (out-State s).is_final;
  regions = map subtree_of_region (out-State s).regions;
  transitions = (out-State s).transitions;
}

abbrev pub open_region : Region → Region-F Subtree Subtree
open_region r = record { name = (out-Region r).name; states = map subtree_of_state (out-Region r).states }

-- a state, and a region, whose own regions nest this many levels deep
pub state_is_rowed : (variables : List Variable) (levels count : ℕ) → ((regions : List Region) → AreRegions features.Core variables levels regions →
    Each RegionRowed regions) →
    (s : State) → IsState features.Core variables (AreRegions features.Core variables levels) count s → StateRowed s
state_is_rowed variables levels count inner s h =
    subst Rowed (sym (fold_out-State Subtree Subtree region_subtree state_subtree s))
    (state_rowed (open_state s) (each_map Rowed subtree_of_region (out-State s).regions (inner (out-State s).regions h.regions)))

region_is_rowed : (variables : List Variable) (levels : ℕ) → ((regions : List Region) → AreRegions features.Core variables levels regions →
    Each RegionRowed regions) →
    (r : Region) → IsRegion features.Core variables (AreRegions features.Core variables levels) r → RegionRowed r
region_is_rowed variables levels inner r h =
    subst Rowed (sym (fold_out-Region Subtree Subtree region_subtree state_subtree r))
    (region_rowed (open_region r) (each_map Rowed subtree_of_state (out-Region r).states
    (each_of StateRowed (out-Region r).states (λ i s at. state_is_rowed variables levels (length (out-Region r).states) inner s (h.states i s at)))))

pub regions_rowed : (variables : List Variable) (levels : ℕ) (regions : List Region) → AreRegions features.Core variables levels regions →
    Each RegionRowed regions
regions_rowed variables zero regions h = subst (Each RegionRowed) (sym h) tt
regions_rowed variables (suc levels) regions h = each_of RegionRowed regions (λ i r at. region_is_rowed variables levels (regions_rowed variables levels) r
    (h.each i r at))

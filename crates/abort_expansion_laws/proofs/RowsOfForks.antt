-- The rows of a fork and of a monitor, where they stand in the table of a core chart.
use Rattle.std.proofs.Common.{◌≡◌, ℕ, suc, ◌+◌, Bool, true, false, List, [], ◌∷◌, map, length, refl, sym, ap, subst, ◌∙◌, arith}
use Rattle.core_charts.specs.declared.region.Region.{Region}
use Rattle.core_charts.specs.declared.region.Transition.{Transition}
use Rattle.core_charts.specs.declared.region.Region.TheOpen.{Region-F}
use Rattle.core_charts.specs.declared.region.Region.TheViews.{out-Region}
use Rattle.core_charts.specs.declared.region.Region.TheFolds.{fold-roll-Region, fold_out-Region}
use Rattle.core_charts.specs.declared.region.State.{State}
use Rattle.core_charts.specs.Tests.{at_once, strong_aborts, weak_aborts}
use Rattle.chart_machine.specs.declared.standing.Standing.TheVariants as at
use Rattle.chart_machine.specs.declared.standing.Move.{Move}
use Rattle.chart_machine.specs.declared.table.Table.{Table}
use Rattle.chart_machine.specs.declared.table.TablePosition.{TablePosition}
use Rattle.chart_machine.specs.Table.{Subtree, state_at, region_at, region_numbers, state_numbers, within, inside_region, side_by_side, StatesRows}
use Rattle.chart_machine.specs.Table.{regions_in_initial, in_region, region_subtree, state_subtree, is_superstate, past_states, next_behind}
use Rattle.chart_machine.specs.Table.{subtree_of_region as table_of_region, subtree_of_state as table_of_state}
use Rattle.chart_machine.specs.Steps.{to}
use Rattle.abort_expansion.specs.declared.flags.Flags.{Flags}
use Rattle.abort_expansion.specs.Flags.{watching_name, abandoned_name, monitor_name}
use Rattle.abort_expansion.specs.Superstates.{monitor, monitor_transitions}
use Rattle.chart_machine_laws.specs.Tree.{around}
use Rattle.chart_machine_laws.proofs.RowsOfSubtrees.{Holds, IsSized, AllSized, regions_first, regions_second, regions_from, inner_first, region_sized}
use Rattle.chart_machine_laws.proofs.TableTrees.{OnceInitial}
use Rattle.abort_expansion_laws.specs.CoreRows.{simple_row, fork_row}
use Rattle.abort_expansion_laws.proofs.SimpleRows.{rolled, rolled_piece}
use Rattle.abort_expansion_laws.proofs.InRegionRows.{InRegionAt, rest_holds}
use Rattle.abort_expansion_laws.proofs.WalkSimple.{one_row, one_sized, one_begins, one_state}

-- ---- a region: its row, and its states

pub region_rows : (k : Table) (r : Region-F Subtree Subtree) (b : TablePosition) → AllSized r.states → Holds k b ((region_subtree r).parts b) →
    (region_at k b.region ≡ record { around = b.around; states = state_numbers r.states b.state })
    × InRegionAt k r.states (suc b.region + regions_in_initial r.states) (inside_region b)
region_rows k r b sized h =
    let next : ℕ = suc b.region + regions_in_initial r.states in
    let inner : StatesRows = in_region r.states next (inside_region b) in (
      h.regions.0,
      record {
        states = h.states;
        first = regions_first k (suc b.region) inner.first inner.others h.regions.1;
        others =
            regions_from k (suc b.region + length inner.first) next inner.others (omega (arith, inner_first r.states next (inside_region b) sized))
            (regions_second k (suc b.region) inner.first inner.others h.regions.1);
      },
    )

-- what is around a region
pub region_around : (k : Table) (r : Region) (b : TablePosition) → Holds k b ((table_of_region r).parts b) → around k b.region ≡ b.around
region_around k r b h =
    let opened : Holds k b ((region_subtree (record { name = (out-Region r).name; states = map table_of_state (out-Region r).states })).parts b) =
    subst (λ p. Holds k b (p.parts b)) (fold_out-Region Subtree Subtree region_subtree state_subtree r) h in
    ap (λ z. z.around) opened.regions.0

-- ---- a superstate of the core chart, which has no aborts

pub some_regions : (pieces : List Subtree) (n x : ℕ) (xs : List ℕ) → region_numbers pieces n ≡ x ∷ xs → is_superstate pieces ≡ true
some_regions [] n x xs e = absurd cc
some_regions (p ∷ pieces) n x xs e = refl

module _ (core : Table) (name : List ℕ) (begins : Bool) (regions : List Region) (all : List Transition) (some : is_superstate
    (map table_of_region regions) ≡ true)
    (no_strong : strong_aborts all ≡ []) (no_weak : weak_aborts all ≡ []) (position : TablePosition) where
  abbrev layer : Subtree
  layer = state_subtree (record { name = name; is_initial = begins; is_final = false; regions = map table_of_region regions; transitions = all })

  abbrev opened : List Move
  opened = (side_by_side (map table_of_region regions) (within position)).entered

  pub super_row : Holds core position (layer.parts position) →
      state_at core position.state ≡ fork_row position.holder position.state (region_numbers (map table_of_region regions) position.region) all
      (state_at core position.state).opened
  super_row h =
      let row : state_at core position.state ≡ fork_row position.holder position.state
      (region_numbers (map table_of_region regions) position.region) all opened =
      h.states.0 ∙ entered in
      subst (λ moves. state_at core position.state ≡ fork_row position.holder position.state
      (region_numbers (map table_of_region regions) position.region) all moves)
      (sym (ap (λ z. z.opened) h.states.0)) row
    where
      entered : Rattle.chart_machine.specs.Table.state_row (record {
        name = name;
        is_initial = begins;
        is_final = false;
        regions = map table_of_region regions;
        transitions = all;
      }) position opened ≡ fork_row position.holder position.state (region_numbers (map table_of_region regions) position.region) all opened
      entered = rw (some, no_strong, no_weak) refl

-- ---- the monitor
module _ (s : ℕ) (flags_around : List Flags) (flags : Flags) (own : List Transition) where
  abbrev pub watching : State
  watching = rolled watching_name true false [] (monitor_transitions flags_around flags own)

  abbrev pub watched_state : State
  watched_state = rolled abandoned_name false true [] []

  abbrev states : List Subtree
  states = table_of_state watching ∷ table_of_state watched_state ∷ []

  abbrev inner : Region-F Subtree Subtree
  inner = record { name = monitor_name s; states = states }

  monitor_piece : table_of_region (monitor s flags_around flags own) ≡ region_subtree inner
  monitor_piece = fold-roll-Region Subtree Subtree region_subtree state_subtree (record { name = monitor_name s; states = watching ∷ watched_state ∷ [] })

  all_sized : AllSized states
  all_sized =
      (one_sized watching_name true false (monitor_transitions flags_around flags own), (one_sized abandoned_name false true [], tt))

  pub monitor_sized : IsSized (table_of_region (monitor s flags_around flags own))
  monitor_sized = subst IsSized (sym monitor_piece) (region_sized inner all_sized)

  pub monitor_states : (table_of_region (monitor s flags_around flags own)).states ≡ 2
  monitor_states =
      ap (λ p. p.states) monitor_piece ∙
      omega (arith, one_state watching_name true false (monitor_transitions flags_around flags own), one_state abandoned_name false true [])

  once : OnceInitial states
  once = (λ e. (one_begins abandoned_name false true [], tt), (λ e. tt, tt))

  -- what is entered with it
  pub monitor_entered : (b : TablePosition) →
      ((table_of_region (monitor s flags_around flags own)).parts b).entered ≡
      to b.region (at.Trying b.state (at_once (monitor_transitions flags_around flags own))) ∷ []
  monitor_entered b =
      ap (λ p. (p.parts b).entered) monitor_piece ∙
      (ap (λ p. ((region_subtree (record { name = monitor_name s; states = p ∷ table_of_state watched_state ∷ [] })).parts b).entered)
      (rolled_piece watching_name true false [] (monitor_transitions flags_around flags own)) ∙
      ap (λ p. ((region_subtree (record {
        name = monitor_name s;
        states = state_subtree (record {
          name = watching_name;
          is_initial = true;
          is_final = false;
          regions = [];
          transitions = monitor_transitions flags_around flags own;
        }) ∷ p ∷ [];
      })).parts b).entered)
      (rolled_piece abandoned_name false true [] []))

  pub record MonitorRows (core : Table) (b : TablePosition) : Type 0 where
    pub around_it : around core b.region ≡ b.around
    pub states_of : (region_at core b.region).states ≡ b.state ∷ (b.state + (table_of_state watching).states) ∷ []
    pub row : state_at core b.state ≡ simple_row b.region b.state (monitor_transitions flags_around flags own)
    pub ended : (state_at core (b.state + (table_of_state watching).states)).entered ≡ to b.region at.Ended ∷ []
    pub ended_held : (state_at core (b.state + (table_of_state watching).states)).holder ≡ b.region
    pub ended_bare : (state_at core (b.state + (table_of_state watching).states)).transitions ≡ []

  pub monitor_rows : (core : Table) (b : TablePosition) → Holds core b ((table_of_region (monitor s flags_around flags own)).parts b) → MonitorRows core b
  monitor_rows core b h =
      let rows = region_rows core inner b all_sized (subst (λ p. Holds core b (p.parts b)) monitor_piece h) in
      let next : ℕ = suc b.region + regions_in_initial states in
      let last = rest_holds core (table_of_state watching) (table_of_state watched_state ∷ []) next (inside_region b) all_sized.0 once rows.1 in
      let ended = one_row abandoned_name false true [] core [] (next_behind (table_of_state watching) next)
      (past_states (table_of_state watching).states (inside_region b)) last in
      record {
        around_it = ap (λ z. z.around) rows.0;
        states_of = ap (λ z. z.states) rows.0;
        row = (one_row watching_name true false (monitor_transitions flags_around flags own) core (table_of_state watched_state ∷ []) next (inside_region b)
            rows.1).states.0;
        ended = ap (λ z. z.entered) ended.states.0;
        ended_held = ap (λ z. z.holder) ended.states.0;
        ended_bare = ap (λ z. z.transitions) ended.states.0;
      }

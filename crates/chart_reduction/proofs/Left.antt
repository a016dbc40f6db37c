-- What states that are left become, by their parts.
use Rattle.std.proofs.Common.{◌≡◌, ℕ, ◌+◌, Option, List, [], ◌++◌, map, sym, ap, ◌∙◌}
use Rattle.chart_reduction.specs.declared.entries.leaving.Leaving.{Leaving}
use Rattle.extended_charts.specs.declared.extended.ExtendedRegion.{ExtendedRegion}
use Rattle.extended_charts.specs.declared.extended.ExtendedState.{ExtendedState}
use Rattle.extended_charts.specs.declared.extended.ExtendedRegion.TheViews.{out-ExtendedRegion, out-ExtendedState, roll-ExtendedState}
use Rattle.extended_charts.specs.declared.extended.ExtendedRegion.TheFolds.{fold_out-ExtendedRegion, fold_out-ExtendedState}
use Rattle.chart_reduction.specs.Exits.{LeftRegion, LeftState, region_step, state_step, left_region, left_state}
use Rattle.chart_reduction.specs.Exits.{exits_of, leavings_in, leavings_among, own_leaving}
use Rattle.chart_reduction.specs.Exits.{left_in, notes_in, all_regions, noted, parting, left_transitions, left_behind}

pub state_inside : (s : ExtendedState) → (left_state s).inside ≡ notes_in (map left_region (out-ExtendedState s).regions)
state_inside s = ap (λ l. l.inside) (fold_out-ExtendedState LeftRegion LeftState region_step state_step s)

pub state_exit : (s : ExtendedState) → (left_state s).exit ≡ (out-ExtendedState s).exit
state_exit s = ap (λ l. l.exit) (fold_out-ExtendedState LeftRegion LeftState region_step state_step s)

pub state_leavings : (s : ExtendedState) (x : ℕ) → (left_state s).leavings x ≡ leavings_in x (map left_region (out-ExtendedState s).regions)
state_leavings s x = ap (λ l. l.leavings x) (fold_out-ExtendedState LeftRegion LeftState region_step state_step s)

-- what is left of a region and of those in it
pub region_leavings : (r : ExtendedRegion) (x : ℕ) → (left_region r).leavings x
    ≡ leavings_among x (map left_state (out-ExtendedRegion r).states)
    ++ own_leaving (x + (left_region r).inside) (exits_of (map left_state (out-ExtendedRegion r).states))
region_leavings r x =
    let is = fold_out-ExtendedRegion LeftRegion LeftState region_step state_step r in
    let states : List LeftState = map left_state (out-ExtendedRegion r).states in
    ap (λ l. l.leavings x) is ∙ ap (λ n. leavings_among x states ++ own_leaving (x + n) (exits_of states)) (sym (ap (λ l. l.inside) is))

-- a state, where this is left of the regions in it
abbrev made_of : ExtendedState → (own : Option ℕ) (number x place : ℕ) → List Leaving → ExtendedState
made_of s own number x place leavings = roll-ExtendedState (record {
  name = (out-ExtendedState s).name;
  is_own = (out-ExtendedState s).is_own;
  is_initial = (out-ExtendedState s).is_initial;
  is_final = (out-ExtendedState s).is_final;
  entry = noted own number (out-ExtendedState s).exit ++ (out-ExtendedState s).entry;
  exit = [];
  during = [];
  regions = all_regions x (map left_region (out-ExtendedState s).regions);
  transitions =
      left_transitions place (left_in (out-ExtendedState s).is_own leavings) (parting own (out-ExtendedState s).exit) (out-ExtendedState s).transitions;
})

pub state_made : (s : ExtendedState) (own : Option ℕ) (number x place : ℕ) → (left_state s).made own number x place
    ≡ made_of s own number x place ((left_state s).leavings x)
state_made s own number x place =
    ap (λ l. l.made own number x place) (fold_out-ExtendedState LeftRegion LeftState region_step state_step s)
    ∙ ap (made_of s own number x place) (sym (state_leavings s x))

-- what stands behind it
abbrev behind_of : ExtendedState → (own : Option ℕ) (place : ℕ) → List Leaving → List ExtendedState
behind_of s own place leavings =
    left_behind place (left_in (out-ExtendedState s).is_own leavings) (parting own (out-ExtendedState s).exit) (out-ExtendedState s).transitions

pub state_behind : (s : ExtendedState) (own : Option ℕ) (x place : ℕ) → (left_state s).behind own x place
    ≡ behind_of s own place ((left_state s).leavings x)
state_behind s own x place =
    ap (λ l. l.behind own x place) (fold_out-ExtendedState LeftRegion LeftState region_step state_step s)
    ∙ ap (behind_of s own place) (sym (state_leavings s x))

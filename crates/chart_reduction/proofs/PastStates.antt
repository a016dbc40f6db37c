-- What states and regions that are entered by history become, by their parts.
use Rattle.std.proofs.Common.{◌≡◌, ℕ, Bool, Option, List, ◌++◌, map, length, ap, ◌∙◌}
use Rattle.std.proofs.lemmas.List.{length-map}
use Rattle.chart_reduction.specs.declared.entries.histories.Past.{Past}
use Rattle.chart_reduction.specs.declared.entries.histories.EnclosingRegion.{EnclosingRegion}
use Rattle.extended_charts.specs.declared.extended.ExtendedRegion.{ExtendedRegion}
use Rattle.extended_charts.specs.declared.extended.ExtendedState.{ExtendedState}
use Rattle.extended_charts.specs.declared.extended.ExtendedRegion.TheViews.{out-ExtendedRegion, out-ExtendedState, roll-ExtendedState}
use Rattle.extended_charts.specs.declared.extended.ExtendedRegion.TheFolds.{fold_out-ExtendedRegion, fold_out-ExtendedState}
use Rattle.extended_charts.specs.Making.{region}
use Rattle.chart_reduction.specs.Histories.{PastRegion, PastState, region_step, state_step, past_region, past_state}
use Rattle.chart_reduction.specs.Histories.{asking, kept_in, kept_among, recalled_among, made_region}
use Rattle.chart_reduction.specs.Histories.{noted, entering, led, begins, history_of, all_regions}

pub state_transitions : (s : ExtendedState) → (past_state s).transitions ≡ (out-ExtendedState s).transitions
state_transitions s = ap (λ p. p.transitions) (fold_out-ExtendedState PastRegion PastState region_step state_step s)

pub state_begins : (s : ExtendedState) → (past_state s).is_initial ≡ (out-ExtendedState s).is_initial
state_begins s = ap (λ p. p.is_initial) (fold_out-ExtendedState PastRegion PastState region_step state_step s)

pub state_kept : (s : ExtendedState) (b : Bool) → (past_state s).kept b ≡ kept_in b (map past_region (out-ExtendedState s).regions)
state_kept s b = ap (λ p. p.kept b) (fold_out-ExtendedState PastRegion PastState region_step state_step s)

pub state_made : (s : ExtendedState) (at : EnclosingRegion) (b : Bool) (place x : ℕ) → (past_state s).made at b place x
    ≡ roll-ExtendedState (record {
      name = (out-ExtendedState s).name;
      is_own = (out-ExtendedState s).is_own;
      is_initial = begins at.own (out-ExtendedState s).is_initial;
      is_final = (out-ExtendedState s).is_final;
      entry = (noted at.own place ++ entering at.asked b) ++ (out-ExtendedState s).entry;
      exit = (out-ExtendedState s).exit;
      during = (out-ExtendedState s).during;
      regions = all_regions (history_of at.asked b) x (map past_region (out-ExtendedState s).regions);
      transitions = map (led at) (out-ExtendedState s).transitions;
    })
state_made s at b place x = ap (λ p. p.made at b place x) (fold_out-ExtendedState PastRegion PastState region_step state_step s)

-- ---- regions: what stands for their states is as many

abbrev states_of : ExtendedRegion → List PastState
states_of r = map past_state (out-ExtendedRegion r).states

as_many : (r : ExtendedRegion) → length (states_of r) ≡ length (out-ExtendedRegion r).states
as_many r = length-map (out-ExtendedRegion r).states past_state

pub region_kept : (r : ExtendedRegion) → (past_region r).kept
    ≡ asking (recalled_among (length (out-ExtendedRegion r).states) (map past_state (out-ExtendedRegion r).states))
    ++ kept_among (recalled_among (length (out-ExtendedRegion r).states) (map past_state (out-ExtendedRegion r).states)) 0
    (map past_state (out-ExtendedRegion r).states)
region_kept r =
    ap (λ p. p.kept) (fold_out-ExtendedRegion PastRegion PastState region_step state_step r)
    ∙ ap (λ n. asking (recalled_among n (states_of r)) ++ kept_among (recalled_among n (states_of r)) 0 (states_of r)) (as_many r)

pub region_made : (r : ExtendedRegion) (own : Option Past) (x : ℕ) → (past_region r).made own x
    ≡ region (out-ExtendedRegion r).name
    (made_region own (recalled_among (length (out-ExtendedRegion r).states) (map past_state (out-ExtendedRegion r).states)) x
    (map past_state (out-ExtendedRegion r).states))
region_made r own x =
    ap (λ p. p.made own x) (fold_out-ExtendedRegion PastRegion PastState region_step state_step r)
    ∙ ap (λ n. region (out-ExtendedRegion r).name (made_region own (recalled_among n (states_of r)) x (states_of r))) (as_many r)

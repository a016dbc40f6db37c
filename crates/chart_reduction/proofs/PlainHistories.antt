-- In a chart no transition leads by history: all lead to states of their region.
use Rattle.std.proofs.Common.{◌≡◌, ℕ, suc, ◌-◌, false, not, List, [], ◌∷◌, ◌++◌, map, length, refl, ap, ◌∙◌}
use Rattle.std.specs.Prelude.{if◌then◌else◌}
use Rattle.std.proofs.lemmas.Bool.{lt-ltb}
use Rattle.std.proofs.lemmas.List.{length-map}
use Rattle.sc_graph.specs.declared.program.Variable.{Variable}
use Rattle.sc_text.proofs.EachItem.{Each}
use Rattle.core_charts.specs.declared.region.Transition.{Transition}
use Rattle.core_charts.specs.declared.region.Region.{Region}
use Rattle.core_charts.specs.declared.region.State.{State}
use Rattle.core_charts.specs.declared.region.Region.TheViews.{out-Region, out-State}
use Rattle.chart_reduction.specs.declared.entries.recalls.Kept.{Kept}
use Rattle.chart_reduction.specs.Histories.{PastRegion, PastState, recalled_by, asking, kept_in, kept_among, recalled_among, region_step, state_step}
use Rattle.chart_reduction.specs.Histories.{past_region, past_state}
use Rattle.chart_reduction.specs.Laws.{of_region, of_state}
use Rattle.chart_reduction.proofs.ByRules.{Cases, Keeps}
use Rattle.chart_reduction.proofs.PlainParts.{state_folded, region_folded}

recalls_none : (variables : List Variable) (count : ℕ) (s : State) (transitions : List Transition) → Each (Keeps variables count s) transitions →
    recalled_by count transitions ≡ []
recalls_none variables count s [] rules = refl
recalls_none variables count s (t ∷ transitions) rules =
    ap (λ b. if not b then (t.target - count) ∷ recalled_by count transitions else recalled_by count transitions)
    (lt-ltb t.target count rules.0.target)
    ∙ recalls_none variables count s transitions rules.1

-- a state that keeps nothing
pub record StateKeeps (count : ℕ) (s : State) : Type 0 where
  pub recalls : recalled_by count (past_state (of_state s)).transitions ≡ []
  pub kept : (past_state (of_state s)).kept false ≡ []

abbrev pub RegionKeeps : Region → Type 0
RegionKeeps r = (past_region (of_region r)).kept ≡ []

pub none_kept_in : (regions : List Region) → Each RegionKeeps regions → kept_in false (map past_region (map of_region regions)) ≡ []
none_kept_in [] h = refl
none_kept_in (r ∷ regions) h =
    ap (λ ks. ks ++ kept_in false (map past_region (map of_region regions))) h.0 ∙ none_kept_in regions h.1

abbrev past_states : List State → List PastState
past_states states = map past_state (map of_state states)

none_recalled : (count : ℕ) (states : List State) → Each (StateKeeps count) states → recalled_among count (past_states states) ≡ []
none_recalled count [] h = refl
none_recalled count (s ∷ states) h =
    ap (λ places. places ++ recalled_among count (past_states states)) h.0.recalls ∙ none_recalled count states h.1

none_kept_among : (count place : ℕ) (states : List State) → Each (StateKeeps count) states → kept_among [] place (past_states states) ≡ []
none_kept_among count place [] h = refl
none_kept_among count place (s ∷ states) h =
    ap (λ ks. ks ++ kept_among [] (suc place) (past_states states)) h.0.kept ∙ none_kept_among count (suc place) states h.1

as_many : (states : List State) → length (past_states states) ≡ length states
as_many states = length-map (map of_state states) past_state ∙ length-map states of_state

abbrev kept_by : List PastState → List ℕ → List Kept
kept_by states recalled = asking recalled ++ kept_among recalled 0 states

pub nothing_recalled : (variables : List Variable) → Cases variables RegionKeeps StateKeeps
nothing_recalled variables = record {
  of_state = λ count s rules inside. record {
    recalls =
        ap (λ p. recalled_by count p.transitions) (state_folded PastRegion PastState region_step state_step s)
        ∙ recalls_none variables count s (out-State s).transitions rules;
    kept = ap (λ p. p.kept false) (state_folded PastRegion PastState region_step state_step s) ∙ none_kept_in (out-State s).regions inside;
  };
  of_region = λ r inside.
      let states : List State = (out-Region r).states in
      let count : ℕ = length states in
      ap (λ p. p.kept) (region_folded PastRegion PastState region_step state_step r)
      ∙ ap (λ n. kept_by (past_states states) (recalled_among n (past_states states))) (as_many states)
      ∙ ap (kept_by (past_states states)) (none_recalled count states inside)
      ∙ none_kept_among count 0 states inside;
}

-- In the draft of a chart that keeps the limits no region has more states than it may.
use Rattle.std.proofs.Common.{◌≡◌, ℕ, zero, suc, ◌≤◌, Some, List, [], ◌∷◌, length, slice_get, refl, ap, sym, subst, ◌∙◌, arith}
use Rattle.std.specs.Prelude.{option_map}
use Rattle.std.proofs.lemmas.List.{length-map}
use Rattle.std.proofs.lemmas.Option.{slice_get-map}
use Rattle.core_charts.specs.declared.features.Features.TheVariants as features
use Rattle.core_charts.specs.declared.region.Region.TheViews.{out-Region, out-State}
use Rattle.core_charts.specs.Rules.{IsRegion, AreRegions, depth_limit}
use Rattle.sc_text.specs.declared.drafts.parts.Declaration.{Declaration}
use Rattle.sc_text.specs.Flaws.{variable_names}
use Rattle.sc_text.specs.Resolved.{variables_of}
use Rattle.chart_reader.specs.declared.text_drafts.draft.DraftRegion.{DraftRegion}
use Rattle.chart_reader.specs.declared.text_drafts.draft.DraftRegion.TheViews.{out-DraftRegion, out-DraftState}
use Rattle.chart_reader.specs.declared.text_drafts.draft.DraftState.{DraftState}
use Rattle.chart_reader.specs.declared.text_drafts.draft.DraftChart.{DraftChart}
use Rattle.chart_reader.specs.Flaws.{state_names, chart_flaws}
use Rattle.chart_reader.specs.Shape.{IsShaped}
use Rattle.chart_reader.specs.Narrow.{AreStatesFew, AreNarrow}
use Rattle.chart_reader.specs.Resolved.{region_of, regions_of, state_of, states_of}
use Rattle.chart_reader.proofs.Looking.{state_out, region_out}
use Rattle.chart_reader.proofs.ChartRulesKept.{chart_kept}

module _ (V : List Declaration) where
  abbrev vn : List (List ℕ)
  vn = variable_names V

  few_within : (levels : ℕ) → ((regions : List DraftRegion) → AreRegions features.Extended (variables_of V) levels (regions_of vn regions)
      → AreNarrow levels regions)
      → (r : DraftRegion) → IsRegion features.Extended (variables_of V) (AreRegions features.Extended (variables_of V) levels) (region_of vn r)
      → AreStatesFew (AreNarrow levels) (out-DraftRegion r).states
  few_within levels inner r keeps =
      let states : List DraftState = (out-DraftRegion r).states in
      let names : List (List ℕ) = state_names (out-DraftRegion r).states in
      let same : (out-Region (region_of vn r)).states ≡ states_of vn names states = ap (λ parts. parts.states) (region_out vn r) in
      let few : length (states_of vn names states) ≤ 256 = subst (λ all. length all ≤ 256) same keeps.state_count in
      let long : length (states_of vn names states) ≡ length states = length-map states (state_of vn names) in
      record {
        count = omega (arith, few, long);
        inside = λ i s at.
            (let there : slice_get (out-Region (region_of vn r)).states i ≡ Some (state_of vn names s) =
            ap (λ all. slice_get all i) same ∙ slice_get-map (state_of vn names) states i ∙ ap (option_map (state_of vn names)) at in
            let regions : (out-State (state_of vn names s)).regions ≡ regions_of vn (out-DraftState s).regions = ap (λ parts. parts.regions)
            (state_out vn names s) in
            inner (out-DraftState s).regions
            (subst (AreRegions features.Extended (variables_of V) levels) regions (keeps.states i (state_of vn names s) there).regions));
      }

  narrow_within : (levels : ℕ) (regions : List DraftRegion) → AreRegions features.Extended (variables_of V) levels (regions_of vn regions)
      → AreNarrow levels regions
  narrow_within zero [] keep = refl
  narrow_within zero (r ∷ more) keep = absurd cc
  narrow_within (suc levels) regions keep = λ i r is.
      few_within levels (narrow_within levels) r
      (keep.each i (region_of vn r) (slice_get-map (region_of vn) regions i ∙ ap (option_map (region_of vn)) is))

-- the regions of a draft without flaws
pub narrow : (d : DraftChart) (regions : List DraftRegion) → chart_flaws d ≡ [] → IsShaped d → regions ≡ d.regions → AreNarrow depth_limit regions
narrow d regions none shaped same = subst (AreNarrow depth_limit) (sym same)
    (narrow_within d.variables depth_limit d.regions (chart_kept d none shaped).regions)

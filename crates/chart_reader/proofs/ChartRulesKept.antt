-- The chart of a draft of the grammar, in which nothing is wrong, keeps the rules and limits of charts.
use Rattle.std.proofs.Common.{◌≡◌, ◌≢◌, ℕ, List, [], ◌∷◌, refl}
use Rattle.sc_text.specs.declared.language.Language.TheVariants as language
use Rattle.sc_text.specs.declared.drafts.flaw.Flaw.{Flaw}
use Rattle.sc_text.specs.declared.drafts.parts.Declaration.{Declaration}
use Rattle.sc_text.specs.Flaws.{variable_names, variable_flaws}
use Rattle.sc_text.proofs.Unflawed.{none_first, none_second}
use Rattle.sc_text.proofs.Declared.{variables_are}
use Rattle.core_charts.specs.declared.features.Features.TheVariants as features
use Rattle.core_charts.specs.Rules.{IsChart, depth_limit}
use Rattle.chart_reader.specs.declared.text_drafts.draft.DraftRegion.{DraftRegion}
use Rattle.chart_reader.specs.declared.text_drafts.draft.DraftChart.{DraftChart}
use Rattle.chart_reader.specs.Flaws.{nested_flaws, chart_flaws}
use Rattle.chart_reader.specs.Shape.{IsShaped}
use Rattle.chart_reader.specs.Resolved.{regions_of, chart_of}
use Rattle.chart_reader.proofs.KeptRegions.{levels_keep}

some_there : (variables : List (List ℕ)) (regions : List DraftRegion) → regions ≢ [] → regions_of variables regions ≢ []
some_there variables [] there = λ same. there refl
some_there variables (r ∷ regions) there = λ same. cc

pub chart_kept : (d : DraftChart) → chart_flaws d ≡ [] → IsShaped d → IsChart features.Extended (chart_of d)
chart_kept d none shaped =
    let V : List Declaration = d.variables in
    let declared : List Flaw = variable_flaws (variable_names V) 0 0 V in
    let nested : List Flaw = nested_flaws V depth_limit d.regions in
    record {
      named = shaped.named;
      variables = variables_are language.Chart V shaped.declared (none_first declared nested none);
      some_region = some_there (variable_names V) d.regions shaped.some_region;
      regions = levels_keep V depth_limit d.regions (none_second declared nested none) shaped.regions;
    }

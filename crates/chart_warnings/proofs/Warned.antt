-- The reports of the warnings of the chart of a text.
use Rattle.std.proofs.Common.{◌≡◌, ℕ, List, Result, Ok, Err, IfOk, ap, subst, ◌∙◌}
use Rattle.core_charts.specs.Chart.{Chart}
use Rattle.chart_reader.specs.declared.text_drafts.draft.DraftChart.{DraftChart}
use Rattle.chart_reader.specs.Checked.{IsSound}
use Rattle.chart_reader.specs.Resolved.{chart_of}
use Rattle.chart_warnings.specs.declared.warning.Warning.{Warning}
use Rattle.chart_warnings.specs.Warnings.{warnings_of}
use Rattle.chart_warnings.specs.declared.texts.places.ChartPlaces.{ChartPlaces}
use Rattle.chart_warnings.specs.Places.{places_of}
use Rattle.chart_warnings.specs.Reports.{AreReports, Head, Warns, heads_of}

module _ (name text : List ℕ) (d : DraftChart) (sound : IsSound text d) (c : Chart) (warnings slice : List Warning) (places : ChartPlaces)
    (spelled : c ≡ chart_of d) (warned_of : warnings ≡ warnings_of c) (all : slice ≡ warnings) (placed : places ≡ places_of d) where
  same : heads_of text places slice ≡ heads_of text (places_of d) (warnings_of (chart_of d))
  same =
      ap (λ (p : ChartPlaces). heads_of text p slice) placed
      ∙ ap (λ (ws : List Warning). heads_of text (places_of d) ws) (all ∙ warned_of ∙ ap warnings_of spelled)

  pub warned : {S E : Type 0} (bytes : S → List ℕ) (r : Result S E) → IfOk r (λ s. AreReports name (heads_of text places slice) (bytes s))
      → IfOk r (λ s. Warns name text (bytes s))
  warned bytes (Ok s) are =
      record { draft = d; sound = sound; reports = subst (λ (hs : List Head). AreReports name hs (bytes s)) same are }
  warned bytes (Err e) are = tt

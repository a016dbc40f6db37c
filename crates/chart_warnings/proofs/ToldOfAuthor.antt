-- What is told of a text: the reports of the chart to which it is reduced, or nothing where it has none.
use Rattle.std.proofs.Common.{◌≡◌, ℕ, List, [], Result, Ok, Err, IfOk, inl, inr, ap, subst, ◌∙◌}
use Rattle.sc_text.specs.declared.read_fault.FaultKind.{FaultKind}
use Rattle.sc_text.specs.declared.read_fault.ReadFault.TheVariants as fault
use Rattle.core_charts.specs.Chart.{Chart}
use Rattle.extended_charts.specs.declared.extended.ExtendedChart.{ExtendedChart}
use Rattle.chart_reduction.specs.declared.rows.AuthorRows.{AuthorRows}
use Rattle.chart_reduction.specs.declared.fault.ReduceFault.TheVariants as reduce
use Rattle.chart_reduction.specs.Reduction.{IsReduction, LacksChart}
use Rattle.extended_reader.specs.declared.text_drafts.draft.ExtendedDraft.{ExtendedDraft}
use Rattle.extended_reader.specs.Checked.{IsSound, IsTextFault}
use Rattle.extended_reader.specs.Resolved.{extended_of}
use Rattle.chart_warnings.specs.declared.warning.Warning.{Warning}
use Rattle.chart_warnings.specs.Warnings.{warnings_of}
use Rattle.chart_warnings.specs.declared.texts.places.ChartPlaces.{ChartPlaces}
use Rattle.chart_warnings.specs.Reports.{AreReports, Head, heads_of}
use Rattle.chart_warnings.specs.ExtendedPlaces.{author_places}
use Rattle.chart_warnings.specs.Author.{author_warnings}
use Rattle.chart_warnings.specs.ExtendedReports.{IsToldOfAuthor, WarnsAuthor}

-- the text has a fault
pub faulty : (name text told : List ℕ) (b : FaultKind) (at : ℕ) → IsTextFault text (fault.Text b at) → told ≡ [] → IsToldOfAuthor name text told
faulty name text told b at is none = inr (record { why = inl (record { broken = b; at = at; faulty = is }); nothing = none })

-- it is reduced past a limit
pub limited : (name text told : List ℕ) (d : ExtendedDraft) (c : ExtendedChart) → IsSound text d → c ≡ extended_of d → LacksChart c reduce.Limit
    → told ≡ [] → IsToldOfAuthor name text told
limited name text told d c sound is none nothing =
    inr (record { why = inr (record { draft = d; sound = sound; none = subst (λ x. LacksChart x reduce.Limit) is none }); nothing = nothing })

-- it is reduced to a chart
pub reduction : (d : ExtendedDraft) (c : ExtendedChart) (chart : Chart) (rows : AuthorRows) → c ≡ extended_of d → IsReduction c chart rows
    → IsReduction (extended_of d) chart rows
reduction d c chart rows is reduced = subst (λ x. IsReduction x chart rows) is reduced

module _ (name text : List ℕ) (d : ExtendedDraft) (sound : IsSound text d) (chart : Chart) (rows : AuthorRows)
    (reduced : IsReduction (extended_of d) chart rows) (places : ChartPlaces) (warnings slice own seen : List Warning)
    (placed : places ≡ author_places d) (warned_of : warnings ≡ warnings_of chart) (all : slice ≡ warnings)
    (owned : own ≡ author_warnings rows.states places slice) (shown : seen ≡ own) where
  same : heads_of text places seen ≡ heads_of text (author_places d) (author_warnings rows.states (author_places d) (warnings_of chart))
  same =
      ap (heads_of text places) (shown ∙ owned ∙ ap (author_warnings rows.states places) (all ∙ warned_of))
      ∙ ap (λ (p : ChartPlaces). heads_of text p (author_warnings rows.states p (warnings_of chart))) placed

  pub warned : {S E : Type 0} (bytes : S → List ℕ) (r : Result S E) → IfOk r (λ s. AreReports name (heads_of text places seen) (bytes s))
      → IfOk r (λ s. WarnsAuthor name text (bytes s))
  warned bytes (Ok s) are =
      record {
        draft = d;
        sound = sound;
        chart = chart;
        rows = rows;
        reduction = reduced;
        reports = subst (λ (hs : List Head). AreReports name hs (bytes s)) same are;
      }
  warned bytes (Err e) are = tt

-- A text has one draft, and so one chart with its places, or a fault.
use Rattle.std.proofs.Common.{◌≡◌, ℕ, List, refl, sym, ◌∙◌, ap}
use Rattle.sc_text.specs.declared.read_fault.FaultKind.{FaultKind}
use Rattle.sc_text.specs.declared.read_fault.ReadFault.TheVariants as fault
use Rattle.core_charts.specs.Chart.{Chart}
use Rattle.chart_reader.specs.Checked.{IsTextFault}
use Rattle.chart_reader.specs.Resolved.{chart_of}
use Rattle.chart_reader.proofs.Exactly as reading
use Rattle.chart_reader.proofs.OneChartAnswer.{one_draft}
use Rattle.node_sources.specs.declared.chart_places.places.Places.{Places}
use Rattle.node_sources.specs.Places.{places_of}
use Rattle.node_sources.specs.Read.{IsPlaced}

pub one_chart : (text : List ℕ) (c d : Chart) (p q : Places) → IsPlaced text c p → IsPlaced text d q → (c ≡ d) × (p ≡ q)
one_chart text c d p q a b =
    let same : a.draft ≡ b.draft = one_draft text a.draft b.draft a.drafted b.drafted in
    (a.spelled ∙ ap chart_of same ∙ sym b.spelled, a.placed ∙ ap places_of same ∙ sym b.placed)

pub no_fault : (text : List ℕ) (c : Chart) (p : Places) (b : FaultKind) (at : ℕ) → IsPlaced text c p → ¬ IsTextFault text (fault.Text b at)
no_fault text c p b at h =
    reading.no_fault text (chart_of h.draft) b at
    (record { draft = h.draft; drafted = h.drafted; flawless = h.flawless; spelled = refl })

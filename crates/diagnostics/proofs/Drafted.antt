-- The flaws of a text, from its draft, or from the fault for which it has none.
use Rattle.std.proofs.Common.{◌≡◌, ℕ, List, [], inl, inr}
use Rattle.sc_text.specs.declared.read_fault.FaultKind.{FaultKind}
use Rattle.sc_text.specs.declared.read_fault.ReadFault.TheVariants as read
use Rattle.sc_text.specs.declared.drafts.flaw.Flaw.{Flaw}
use Rattle.sc_text.specs.Told.{told_of}
use Rattle.scl_reader.specs.declared.text_drafts.draft.Draft.{Draft}
use Rattle.scl_reader.specs.Flaws.{scl_flaws}
use Rattle.scl_reader.specs.Draft as programs
use Rattle.chart_reader.specs.declared.text_drafts.draft.DraftChart.{DraftChart}
use Rattle.chart_reader.specs.Flaws.{chart_flaws}
use Rattle.chart_reader.specs.Reading as charts
use Rattle.extended_reader.specs.declared.text_drafts.draft.ExtendedDraft.{ExtendedDraft}
use Rattle.extended_reader.specs.Flaws.{extended_flaws}
use Rattle.extended_reader.specs.Reading as extended
use Rattle.diagnostics.specs.Continuations.{IsReadBy}
use Rattle.diagnostics.specs.declared.could_follow.grammars.Grammar.TheVariants as grammars
use Rattle.diagnostics.specs.ListReports.{AreTold}

module _ (text : List ℕ) (told : List Flaw) where
  pub chart_told : (draft : DraftChart) → IsReadBy text grammars.Chart → charts.IsDraft text draft → told ≡ told_of (chart_flaws draft) → AreTold text told
  chart_told draft is_by drafted all =
      record { grammar = grammars.Chart; is_by = is_by; are = inl (record { draft = draft; drafted = drafted; all = all }) }

  pub no_chart : (b : FaultKind) (at : ℕ) → IsReadBy text grammars.Chart → charts.IsDraftFault text (read.Text b at) → told ≡ [] → AreTold text told
  no_chart b at is_by undrafted none =
      record { grammar = grammars.Chart; is_by = is_by; are = inr (record { broken = b; at = at; undrafted = undrafted; none = none }) }

  pub extended_told : (draft : ExtendedDraft) → IsReadBy text grammars.ExtendedChart → extended.IsExtendedDraft text draft
      → told ≡ told_of (extended_flaws draft) → AreTold text told
  extended_told draft is_by drafted all =
      record { grammar = grammars.ExtendedChart; is_by = is_by; are = inl (record { draft = draft; drafted = drafted; all = all }) }

  pub no_extended : (b : FaultKind) (at : ℕ) → IsReadBy text grammars.ExtendedChart → extended.IsDraftFault text (read.Text b at) → told ≡ []
      → AreTold text told
  no_extended b at is_by undrafted none =
      record { grammar = grammars.ExtendedChart; is_by = is_by; are = inr (record { broken = b; at = at; undrafted = undrafted; none = none }) }

  pub program_told : (draft : Draft) → IsReadBy text grammars.Scl → programs.IsDraft text draft → told ≡ told_of (scl_flaws draft) → AreTold text told
  program_told draft is_by drafted all =
      record { grammar = grammars.Scl; is_by = is_by; are = inl (record { draft = draft; drafted = drafted; all = all }) }

  pub no_program : (b : FaultKind) (at : ℕ) → IsReadBy text grammars.Scl → programs.IsDraftFault text (read.Text b at) → told ≡ [] → AreTold text told
  no_program b at is_by undrafted none =
      record { grammar = grammars.Scl; is_by = is_by; are = inr (record { broken = b; at = at; undrafted = undrafted; none = none }) }

-- What a text is that spells a chart without flaws, and what is wrong with another one.
use Rattle.std.specs.Prelude.{ℕ, ◌≡◌, ◌⊎◌, List, []}
use Rattle.sc_text.specs.declared.read_fault.FaultKind.{FaultKind}
use Rattle.sc_text.specs.declared.read_fault.ReadFault.{ReadFault}
use Rattle.sc_text.specs.declared.read_fault.ReadFault.TheVariants as fault
use Rattle.sc_text.specs.First.{IsFirst}
use Rattle.chart_reader.specs.declared.text_drafts.draft.DraftChart.{DraftChart}
use Rattle.chart_reader.specs.Reading.{IsDraft, IsDraftFault}
use Rattle.chart_reader.specs.Flaws.{chart_flaws}

-- the text spells a chart, this is its draft, and nothing is wrong with it
pub record IsSound (text : List ℕ) (draft : DraftChart) : Type 0 where
  pub drafted : IsDraft text draft
  pub flawless : chart_flaws draft ≡ []

-- the text spells a chart, and this is the first of the flaws of its draft
pub record IsFlawed (text : List ℕ) (b : FaultKind) (at : ℕ) : Type 0 where
  pub draft : DraftChart
  pub drafted : IsDraft text draft
  pub first : IsFirst (chart_flaws draft) (record { broken = b; at = at })

-- the text has no draft, or one with a flaw. That memory was refused says nothing of it
abbrev pub IsTextFault : List ℕ → ReadFault → Type 0
IsTextFault text (fault.Text b at) = IsDraftFault text (fault.Text b at) ⊎ IsFlawed text b at
IsTextFault text fault.Memory = Unit {0}

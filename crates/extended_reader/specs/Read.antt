-- What a text is read into: the extended chart that it spells.
use Rattle.std.specs.Prelude.{ℕ, ◌≡◌, ◌⊎◌, List, [], Result, MatchResult}
use Rattle.sc_text.specs.declared.read_fault.FaultKind.{FaultKind}
use Rattle.sc_text.specs.declared.read_fault.ReadFault.{ReadFault}
use Rattle.sc_text.specs.declared.read_fault.ReadFault.TheVariants as fault
use Rattle.extended_charts.specs.declared.extended.ExtendedChart.{ExtendedChart}
use Rattle.extended_reader.specs.declared.text_drafts.draft.ExtendedDraft.{ExtendedDraft}
use Rattle.extended_reader.specs.Reading.{IsExtendedDraft}
use Rattle.extended_reader.specs.Flaws.{extended_flaws}
use Rattle.extended_reader.specs.Checked.{IsTextFault}
use Rattle.extended_reader.specs.Resolved.{extended_of}

-- the text is one of the grammar of extended charts that keeps the rules, and spells this chart: it has a draft, in which
-- nothing is wrong
pub record IsRead (text : List ℕ) (chart : ExtendedChart) : Type 0 where
  pub draft : ExtendedDraft
  pub drafted : IsExtendedDraft text draft
  pub flawless : extended_flaws draft ≡ []
  pub spelled : chart ≡ extended_of draft

-- what is answered of a text: its chart exactly where it spells one, and its fault exactly where it has one. That memory
-- was refused says nothing of the text
pub record IsExact (text : List ℕ) (answer : Result ExtendedChart ReadFault) : Type 0 where
  pub spelled : (c : ExtendedChart) → IsRead text c → MatchResult answer (λ d. d ≡ c) (λ f. f ≡ fault.Memory)
  pub faulty : (b : FaultKind) (at : ℕ) → IsTextFault text (fault.Text b at)
      → MatchResult answer (λ d. ⊥) (λ f. (f ≡ fault.Text b at) ⊎ (f ≡ fault.Memory))

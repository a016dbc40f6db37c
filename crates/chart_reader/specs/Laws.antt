-- What holds of reading a text of a chart.
use Rattle.std.specs.Prelude.{ℕ, ◌≡◌, ◌⊎◌, List, Result, MatchResult}
use Rattle.core_charts.specs.Chart.{Chart}
use Rattle.sc_text.specs.declared.read_fault.FaultKind.{FaultKind}
use Rattle.sc_text.specs.declared.read_fault.ReadFault.{ReadFault}
use Rattle.sc_text.specs.declared.read_fault.ReadFault.TheVariants as fault
use Rattle.chart_reader.specs.Checked.{IsTextFault}
use Rattle.chart_reader.specs.Read.{IsRead}

-- each text has one answer: the chart that it spells, or its fault, and not both
pub record ChartTextsHaveOneAnswer : Type 0 where
  pub one_chart : (text : List ℕ) (c d : Chart) → IsRead text c → IsRead text d → c ≡ d
  pub no_fault : (text : List ℕ) (c : Chart) (b : FaultKind) (at : ℕ) → IsRead text c → ¬ IsTextFault text (fault.Text b at)
  pub one_fault : (text : List ℕ) (b c : FaultKind) (at place : ℕ) → IsTextFault text (fault.Text b at) → IsTextFault text (fault.Text c place)
      → (b ≡ c) × (at ≡ place)

-- what is answered of a text: its chart exactly where it spells one, and its fault exactly where it has one. That memory
-- was refused says nothing of the text
pub record IsExact (text : List ℕ) (answer : Result Chart ReadFault) : Type 0 where
  pub spelled : (c : Chart) → IsRead text c → MatchResult answer (λ d. d ≡ c) (λ f. f ≡ fault.Memory)
  pub faulty : (b : FaultKind) (at : ℕ) → IsTextFault text (fault.Text b at)
      → MatchResult answer (λ d. ⊥) (λ f. (f ≡ fault.Text b at) ⊎ (f ≡ fault.Memory))

-- What holds of reading a text of an extended chart.
use Rattle.std.specs.Prelude.{ℕ, ◌≡◌, List}
use Rattle.sc_text.specs.declared.read_fault.FaultKind.{FaultKind}
use Rattle.sc_text.specs.declared.read_fault.ReadFault.TheVariants as fault
use Rattle.extended_charts.specs.declared.extended.ExtendedChart.{ExtendedChart}
use Rattle.extended_reader.specs.Checked.{IsTextFault}
use Rattle.extended_reader.specs.Read.{IsRead}

-- each text has one answer: the extended chart that it spells, or its fault, and not both
pub record ExtendedTextsHaveOneAnswer : Type 0 where
  pub one_chart : (text : List ℕ) (c d : ExtendedChart) → IsRead text c → IsRead text d → c ≡ d
  pub no_fault : (text : List ℕ) (c : ExtendedChart) (b : FaultKind) (at : ℕ) → IsRead text c → ¬ IsTextFault text (fault.Text b at)
  pub one_fault : (text : List ℕ) (b c : FaultKind) (at place : ℕ) → IsTextFault text (fault.Text b at) → IsTextFault text (fault.Text c place)
      → (b ≡ c) × (at ≡ place)

-- The text of the chart to which the extended chart is reduced that bytes spell.
use Rattle.std.specs.Prelude.{ℕ, ◌≡◌, ◌⊎◌, List}
use Rattle.std.specs.Str.{IsUtf8}
use Rattle.sc_text.specs.declared.read_fault.FaultKind.TheVariants as broken
use Rattle.sc_text.specs.declared.read_fault.ReadFault.{ReadFault}
use Rattle.sc_text.specs.declared.read_fault.ReadFault.TheVariants as read
use Rattle.extended_charts.specs.declared.extended.ExtendedChart.{ExtendedChart}
use Rattle.extended_reader.specs.Checked.{IsTextFault}
use Rattle.extended_reader.specs.Read.{IsRead}
use Rattle.chart_texts.specs.ReducedText.{IsReducedText, LacksReducedText}
use Rattle.chart_texts.specs.declared.sources.Unreduced.{Unreduced}
use Rattle.chart_texts.specs.declared.sources.Unreduced.TheVariants as unreduced

-- these bytes are text, which spells an extended chart, and this is the text of the chart to which that is reduced
pub record HasReduced (bytes text : List ℕ) : Type 0 where
  pub is_text : IsUtf8 bytes
  pub chart : ExtendedChart
  pub read : IsRead bytes chart
  pub reduced : IsReducedText chart text

-- ---- why there is none

-- the bytes are no text, which is told of their first place, or text that spells no extended chart
abbrev pub SpellsNoExtended : List ℕ → ReadFault → Type 0
SpellsNoExtended bytes f = (¬ IsUtf8 bytes × (f ≡ read.Text broken.Token 0)) ⊎ (IsUtf8 bytes × IsTextFault bytes f)

-- these bytes are text, which spells an extended chart that has no text of a reduced one
pub record SpellsUnreduced (bytes : List ℕ) : Type 0 where
  pub is_text : IsUtf8 bytes
  pub chart : ExtendedChart
  pub read : IsRead bytes chart
  pub none : LacksReducedText chart

-- why bytes have no such text. That memory was refused says nothing of them
abbrev pub LacksReduced : List ℕ → Unreduced → Type 0
LacksReduced bytes (unreduced.Text f) = SpellsNoExtended bytes f
LacksReduced bytes unreduced.Limit = SpellsUnreduced bytes
LacksReduced bytes unreduced.Memory = Unit {0}

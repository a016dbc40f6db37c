-- The text of the core chart of a chart.
use Rattle.std.specs.Prelude.{ℕ, ◌≡◌, ◌⊎◌, Option, List}
use Rattle.std.specs.Str.{IsUtf8}
use Rattle.core_charts.specs.Chart.{Chart}
use Rattle.chart_reader.specs.Read.{IsRead}
use Rattle.abort_expansion.specs.Expansion.{IsExpandable}
use Rattle.abort_expansion.specs.declared.fault.ExpandFault.TheVariants as expanding
use Rattle.chart_texts.specs.CoreText.{IsCoreText, LacksCoreText}
use Rattle.compiler.specs.declared.fault.CompileFault.{CompileFault}
use Rattle.compiler.specs.declared.fault.CompileFault.TheVariants as compiling
use Rattle.image_charts.specs.Charts.{SpellsNoChart}
use Rattle.command_files.specs.declared.fault.LoadFault.{LoadFault}
use Rattle.command_files.specs.declared.fault.LoadFault.TheVariants as load
use Rattle.command_files.specs.Files.{Contents}
use Rattle.command_files.specs.Standing.{HasSource, SourceLacks}

-- ---- what there is

-- these bytes are text, which spells a chart, of whose core chart this is the text
pub record HasCore (bytes text : List ℕ) : Type 0 where
  pub is_text : IsUtf8 bytes
  pub chart : Chart
  pub read : IsRead bytes chart
  pub core : IsCoreText chart text

-- the text is that of the core chart of the chart in this file
pub record IsCoreIn (files : Option Contents) (name text : List ℕ) : Type 0 where
  pub bytes : List ℕ
  pub held : HasSource files name bytes
  pub core : HasCore bytes text

-- ---- why there is none

-- why a chart has no core text: it has no core chart, or that has no text; each is told as a limit that is passed
abbrev pub ChartLacksCore : Chart → CompileFault → Type 0
ChartLacksCore chart (compiling.Expansion expanding.Limit) = ¬ IsExpandable chart ⊎ LacksCoreText chart
ChartLacksCore chart (compiling.Expansion expanding.Memory) = Unit {0}
ChartLacksCore chart other = ⊥

-- these bytes are text, which spells a chart that has no core text, for this fault
pub record LacksCore (bytes : List ℕ) (f : CompileFault) : Type 0 where
  pub is_text : IsUtf8 bytes
  pub chart : Chart
  pub read : IsRead bytes chart
  pub none : ChartLacksCore chart f

-- why bytes have no core text: they are no text, or one that spells no chart, or a chart that has none
abbrev pub BytesLackCore : List ℕ → LoadFault → Type 0
BytesLackCore bytes load.Memory = Unit {0}
BytesLackCore bytes (load.Text f) = SpellsNoChart bytes f
BytesLackCore bytes (load.Program f) = LacksCore bytes f
BytesLackCore bytes other = ⊥

-- why a file has none
abbrev pub FileLacksCore : Option Contents → List ℕ → LoadFault → Type 0
FileLacksCore files name f = SourceLacks BytesLackCore files name f

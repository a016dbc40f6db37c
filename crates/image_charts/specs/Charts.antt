-- The chart of an image: the text that the image was compiled from, and which of the chart's states are active.
use Rattle.std.specs.Prelude.{ℕ, ◌≡◌, ◌≢◌, ◌⊎◌, List, string_bytes}
use Rattle.std.specs.Str.{IsUtf8}
use Rattle.sc_text.specs.declared.language.Language.TheVariants as language
use Rattle.sc_text.specs.FirstToken.{IsIn}
use Rattle.sc_text.specs.declared.read_fault.FaultKind.TheVariants as broken
use Rattle.sc_text.specs.declared.read_fault.ReadFault.{ReadFault}
use Rattle.sc_text.specs.declared.read_fault.ReadFault.TheVariants as read
use Rattle.sc_graph.specs.declared.control.Control.{Control}
use Rattle.core_charts.specs.Chart.{Chart}
use Rattle.chart_reader.specs.Checked.{IsTextFault}
use Rattle.chart_reader.specs.Read.{IsRead}
use Rattle.bytecode.specs.Image.{Image}
use Rattle.compiler.specs.Charts.{ChartLacksImage}
use Rattle.compiler.specs.declared.fault.CompileFault.{CompileFault}
use Rattle.node_states.specs.Active.{active_states}
use Rattle.core_charts.specs.Paths.{paths_of}
use Rattle.compiled_charts.specs.Compiled.{CompiledChart, IsCompiledChart}
use Rattle.command_files.specs.declared.fault.LoadFault.{LoadFault}
use Rattle.command_files.specs.declared.fault.LoadFault.TheVariants as fault
use Rattle.command_files.specs.FaultText.{shown_name}
use Rattle.state_traces.specs.Lines.{paths_at, states_member}
use Rattle.state_traces.specs.Trace.{Words}

-- a compiled chart, and the paths of its states
pub record NamedStates : Type 0 where
  pub compiled : CompiledChart
  pub paths : List (List ℕ)

-- the paths of the states that are active in a configuration, in the order of the text
abbrev pub active_paths : NamedStates → Control → List (List ℕ)
active_paths s c = paths_at s.paths (active_states s.compiled.nodes s.compiled.states c)

-- what a line of output tells of it
abbrev pub state_words : NamedStates → Words
state_words s c = states_member (active_paths s c)

-- these bytes are text, which spells a chart whose image this is
pub record IsChartOf (bytes : List ℕ) (image : Image) (states : NamedStates) : Type 0 where
  pub chart : Chart
  pub text : IsUtf8 bytes
  pub read : IsRead bytes chart
  pub compiled : IsCompiledChart chart states.compiled
  pub same : states.compiled.image ≡ image
  pub paths : states.paths ≡ paths_of chart

-- they are no text, which is told of their first place, or text that spells no chart
abbrev pub SpellsNoChart : List ℕ → ReadFault → Type 0
SpellsNoChart bytes f = (¬ IsUtf8 bytes × (f ≡ read.Text broken.Token 0)) ⊎ (IsUtf8 bytes × IsTextFault bytes f)

-- they spell a chart that has no image, for this fault
pub record LacksImage (bytes : List ℕ) (f : CompileFault) : Type 0 where
  pub chart : Chart
  pub text : IsUtf8 bytes
  pub read : IsRead bytes chart
  pub none : ChartLacksImage chart f

-- they spell a chart whose image is another one
pub record IsOtherChart (bytes : List ℕ) (image : Image) : Type 0 where
  pub chart : Chart
  pub text : IsUtf8 bytes
  pub read : IsRead bytes chart
  pub compiled : CompiledChart
  pub is : IsCompiledChart chart compiled
  pub differs : compiled.image ≢ image

-- why the bytes of the file of this name are not the chart of an image
abbrev pub IsNotChartOf : List ℕ → List ℕ → Image → LoadFault → Type 0
IsNotChartOf name bytes image fault.Memory = Unit {0}
IsNotChartOf name bytes image (fault.Text f) = SpellsNoChart bytes f
IsNotChartOf name bytes image (fault.Program f) = LacksImage bytes f
IsNotChartOf name bytes image (fault.Source shown) = (string_bytes shown ≡ shown_name name) × IsOtherChart bytes image
IsNotChartOf name bytes image other = ⊥

-- the bytes are no text, or one of SCL, which has no states
abbrev pub IsNoChart : List ℕ → Type 0
IsNoChart bytes = (¬ IsUtf8 bytes) ⊎ IsIn bytes language.Scl

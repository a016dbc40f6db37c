-- A chart beside an image: whether it is its own, and what is told of it then.
use Rattle.std.specs.Prelude.{ℕ, ◌≡◌, ◌≢◌, Option, List, string_bytes}
use Rattle.core_charts.specs.Chart.{Chart}
use Rattle.author_states.specs.Author.{AuthorsStates}
use Rattle.bytecode.specs.Image.{Image}
use Rattle.compiler.specs.Charts.{ChartLacksImage}
use Rattle.core_charts.specs.Paths.{paths_of}
use Rattle.compiled_charts.specs.Compiled.{CompiledChart, IsCompiledChart}
use Rattle.command_files.specs.declared.fault.LoadFault.{LoadFault}
use Rattle.command_files.specs.declared.fault.LoadFault.TheVariants as fault
use Rattle.command_files.specs.FaultText.{shown_name}
use Rattle.image_charts.specs.Charts.{NamedStates}
use Rattle.image_charts.specs.Written.{told_by}

-- the chart has this image, and these states are told of it
pub record TellsOfChart (chart : Chart) (image : Image) (authors : Option AuthorsStates) (states : NamedStates) : Type 0 where
  pub compiled : CompiledChart
  pub is : IsCompiledChart chart compiled
  pub same : compiled.image ≡ image
  pub told : states ≡ told_by authors (record { compiled = compiled; paths = paths_of chart })

-- the chart has another image
pub record HasAnother (chart : Chart) (image : Image) : Type 0 where
  pub compiled : CompiledChart
  pub is : IsCompiledChart chart compiled
  pub differs : compiled.image ≢ image

-- two images differ, which is told of the file of this name
abbrev pub Differ : List ℕ → Image → Image → LoadFault → Type 0
Differ name i j fault.Memory = Unit {0}
Differ name i j (fault.Source shown) = (string_bytes shown ≡ shown_name name) × (i ≢ j)
Differ name i j other = ⊥

-- why the chart in the file of this name is not that of an image
abbrev pub LacksIt : List ℕ → Chart → Image → LoadFault → Type 0
LacksIt name chart image fault.Memory = Unit {0}
LacksIt name chart image (fault.Program f) = ChartLacksImage chart f
LacksIt name chart image (fault.Source shown) = (string_bytes shown ≡ shown_name name) × HasAnother chart image
LacksIt name chart image other = ⊥

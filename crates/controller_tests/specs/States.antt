-- What is told of the states that are active where a trace differs.
use Rattle.std.specs.Prelude.{ℕ, ◌≡◌, ◌≢◌, ◌⊎◌, List, [], codes}
use Rattle.bytecode.specs.Image.{Image}
use Rattle.command_files.specs.declared.fault.LoadFault.{LoadFault}
use Rattle.command_files.specs.FaultText.{fault_text}
use Rattle.controller_tests.specs.Replay.{LacksTick, TellsStates}
use Rattle.image_charts.specs.Charts.{NamedStates}
use Rattle.image_charts.specs.Written.{HasNoChart, IsNoTextBeside, IsTextBeside}
use Rattle.node_states.specs.Active.{active_states}

-- a fault that is no refusal of memory, which is told by a number of its own
abbrev pub IsReal : LoadFault → Type 0
IsReal f = fault_text f ≢ codes "E52"

-- the paths of the states that are active where the tick of the line of this number ends; nothing where there is no such tick
abbrev pub TellsThem : NamedStates → Image → List ℕ → ℕ → List ℕ → Type 0
TellsThem s image ticks line said =
    TellsStates image s.paths (λ c. active_states s.compiled.nodes s.compiled.states c) ticks line said
    ⊎ ((said ≡ []) × LacksTick image ticks line)

-- these bytes are the text of a chart, or of an extended chart, of whose author's states that is told
pub record TellsOfChart (bytes : List ℕ) (image : Image) (ticks : List ℕ) (line : ℕ) (said : List ℕ) : Type 0 where
  pub states : NamedStates
  pub is : IsTextBeside bytes image states
  pub tells : TellsThem states image ticks line said

-- the bytes of the file of this name are a text, none of SCL, and for some fault not that of the image
pub record IsOtherText (name bytes : List ℕ) (image : Image) : Type 0 where
  pub chart : ¬ HasNoChart bytes
  pub fault : LoadFault
  pub none : IsNoTextBeside name bytes image fault
  pub real : IsReal fault

-- they have no states: they are no chart, or not that of the image
abbrev pub HasNoStates : List ℕ → List ℕ → Image → Type 0
HasNoStates name bytes image = HasNoChart bytes ⊎ IsOtherText name bytes image

-- what is told of the states: of a text that has none nothing
abbrev pub TellsActive : List ℕ → List ℕ → Image → List ℕ → ℕ → List ℕ → Type 0
TellsActive name bytes image ticks line said =
    TellsOfChart bytes image ticks line said ⊎ ((said ≡ []) × HasNoStates name bytes image)

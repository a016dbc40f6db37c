-- A stretch of one tick.
use Rattle.std.specs.Prelude.{◌≡◌, Option, MatchOption}
use Rattle.sc_values.specs.Runs.{IsOver}
use Rattle.sc_graph.specs.Machine.{machine}
use Rattle.sc_graph.specs.declared.control.Control.{Control}
use Rattle.sc_graph.specs.Tick.{Inputs, AreAccepted, start}
use Rattle.bytecode.specs.Image.{Image}
use Rattle.tick_core.specs.State.{InTick}

-- a later state of the same tick: of its image, and from where it began
pub record SameTick (s s' : InTick) : Type 0 where
  pub image_is : s'.image ≡ s.image
  pub begun_is : s'.begun ≡ s.begun

-- a later state of the same tick, in which nobody is enabled
pub record EndsTick (s s' : InTick) : Type 0 where
  pub same : SameTick s s'
  pub over : IsOver (machine s'.image.program) s'.present

-- a later state of the tick that began at c under these inputs, which are accepted
pub record Began (image : Image) (inputs : Inputs) (c : Control) (s : InTick) : Type 0 where
  pub accepted : AreAccepted image.program inputs
  pub image_is : s.image ≡ image
  pub begun_is : s.begun ≡ start image.program inputs c

-- the tick that was there is there, and nobody is enabled in it
abbrev pub Completed : Option InTick → Option InTick → Type 0
Completed last next = MatchOption last ⊥ (λ s. MatchOption next ⊥ (EndsTick s))

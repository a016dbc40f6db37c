-- Ticks of a machine, and what a call to it leaves.
use Rattle.std.specs.Prelude.{ℕ, ◌≡◌, ℤ, Option, Some, None, List, length, map}
use Rattle.sc_graph.specs.declared.control.Control.{Control}
use Rattle.sc_graph.specs.Tick.{Inputs, AreAccepted, Rests, initial, start}
use Rattle.sc_graph.specs.Valid.{IsValid}
use Rattle.bytecode.specs.Image.{Image}
use Rattle.bytecode.specs.Reading.Image.{version_of}
use Rattle.bytecode.specs.Spells.{Spells}
use Rattle.tick_core.specs.Whole.{WholeTick}
use Rattle.embedded_machine.specs.Cells.{HoldControl, inputs_in, value_cell}
use Rattle.embedded_machine.specs.Opened.{OpenedImage}

-- a machine between two ticks: what is opened, and the configuration in which it rests
pub record Resting : Type 0 where
  pub opened : OpenedImage
  pub control : Control

-- under these inputs, which are accepted, a whole tick of so many steps leads from c to d, its only end
pub record Reacts (image : Image) (inputs : Inputs) (c d : Control) (steps : ℕ) : Type 0 where
  pub accepted : AreAccepted image.program inputs
  pub run : List ℕ
  pub tick : WholeTick image (start image.program inputs c) run d
  pub count : steps ≡ length run

-- these bytes spell this valid image
pub record SpellValid (bytes : List ℕ) (image : Image) : Type 0 where
  pub spelt : Spells (version_of bytes) bytes image
  pub valid : IsValid image.program image.tables

-- a tick by the inputs in cells leads from one machine to another, which is of the same image
pub record Ticked (inputs : List ℤ) (steps : ℕ) (before after : Resting) : Type 0 where
  pub same : after.opened ≡ before.opened
  pub reacts : Reacts before.opened.image (inputs_in before.opened.image.program.variables inputs) before.control after.control steps

-- the cells hold the values of the variables of a machine
abbrev pub ShowValues : List ℤ → Resting → Type 0
ShowValues cells m = map value_cell m.control.variables ≡ cells

-- what a handle holds before and after a tick, whose values are then in cells
abbrev pub TickedHeld : (inputs values : List ℤ) (steps : ℕ) (before after : Option Resting) → Type 0
TickedHeld inputs values steps (Some m) (Some n) = Ticked inputs steps m n × ShowValues values n
TickedHeld inputs values steps other others = ⊥

-- the machine goes into the configuration in these cells, in which it rests
pub record Restored (values : List ℤ) (statuses : List ℕ) (before after : Resting) : Type 0 where
  pub same : after.opened ≡ before.opened
  pub held : HoldControl values statuses after.control
  pub rests : Rests before.opened.image.program after.control

abbrev pub RestoredHeld : List ℤ → List ℕ → (before after : Option Resting) → Type 0
RestoredHeld values statuses (Some m) (Some n) = Restored values statuses m n
RestoredHeld values statuses other others = ⊥

-- the machine before its first tick
abbrev pub IsFirst : OpenedImage → Resting → Type 0
IsFirst opened m = (m.opened ≡ opened) × (m.control ≡ initial opened.image.program)

-- the machine goes before its first tick again
abbrev pub ResetHeld : (before after : Option Resting) → Type 0
ResetHeld (Some m) (Some n) = IsFirst m.opened n
ResetHeld other others = ⊥

-- a handle holds a machine of which this holds
abbrev pub Holds : Option Resting → (Resting → Type 0) → Type 0
Holds (Some m) says = says m
Holds None says = ⊥

-- What exports tell.
use Rattle.std.specs.Prelude.{ℕ, ◌≡◌, ℤ, pos, List, Option, length}
use Rattle.command_files.specs.declared.fault.LoadFault.{LoadFault}
use Rattle.command_files.specs.FaultText.{fault_text}
use Rattle.embedded_machine.specs.Buffers.{BeginsAs}
use Rattle.embedded_machine.specs.Opened.{OpenedImage, no_states}
use Rattle.embedded_machine.specs.declared.fault.MachineFault.{MachineFault}
use Rattle.embedded_machine.specs.declared.fault.MachineFault.TheVariants as fault
use Rattle.embedded_machine.specs.Refusals.{names_out, states_out}
use Rattle.embedded_machine.specs.Ticks.{Holds, IsFirst, Resting, SpellValid}
use Rattle.embedded_machine.specs.Texts.{IsNoImageOf, IsOpenedText}
use Rattle.sct_c.specs.declared.Counts.{Counts}

-- the status of each reason for which a machine refuses, as the header has them
abbrev pub status_of : MachineFault → ℤ
status_of fault.Closed = pos 1
status_of fault.Memory = pos 2
status_of fault.Number = pos 5
status_of fault.Input = pos 7
status_of fault.Room = pos 8
status_of fault.Control = pos 9

-- the status is that of a reason of which this holds
pub record Tells (status : ℤ) (Is : MachineFault → Type 0) : Type 0 where
  pub reason : MachineFault
  pub status_is : status ≡ status_of reason
  pub reason_is : Is reason

-- how much there is of what is opened
pub record IsCounted (opened : OpenedImage) (counts : Counts) : Type 0 where
  pub variables : counts.variables ≡ length opened.image.program.variables
  pub threads : counts.threads ≡ length opened.image.program.threads
  pub names : counts.names ≡ length (names_out opened)
  pub states : counts.states ≡ length opened.states.paths
  pub state_names : counts.state_names ≡ length (states_out opened)

-- a buffer begins with the words of a fault, as far as they have room, and this is how many they are
pub record TellsWhy (text words : List ℕ) (count : ℕ) : Type 0 where
  pub begins : BeginsAs text words
  pub count_is : count ≡ length text

-- the text has no image that could be given, for a fault of which a buffer tells
pub record TellsRefused (text words : List ℕ) (count : ℕ) : Type 0 where
  pub fault : LoadFault
  pub none : IsNoImageOf text fault
  pub tells : TellsWhy (fault_text fault) words count

-- a handle holds the machine, before its first tick, of the valid image that these bytes spell, and its parts are counted
pub record OpensImage (bytes : List ℕ) (held : Option Resting) (counts : Counts) : Type 0 where
  pub opened : OpenedImage
  pub spelt : SpellValid bytes opened.image
  pub states : opened.states ≡ no_states
  pub first : Holds held (IsFirst opened)
  pub counted : IsCounted opened counts

-- a handle holds the machine, before its first tick, of the image of what this text spells, with the states of that, and
-- its parts are counted
pub record OpensText (text : List ℕ) (held : Option Resting) (counts : Counts) : Type 0 where
  pub opened : OpenedImage
  pub is : IsOpenedText text opened
  pub first : Holds held (IsFirst opened)
  pub counted : IsCounted opened counts

-- What is left where an input is played by an image, and the active states of its chart are told.
use Rattle.std.specs.Prelude.{ℕ, ◌≡◌, false, Option, List}
use Rattle.bytecode.specs.Image.{Image}
use Rattle.command_files.specs.Files.{Contents}
use Rattle.image_charts.specs.Charts.{NamedStates, state_words}
use Rattle.image_charts.specs.Files.{FilesLackStates, HasStates}
use Rattle.trace_lines.specs.declared.causes.cause.Cause.{Cause}
use Rattle.trace_player.specs.declared.player.PlayFault.{PlayFault}
use Rattle.trace_player.specs.Trace.{Good}
use Rattle.state_traces.specs.Trace.{Leaves, Plays, Words}
use Rattle.ruled_runs.specs.Met.{IsMet}
use Rattle.sct_command.specs.declared.fault.Fault.{Fault}
use Rattle.sct_command.specs.declared.fault.Fault.TheVariants as fault

-- the whole trace of the input by that image was written, with the states that are active behind each tick
pub record PlaysStates (files : Option Contents) (name chart : List ℕ) (input old new : Option (List ℕ)) : Type 0 where
  pub image : Image
  pub states : NamedStates
  pub has : HasStates files name chart image states
  pub out : List (List ℕ)
  pub plays : Plays (state_words states) image input old new out Good

-- what the player leaves that refuses the input, and the cause that is known of it
pub record StopsStates (files : Option Contents) (name chart : List ℕ) (input old new : Option (List ℕ))
    (f : PlayFault) (cause : Option Cause) : Type 0 where
  pub image : Image
  pub states : NamedStates
  pub has : HasStates files name chart image states
  pub leaves : Leaves (state_words states) image input old new f
  pub met : IsMet false image.program.variables input f cause

-- what a player leaves that refuses an input of an image, and the cause that is known of it
abbrev pub RefusesWords : Words → Image → Option (List ℕ) → Option (List ℕ) → Option (List ℕ) → Fault → Type 0
RefusesWords words image input old new (fault.Play f cause) =
    Leaves words image input old new f × IsMet false image.program.variables input f cause
RefusesWords words image input old new other = ⊥

-- what such a run leaves that is refused: nothing was written, but what the player left
abbrev pub RefusesStates : Option Contents → List ℕ → List ℕ → Option (List ℕ) → Option (List ℕ) → Option (List ℕ)
    → Fault → Type 0
RefusesStates files name chart input old new (fault.Play f cause) = StopsStates files name chart input old new f cause
RefusesStates files name chart input old new (fault.Files f) = FilesLackStates files name chart f × (new ≡ old)
RefusesStates files name chart input old new other = ⊥

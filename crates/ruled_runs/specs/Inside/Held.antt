-- What a run leaves by an image that is at hand, from a place on.
use Rattle.std.specs.Prelude.{ℕ, ◌≡◌, Option, List}
use Rattle.bytecode.specs.Image.{Image}
use Rattle.command_files.specs.declared.fault.LoadFault.{LoadFault}
use Rattle.command_files.specs.Files.{Contents}
use Rattle.trace_player.specs.Trace.{Good}
use Rattle.ruled_runs.specs.declared.traces.place.RunPlace.{RunPlace}
use Rattle.ruled_runs.specs.declared.traces.rules.Rules.{Rules}
use Rattle.ruled_runs.specs.Trace.{Leaves, Plays}
use Rattle.ruled_runs.specs.Met.{IsMet}
use Rattle.ruled_runs.specs.Places.{IsKept, IsNotKept}
use Rattle.ruled_runs.specs.declared.fault.RuledFault.{RuledFault}
use Rattle.ruled_runs.specs.declared.fault.RuledFault.TheVariants as fault

-- what the player leaves that refuses an input
abbrev pub RefusesPlaying : Rules → Image → RunPlace → Option (List ℕ) → Option (List ℕ) → Option (List ℕ) → RuledFault → Type 0
RefusesPlaying rules image first input old new (fault.Play f cause) =
    Leaves rules image first input old new f × IsMet rules.strict image.program.variables input f cause
RefusesPlaying rules image first input old new other = ⊥

-- the whole trace was written, and the place was kept where it ended
pub record PlaysAndKeeps (rules : Rules) (image : Image) (first : RunPlace) (files files' : Option Contents) (save : Option (List ℕ))
    (input old new : Option (List ℕ)) : Type 0 where
  pub out : List (List ℕ)
  pub last : RunPlace
  pub plays : Plays rules image first input old new out Good last
  pub kept : IsKept files files' save last

-- it was written, and the place could not be kept
pub record PlaysAndLoses (rules : Rules) (image : Image) (first : RunPlace) (save : Option (List ℕ))
    (input old new : Option (List ℕ)) (f : LoadFault) : Type 0 where
  pub out : List (List ℕ)
  pub last : RunPlace
  pub plays : Plays rules image first input old new out Good last
  pub lost : IsNotKept save f

abbrev pub RefusesKeeping : Rules → Image → RunPlace → Option Contents → Option Contents → Option (List ℕ) → Option (List ℕ) → Option (List ℕ)
    → Option (List ℕ) → RuledFault → Type 0
RefusesKeeping rules image first files files' save input old new (fault.Play f cause) =
    RefusesPlaying rules image first input old new (fault.Play f cause) × (files' ≡ files)
RefusesKeeping rules image first files files' save input old new (fault.Files f) =
    PlaysAndLoses rules image first save input old new f × (files' ≡ files)
RefusesKeeping rules image first files files' save input old new other = ⊥

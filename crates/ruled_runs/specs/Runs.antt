-- What a run under rules leaves.
use Rattle.std.specs.Prelude.{ℕ, ◌≡◌, ◌⊎◌, Option, List, string_bytes}
use Rattle.bytecode.specs.Image.{Image}
use Rattle.command_files.specs.declared.fault.LoadFault.{LoadFault}
use Rattle.command_files.specs.Files.{Contents}
use Rattle.command_files.specs.Images.{FileLacksImage, IsLoaded}
use Rattle.trace_lines.specs.declared.causes.cause.Cause.{Cause}
use Rattle.trace_player.specs.declared.player.PlayFault.{PlayFault}
use Rattle.trace_player.specs.Trace.{Good}
use Rattle.ruled_runs.specs.declared.traces.place.RunPlace.{RunPlace}
use Rattle.ruled_runs.specs.declared.traces.rules.Rules.{Rules}
use Rattle.ruled_runs.specs.Trace.{Leaves, Plays}
use Rattle.ruled_runs.specs.Met.{IsMet}
use Rattle.ruled_runs.specs.Places.{BeginsAt, HoldsNoPlace, IsKept, IsNotKept, IsUnread}
use Rattle.ruled_runs.specs.declared.fault.RuledFault.{RuledFault}
use Rattle.ruled_runs.specs.declared.fault.RuledFault.TheVariants as fault

-- the whole trace of the input under these rules by the image in this file, from its place on, was written, and the place
-- was kept where it ended
pub record RunsBy (rules : Rules) (files files' : Option Contents) (name : List ℕ) (from save : Option (List ℕ))
    (input old new : Option (List ℕ)) : Type 0 where
  pub image : Image
  pub loaded : IsLoaded files name image
  pub first : RunPlace
  pub begins : BeginsAt files image.program from first
  pub out : List (List ℕ)
  pub last : RunPlace
  pub plays : Plays rules image first input old new out Good last
  pub kept : IsKept files files' save last

-- it was written, and the place could not be kept, for this fault
pub record LosesPlace (rules : Rules) (files : Option Contents) (name : List ℕ) (from save : Option (List ℕ)) (input old new : Option (List ℕ))
    (f : LoadFault) : Type 0 where
  pub image : Image
  pub loaded : IsLoaded files name image
  pub first : RunPlace
  pub begins : BeginsAt files image.program from first
  pub out : List (List ℕ)
  pub last : RunPlace
  pub plays : Plays rules image first input old new out Good last
  pub lost : IsNotKept save f

-- by the image in this file no run can go on where another file says, whose name is shown so
pub record LacksPlace (files : Option Contents) (name : List ℕ) (from : Option (List ℕ)) (shown : List ℕ) : Type 0 where
  pub image : Image
  pub loaded : IsLoaded files name image
  pub none : HoldsNoPlace files image.program from shown

-- what the player leaves that refuses the input, and the cause that is known of it
pub record StopsAt (rules : Rules) (files : Option Contents) (name : List ℕ) (from : Option (List ℕ)) (input old new : Option (List ℕ))
    (f : PlayFault) (cause : Option Cause) : Type 0 where
  pub image : Image
  pub loaded : IsLoaded files name image
  pub first : RunPlace
  pub begins : BeginsAt files image.program from first
  pub leaves : Leaves rules image first input old new f
  pub met : IsMet rules.strict image.program.variables input f cause

-- what a run leaves that is refused: no file changed, and nothing was written but what the player left
abbrev pub RefusesRun : Rules → Option Contents → Option Contents → List ℕ → Option (List ℕ) → Option (List ℕ) → Option (List ℕ) → Option (List ℕ)
    → Option (List ℕ) → RuledFault → Type 0
RefusesRun rules files files' name from save input old new (fault.Play f cause) = StopsAt rules files name from input old new f cause × (files' ≡ files)
RefusesRun rules files files' name from save input old new (fault.Place shown) =
    LacksPlace files name from (string_bytes shown) × (files' ≡ files) × (new ≡ old)
RefusesRun rules files files' name from save input old new (fault.Files f) =
    ((FileLacksImage files name f ⊎ IsUnread files from f) × (files' ≡ files) × (new ≡ old))
    ⊎ (LosesPlace rules files name from save input old new f × (files' ≡ files))

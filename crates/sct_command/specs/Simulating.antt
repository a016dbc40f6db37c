-- What is left where a controller is stepped by hand.
use Rattle.std.specs.Prelude.{ℕ, ◌≡◌, ◌⊎◌, Option, None, List}
use Rattle.bytecode.specs.Image.{Image}
use Rattle.command_files.specs.declared.fault.LoadFault.{LoadFault}
use Rattle.command_files.specs.Files.{Contents, HasBytes}
use Rattle.command_files.specs.Sources.{FileLacksCompiled, IsCompiledFrom}
use Rattle.image_charts.specs.Written.{IsNoTextBeside, MakesImage}
use Rattle.trace_lines.specs.declared.causes.cause.Cause.{Cause}
use Rattle.simulation.specs.Lines as typed
use Rattle.trace_player.specs.declared.player.PlayFault.{PlayFault}
use Rattle.sct_command.specs.declared.fault.Fault.{Fault}
use Rattle.sct_command.specs.declared.fault.Fault.TheVariants as fault

-- the program in this file has an image, which was stepped by each line that was typed, and the answers were written
pub record Simulates (files : Option Contents) (name : List ℕ) (input old new : Option (List ℕ)) : Type 0 where
  pub image : Image
  pub compiled : IsCompiledFrom files name image
  pub answered : typed.Simulates image input old new

-- it was stepped by the first lines, and of what ended that no cause is known
pub record StopsSimulation (files : Option Contents) (name : List ℕ) (input old new : Option (List ℕ))
    (f : PlayFault) (cause : Option Cause) : Type 0 where
  pub image : Image
  pub compiled : IsCompiledFrom files name image
  pub stops : typed.Stops image input old new f
  pub unknown : cause ≡ None

-- the program in this file has an image, of which its text has no states, for this fault
pub record LacksStates (files : Option Contents) (name : List ℕ) (f : LoadFault) : Type 0 where
  pub image : Image
  pub bytes : List ℕ
  pub held : HasBytes files name bytes
  pub makes : MakesImage bytes image
  pub none : IsNoTextBeside name bytes image f

-- there is no program in this file, or it has no image, or no states
abbrev pub LacksModel : Option Contents → List ℕ → LoadFault → Type 0
LacksModel files name f = FileLacksCompiled files name f ⊎ LacksStates files name f

-- what stepping leaves that is refused: where there is nothing to step, nothing was written
abbrev pub RefusesSimulation : Option Contents → List ℕ → Option (List ℕ) → Option (List ℕ) → Option (List ℕ) → Fault → Type 0
RefusesSimulation files name input old new (fault.Play f cause) = StopsSimulation files name input old new f cause
RefusesSimulation files name input old new (fault.Files f) = LacksModel files name f × (new ≡ old)
RefusesSimulation files name input old new other = ⊥

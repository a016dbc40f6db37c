-- What is left where an image is written to a file.
use Rattle.std.specs.Prelude.{ℕ, ◌≡◌, Option, List}
use Rattle.std.specs.Io.KnownBytes.{Appends}
use Rattle.sc_values.specs.Streams.{GrowsInto}
use Rattle.bytecode.specs.Image.{Image}
use Rattle.bytecode.specs.Spells.{Spells}
use Rattle.command_files.specs.Files.{Contents, Stores}
use Rattle.command_files.specs.Storing.{IsNotStored}
use Rattle.command_texts.specs.Summary.{summary_of}
use Rattle.sct_command.specs.declared.fault.Fault.{Fault}
use Rattle.sct_command.specs.declared.fault.Fault.TheVariants as fault

-- the file of this name has now the image, in version 2, and the image's summary was written
pub record KeepsImage (image : Image) (files files' : Option Contents) (to : List ℕ) (old new : Option (List ℕ)) : Type 0 where
  pub bytes : List ℕ
  pub spelt : Spells 2 bytes image
  pub stored : Stores files files' to bytes
  pub written : Appends old new (summary_of image)

-- the image was stored, and a beginning of its summary was written
pub record KeepsPart (image : Image) (files files' : Option Contents) (to : List ℕ) (old new : Option (List ℕ)) : Type 0 where
  pub bytes : List ℕ
  pub spelt : Spells 2 bytes image
  pub stored : Stores files files' to bytes
  pub in_part : GrowsInto old new (summary_of image)

-- what is left where that is refused: no file was written and nothing else, but where the output failed
abbrev pub RefusesKeeping : Image → Option Contents → Option Contents → List ℕ → Option (List ℕ) → Option (List ℕ)
    → Fault → Type 0
RefusesKeeping image files files' to old new fault.Write = KeepsPart image files files' to old new
RefusesKeeping image files files' to old new (fault.Files f) = IsNotStored to f × (files' ≡ files) × (new ≡ old)
RefusesKeeping image files files' to old new other = ⊥

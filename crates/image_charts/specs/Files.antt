-- An image in one file, and in another the text that it was compiled from.
use Rattle.std.specs.Prelude.{ℕ, ◌⊎◌, Option, List}
use Rattle.bytecode.specs.Image.{Image}
use Rattle.command_files.specs.declared.fault.LoadFault.{LoadFault}
use Rattle.command_files.specs.declared.fault.LoadFault.TheVariants as load
use Rattle.command_files.specs.Files.{Contents, HasBytes}
use Rattle.command_files.specs.Images.{IsLoaded, FileLacksImage}
use Rattle.command_files.specs.Standing.{FileLacksSource, HasSource}
use Rattle.image_charts.specs.Charts.{IsNotChartOf, NamedStates}
use Rattle.image_charts.specs.Written.{IsTextBeside}

-- there is a valid image in one file, and in the other the text of its chart, of whose author these are the states
pub record HasStates (files : Option Contents) (name chart : List ℕ) (image : Image) (states : NamedStates) : Type 0 where
  pub loaded : IsLoaded files name image
  pub written : List ℕ
  pub held : HasBytes files chart written
  pub is : IsTextBeside written image states

-- there is a valid image in one file, and in the other a source that is not the chart of the image, for this fault
pub record IsAnotherChart (files : Option Contents) (name chart : List ℕ) (f : LoadFault) : Type 0 where
  pub image : Image
  pub loaded : IsLoaded files name image
  pub bytes : List ℕ
  pub held : HasSource files chart bytes
  pub not : IsNotChartOf chart bytes image f

-- there is no valid image in one file; or there is no source in the other, or that is not the chart of the image. A refusal of
-- memory says nothing of them
abbrev pub FilesLackStates : Option Contents → List ℕ → List ℕ → LoadFault → Type 0
FilesLackStates files name chart load.Memory = Unit {0}
FilesLackStates files name chart f = FileLacksImage files name f ⊎ FileLacksSource files chart f ⊎ IsAnotherChart files name chart f

-- The bytes of images, in version 2 of the layout.
use Rattle.std.specs.Prelude.{ℕ, Option, List}
use Rattle.bytecode.specs.Image.{Image}
use Rattle.bytecode.specs.Spells.{Spells}
use Rattle.command_files.specs.Files.{Contents}
use Rattle.command_files.specs.Images.{IsLoaded}

-- those of the image in this file
pub record AreOfImage (files : Option Contents) (name bytes : List ℕ) : Type 0 where
  pub image : Image
  pub loaded : IsLoaded files name image
  pub spelt : Spells 2 bytes image
